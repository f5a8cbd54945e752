-- When timers end after one of them was armed or disarmed.
use Rattle.law_names.proofs.Table.{Timer, armed, disarmed, end_of, index_of, is_armed, is_empty, length_of, only_ping}
use Rattle.mon_msg.specs.Protocol.Timers.{armed_once}
use Rattle.mon_wire.specs.declared.phase.Timer.TheVariants as timer
use Rattle.quorum_timed.proofs.Armed.{Timers, at_place, elsewhere}
use Rattle.std.proofs.Common.{Bool, List, None, Option, Some, [], ap, arith, cond, false, inl, inr, is_some, length, min, not, refl, slice_index_or, subst, sym, true, ℕ, ◌+◌, ◌^◌, ◌∙◌, ◌∷◌, ◌≡◌, ◌≤◌, ◌⊎◌}
use Rattle.std.proofs.lemmas.Bool.Decides.{eqb_tells}
use Rattle.std.proofs.lemmas.Bool.{cond_both}
use Rattle.std.proofs.lemmas.List.{length-set}
use Rattle.std.proofs.lemmas.Option.{none-some}

kinds : List Timer
kinds = timer.Probe ∷ timer.Election ∷ timer.Collect ∷ timer.Accept ∷ timer.Renew ∷ timer.LeaseAck ∷ timer.Lease ∷ timer.Sync ∷ timer.Step ∷ timer.Propose ∷ timer.Ping ∷ []

in_place : (t : Timer) → slice_index_or kinds (index_of t) timer.Probe ≡ t
unfolding kinds
in_place timer.Probe = refl
in_place other = refl

-- kinds are told apart by their numbers
pub kind_is : (t u : Timer) → index_of t ≡ index_of u → t ≡ u
kind_is t u e = sym (in_place t) ∙ ap (λ (k : ℕ). slice_index_or kinds k timer.Probe) e ∙ in_place u

pub same_kind_or : (t u : Timer) → (t ≡ u) ⊎ (index_of t ≡ index_of u → ⊥)
same_kind_or t u = elim (eqb_tells (index_of t) (index_of u)) [ inl e ↦ inl (kind_is t u e.1) | inr e ↦ inr e.1 ]

pub armed_size : (now : ℕ) (u : Timer) (ts : Timers) → length ts ≡ 11 → length (armed now u ts) ≡ 11
armed_size now u ts size = length-set ts (index_of u) _ ∙ size

pub disarmed_size : (u : Timer) (ts : Timers) → length ts ≡ 11 → length (disarmed u ts) ≡ 11
disarmed_size u ts size = length-set ts (index_of u) None ∙ size

-- a timer that is armed now ends after its length
pub ends : (now : ℕ) (u : Timer) (ts : Timers) → length ts ≡ 11 → now + length_of u ≤ 2 ^ 62 → end_of u (armed now u ts) ≡ Some (now + length_of u)
ends now u ts size room =
    let short : min (now + length_of u) (2 ^ 62) ≡ now + length_of u = omega arith in
    at_place u u ts (Some (min (now + length_of u) (2 ^ 62))) size refl ∙ ap Some short

pub still_ends : (now : ℕ) (t u : Timer) (ts : Timers) → (index_of t ≡ index_of u → ⊥) → end_of t (armed now u ts) ≡ end_of t ts
still_ends now t u ts other = elsewhere t u ts (Some (min (now + length_of u) (2 ^ 62))) other

pub off : (u : Timer) (ts : Timers) → length ts ≡ 11 → end_of u (disarmed u ts) ≡ None
off u ts size = at_place u u ts None size refl

pub still_on : (t u : Timer) (ts : Timers) → (index_of t ≡ index_of u → ⊥) → end_of t (disarmed u ts) ≡ end_of t ts
still_on t u ts other = elsewhere t u ts None other

-- a timer has one end
pub one_end : (o : Option ℕ) (a b : ℕ) → o ≡ Some a → o ≡ Some b → a ≡ b
one_end o a b x y = let same : Some a ≡ Some b = sym x ∙ y in cc

pub no_end : {A : Type 0} (o : Option ℕ) (a : ℕ) → o ≡ None → o ≡ Some a → A
no_end o a x y = absurd (none-some a (sym x ∙ y))

-- ---- the timer of commands that wait

-- no other timer was changed
pub record Tidy (before after : Timers) : Type 0 where
  pub size : length after ≡ length before
  pub same : (kind : Timer) → (kind ≡ timer.Propose → ⊥) → end_of kind after ≡ end_of kind before

pub unchanged : (ts : Timers) → Tidy ts ts
unchanged ts = record { size = refl; same = λ _ _. refl }

not_propose : (kind : Timer) → (kind ≡ timer.Propose → ⊥) → index_of kind ≡ index_of timer.Propose → ⊥
not_propose kind ne e = ne (kind_is kind timer.Propose e)

pub with_propose : (now : ℕ) (before after : Timers) → Tidy before after → Tidy before (armed now timer.Propose after)
with_propose now before after T = record {
  size = length-set after (index_of timer.Propose) _ ∙ T.size;
  same = λ kind ne. still_ends now kind timer.Propose after (not_propose kind ne) ∙ T.same kind ne;
}

pub without_propose : (before after : Timers) → Tidy before after → Tidy before (disarmed timer.Propose after)
without_propose before after T = record {
  size = length-set after (index_of timer.Propose) None ∙ T.size;
  same = λ kind ne. still_on kind timer.Propose after (not_propose kind ne) ∙ T.same kind ne;
}

pub maybe_propose : (test : Bool) (now : ℕ) (before after : Timers) → Tidy before after → Tidy before (cond test (armed now timer.Propose after) after)
maybe_propose test now before after T = cond_both test (armed now timer.Propose after) after (Tidy before) (λ _. with_propose now before after T) (λ _. T)

-- ---- a phase that is left

pub only_ping_is : (ts : Timers) (kind : Timer) (end : ℕ) → end_of kind (only_ping ts) ≡ Some end → (kind ≡ timer.Ping) × (end_of timer.Ping ts ≡ Some end)
only_ping_is ts timer.Ping end e = (refl, e)
only_ping_is ts other end e = absurd (none-some end e)

-- ---- the timers of a leader that renewed the leases

-- `empty` says whether it has no peons
abbrev pub extended_timers : (now : ℕ) (empty : Bool) → Timers → Timers
extended_timers now empty ts = cond (not empty) (armed_once now timer.LeaseAck (armed now timer.Renew ts)) (armed now timer.Renew ts)

-- the timer of commands that wait is armed if there are any
abbrev pub maybe_armed : Bool → (now : ℕ) → Timers → Timers
maybe_armed test now ts = cond test (armed now timer.Propose ts) ts

module _ (now : ℕ) (room : now + 10000 ≤ 2 ^ 62) (ts : Timers) (size : length ts ≡ 11)
    (bare : (kind : Timer) (end : ℕ) → end_of kind ts ≡ Some end → kind ≡ timer.Propose) where
  -- only these are armed, and end after their lengths
  pub record Extended (after : Timers) : Type 0 where
    pub kinds : length after ≡ 11
    pub renews : end_of timer.Renew after ≡ Some (now + 3000)
    pub awaits : (end : ℕ) → end_of timer.LeaseAck after ≡ Some end → end ≡ now + 10000
    pub only : (kind : Timer) (end : ℕ) → end_of kind after ≡ Some end → (kind ≡ timer.Renew) ⊎ (kind ≡ timer.LeaseAck) ⊎ (kind ≡ timer.Propose)

  abbrev renewing : Timers
  renewing = armed now timer.Renew ts

  renewing_size : length renewing ≡ 11
  renewing_size = armed_size now timer.Renew ts size

  renewing_ends : end_of timer.Renew renewing ≡ Some (now + 3000)
  renewing_ends = ends now timer.Renew ts size (omega arith)

  two_kinds : index_of timer.LeaseAck ≡ index_of timer.Propose → ⊥
  two_kinds e = omega arith

  unset : end_of timer.LeaseAck renewing ≡ None
  unset = still_ends now timer.LeaseAck timer.Renew ts (λ e. omega arith) ∙ by (end_of timer.LeaseAck ts) refl
    where
      by : (o : Option ℕ) → end_of timer.LeaseAck ts ≡ o → o ≡ None
      by None e = refl
      by (Some end) e = absurd (two_kinds (ap index_of (bare timer.LeaseAck end e)))

  among : (kind : Timer) (end : ℕ) → end_of kind renewing ≡ Some end → (kind ≡ timer.Renew) ⊎ (kind ≡ timer.LeaseAck) ⊎ (kind ≡ timer.Propose)
  among kind end e = elim (same_kind_or kind timer.Renew) [
    | inl same ↦ inl same
    | inr ne ↦ inr (inr (bare kind end (sym (still_ends now kind timer.Renew ts ne) ∙ e)))
  ]

  set : armed_once now timer.LeaseAck renewing ≡ armed now timer.LeaseAck renewing
  set = let off : is_armed timer.LeaseAck renewing ≡ false = ap is_some unset in rw off refl

  awaiting : Extended (armed now timer.LeaseAck renewing)
  awaiting = record {
    kinds = armed_size now timer.LeaseAck renewing renewing_size;
    renews = still_ends now timer.Renew timer.LeaseAck renewing (λ e. omega arith) ∙ renewing_ends;
    awaits = λ end e. one_end _ end (now + 10000) e (ends now timer.LeaseAck renewing renewing_size room);
    only = λ kind end e. elim (same_kind_or kind timer.LeaseAck) [
      | inl same ↦ inr (inl same)
      | inr ne ↦ among kind end (sym (still_ends now kind timer.LeaseAck renewing ne) ∙ e)
    ];
  }

  extended : (empty : Bool) → Extended (extended_timers now empty ts)
  extended true = record { kinds = renewing_size; renews = renewing_ends; awaits = λ end e. no_end _ end unset e; only = among }
  extended false = subst Extended (sym set) awaiting

  pub all_extended : (test empty : Bool) → Extended (maybe_armed test now (extended_timers now empty ts))
  all_extended false empty = extended empty
  all_extended true empty =
      let E = extended empty in
      let after = extended_timers now empty ts in
      record {
        kinds = armed_size now timer.Propose after E.kinds;
        renews = still_ends now timer.Renew timer.Propose after (λ e. omega arith) ∙ E.renews;
        awaits = λ end e. E.awaits end (sym (still_ends now timer.LeaseAck timer.Propose after (λ e. omega arith)) ∙ e);
        only = λ kind end e. elim (same_kind_or kind timer.Propose) [
          | inl same ↦ inr (inr same)
          | inr ne ↦ E.only kind end (sym (still_ends now kind timer.Propose after ne) ∙ e)
        ];
      }

-- if commands wait, their timer ends now
pub armed_if_any : {A : Type 0} (xs : List A) (now : ℕ) (ts : Timers) → length ts ≡ 11 → now + 10000 ≤ 2 ^ 62 → (xs ≡ [] → ⊥) → end_of timer.Propose (maybe_armed (not (is_empty xs)) now ts) ≡ Some now
armed_if_any [] now ts size room some = absurd (some refl)
armed_if_any (x ∷ xs) now ts size room some = ends now timer.Propose ts size (omega arith) ∙ ap Some (omega arith)
