-- Timers that are armed and disarmed, and what a phase waits for.
use Rattle.law_names.proofs.Table.{Me, Phase, State, SyncStage, Timer, armed, disarmed, end_of, index_of, is_alone, is_armed, is_leading, length_of, only_ping, same_phase, unarmed}
use Rattle.mon_msg.specs.Protocol.Course.{timers_in}
use Rattle.mon_msg.specs.Protocol.Timers.{armed_once}
use Rattle.mon_msg.specs.declared.synchronization.SyncStage.TheVariants as sync
use Rattle.mon_wire.specs.declared.phase.Phase.TheVariants as phase
use Rattle.mon_wire.specs.declared.phase.Timer.TheVariants as timer
use Rattle.quorum_timed.specs.Waiting.{timer_of}
use Rattle.std.proofs.Common.{Bool, List, None, Option, Some, [], ap, arith, cond, eqb, false, inl, inr, is_some, length, min, not, refl, slice_index_or, slice_set, subst, sym, true, ℕ, ◌&&◌, ◌+◌, ◌<◌, ◌^◌, ◌||◌, ◌∙◌, ◌∷◌, ◌≡◌, ◌≤◌, ◌⊎◌}
use Rattle.std.proofs.lemmas.Bool.Decides.{eqb_tells}
use Rattle.std.proofs.lemmas.Bool.{cond_both, eqb-false, false≢true, or_left}
use Rattle.std.proofs.lemmas.Grind.{get_or-set_at}
use Rattle.std.proofs.lemmas.List.{get_or-set_other, length-set}
use Rattle.std.proofs.lemmas.Option.{none-some}

abbrev pub Timers : Type 0
Timers = List (Option ℕ)

-- ---- kinds by their numbers

lengths : List ℕ
lengths = 2000 ∷ 5000 ∷ 10000 ∷ 10000 ∷ 3000 ∷ 10000 ∷ 10000 ∷ 60000 ∷ 0 ∷ 0 ∷ 2000 ∷ []

by_index : (t : Timer) → slice_index_or lengths (index_of t) 0 ≡ length_of t
unfolding lengths
by_index timer.Probe = refl
by_index other = refl

below : (t : Timer) → index_of t < 11
below timer.Probe = omega arith
below other = omega arith

same_length : (t u : Timer) → index_of t ≡ index_of u → length_of t ≡ length_of u
same_length t u e = sym (by_index t) ∙ ap (λ (k : ℕ). slice_index_or lengths k 0) e ∙ by_index u

-- ---- timers of a monitor

-- there is a place for each kind, and none is armed for later than its length after b
pub record Good (b : ℕ) (ts : Timers) : Type 0 where
  pub size : length ts ≡ 11
  pub soon : (t : Timer) (end : ℕ) → end_of t ts ≡ Some end → end ≤ b + length_of t

pub at_place : (t u : Timer) (ts : Timers) (v : Option ℕ) → length ts ≡ 11 → index_of t ≡ index_of u → end_of t (slice_set ts (index_of u) v) ≡ v
at_place t u ts v size e = get_or-set_at ts (index_of u) (index_of t) v None e (subst (λ (k : ℕ). index_of u < k) (sym size) (below u))

pub elsewhere : (t u : Timer) (ts : Timers) (v : Option ℕ) → (index_of t ≡ index_of u → ⊥) → end_of t (slice_set ts (index_of u) v) ≡ end_of t ts
elsewhere t u ts v other = get_or-set_other ts (index_of u) (index_of t) v None other

module _ (b now : ℕ) (le : now ≤ b) where
  pub armed_good : (u : Timer) (ts : Timers) → Good b ts → Good b (armed now u ts)
  armed_good u ts G = record { size = length-set ts (index_of u) _ ∙ G.size; soon = λ t end h. soon t end h (eqb_tells (index_of t) (index_of u)) }
    where
      v : ℕ
      v = min (now + length_of u) (2 ^ 62)

      soon : (t : Timer) (end : ℕ) → end_of t (armed now u ts) ≡ Some end → ((eqb (index_of t) (index_of u) ≡ true) × (index_of t ≡ index_of u)) ⊎ ((eqb (index_of t) (index_of u) ≡ false) × (index_of t ≡ index_of u → ⊥)) → end ≤ b + length_of t
      soon t end h (inl e) =
          let is : Some v ≡ Some end = sym (at_place t u ts (Some v) G.size e.1) ∙ h in
          let same : v ≡ end = cc in
          let long : length_of t ≡ length_of u = same_length t u e.1 in
          omega arith
      soon t end h (inr e) = G.soon t end (sym (elsewhere t u ts (Some v) e.1) ∙ h)

module _ (b : ℕ) where
  pub disarmed_good : (u : Timer) (ts : Timers) → Good b ts → Good b (disarmed u ts)
  disarmed_good u ts G = record { size = length-set ts (index_of u) None ∙ G.size; soon = λ t end h. soon t end h (eqb_tells (index_of t) (index_of u)) }
    where
      soon : (t : Timer) (end : ℕ) → end_of t (disarmed u ts) ≡ Some end → ((eqb (index_of t) (index_of u) ≡ true) × (index_of t ≡ index_of u)) ⊎ ((eqb (index_of t) (index_of u) ≡ false) × (index_of t ≡ index_of u → ⊥)) → end ≤ b + length_of t
      soon t end h (inl e) = absurd (none-some end (sym (at_place t u ts None G.size e.1) ∙ h))
      soon t end h (inr e) = G.soon t end (sym (elsewhere t u ts None e.1) ∙ h)

  ping_good : (ts : Timers) → Good b ts → Good b (only_ping ts)
  ping_good ts G = record { size = refl; soon = soon }
    where
      soon : (t : Timer) (end : ℕ) → end_of t (only_ping ts) ≡ Some end → end ≤ b + length_of t
      soon timer.Ping end h = G.soon timer.Ping end h
      soon other end h = absurd (none-some end h)

  pub in_good : (p : Phase) (s : State) → Good b s.timers → Good b (timers_in p s)
  in_good p s G = cond_both (same_phase s.phase p) s.timers (only_ping s.timers) (Good b) (λ _. G) (λ _. ping_good s.timers G)

  pub later_good : (c : ℕ) (ts : Timers) → b ≤ c → Good b ts → Good c ts
  later_good c ts le G = record { size = G.size; soon = λ t end h. let k = G.soon t end h in omega arith }

pub unarmed_good : (b : ℕ) → Good b unarmed
unarmed_good b = record { size = refl; soon = soon }
  where
    soon : (t : Timer) (end : ℕ) → end_of t unarmed ≡ Some end → end ≤ b + length_of t
    soon timer.Probe end h = absurd (none-some end h)
    soon other end h = absurd (none-some end h)

-- ---- what stays armed

armed_here : (now : ℕ) (t : Timer) (ts : Timers) → length ts ≡ 11 → is_armed t (armed now t ts) ≡ true
armed_here now t ts size = ap is_some (at_place t t ts (Some (min (now + length_of t) (2 ^ 62))) size refl)

armed_still : (now : ℕ) (t u : Timer) (ts : Timers) → length ts ≡ 11 → is_armed t ts ≡ true → is_armed t (armed now u ts) ≡ true
armed_still now t u ts size h = by (eqb_tells (index_of t) (index_of u))
  where
    by : ((eqb (index_of t) (index_of u) ≡ true) × (index_of t ≡ index_of u)) ⊎ ((eqb (index_of t) (index_of u) ≡ false) × (index_of t ≡ index_of u → ⊥)) → is_armed t (armed now u ts) ≡ true
    by (inl e) = ap is_some (at_place t u ts (Some (min (now + length_of u) (2 ^ 62))) size e.1)
    by (inr e) = ap is_some (elsewhere t u ts (Some (min (now + length_of u) (2 ^ 62))) e.1) ∙ h

disarmed_still : (t u : Timer) (ts : Timers) → eqb (index_of t) (index_of u) ≡ false → is_armed t ts ≡ true → is_armed t (disarmed u ts) ≡ true
disarmed_still t u ts other h = ap is_some (elsewhere t u ts None (eqb-false (index_of t) (index_of u) other)) ∙ h

-- ---- a monitor in a phase

pub record Rests (me : Me) (b : ℕ) (p : Phase) (stage : SyncStage) (q : List Bool) (ts : Timers) : Type 0 where
  pub good : Good b ts
  pub waits : (is_armed (timer_of p stage) ts || (is_leading p && is_alone me q)) ≡ true

or_map : (x y z : Bool) → (x ≡ true → y ≡ true) → (x || z) ≡ true → (y || z) ≡ true
or_map true y z f h = or_left y z (f refl)
or_map false true z f h = refl
or_map false false z f h = h

module _ (me : Me) (b : ℕ) {p : Phase} {stage : SyncStage} {q : List Bool} where
  pub disarm_rests : (u : Timer) (ts : Timers) → eqb (index_of (timer_of p stage)) (index_of u) ≡ false → Rests me b p stage q ts → Rests me b p stage q (disarmed u ts)
  disarm_rests u ts other A = record {
    good = disarmed_good b u ts A.good;
    waits = or_map (is_armed (timer_of p stage) ts) (is_armed (timer_of p stage) (disarmed u ts)) (is_leading p && is_alone me q) (disarmed_still (timer_of p stage) u ts other) A.waits;
  }

  pub alone_rests : (ts : Timers) → Good b ts → (is_leading p && is_alone me q) ≡ true → Rests me b p stage q ts
  alone_rests ts G h = record { good = G; waits = by (is_armed (timer_of p stage) ts) }
    where
      by : (x : Bool) → (x || (is_leading p && is_alone me q)) ≡ true
      by true = refl
      by false = h

  module _ (now : ℕ) (le : now ≤ b) where
    pub arm_rests : (u : Timer) (ts : Timers) → Rests me b p stage q ts → Rests me b p stage q (armed now u ts)
    arm_rests u ts A = record {
      good = armed_good b now le u ts A.good;
      waits = or_map (is_armed (timer_of p stage) ts) (is_armed (timer_of p stage) (armed now u ts)) (is_leading p && is_alone me q) (armed_still now (timer_of p stage) u ts A.good.size) A.waits;
    }

    pub arm_if_rests : (test : Bool) (u : Timer) (ts : Timers) → Rests me b p stage q ts → Rests me b p stage q (cond test (armed now u ts) ts)
    arm_if_rests test u ts A = cond_both test (armed now u ts) ts (Rests me b p stage q) (λ _. arm_rests u ts A) (λ _. A)

    pub arm_once_if_rests : (test : Bool) (u : Timer) (ts : Timers) → Rests me b p stage q ts → Rests me b p stage q (cond test (armed_once now u ts) ts)
    arm_once_if_rests test u ts A = cond_both test (armed_once now u ts) ts (Rests me b p stage q)
        (λ _. cond_both (not (is_armed u ts)) (armed now u ts) ts (Rests me b p stage q) (λ _. arm_rests u ts A) (λ _. A)) (λ _. A)

    -- the phase's own timer is armed
    pub fresh : (u : Timer) (ts : Timers) → timer_of p stage ≡ u → Good b ts → Rests me b p stage q (armed now u ts)
    fresh u ts is G = record {
      good = armed_good b now le u ts G;
      waits = or_left (is_armed (timer_of p stage) (armed now u ts)) (is_leading p && is_alone me q) (subst (λ (t : Timer). is_armed t (armed now u ts) ≡ true) (sym is) (armed_here now u ts G.size));
    }

-- ---- which timers are no phase's own

pub not_lease_ack : (p : Phase) (z : SyncStage) → eqb (index_of (timer_of p z)) (index_of timer.LeaseAck) ≡ false
not_lease_ack phase.Synchronizing sync.Cookie = refl
not_lease_ack phase.Synchronizing sync.Chunks = refl
not_lease_ack phase.Synchronizing (sync.Replay next end) = refl
not_lease_ack other z = refl

pub not_propose : (p : Phase) (z : SyncStage) → eqb (index_of (timer_of p z)) (index_of timer.Propose) ≡ false
not_propose phase.Synchronizing sync.Cookie = refl
not_propose phase.Synchronizing sync.Chunks = refl
not_propose phase.Synchronizing (sync.Replay next end) = refl
not_propose other z = refl

pub not_ping : (p : Phase) (z : SyncStage) → eqb (index_of (timer_of p z)) (index_of timer.Ping) ≡ false
not_ping phase.Synchronizing sync.Cookie = refl
not_ping phase.Synchronizing sync.Chunks = refl
not_ping phase.Synchronizing (sync.Replay next end) = refl
not_ping other z = refl

-- ---- which timers are one phase's own

clash : {A : Type 0} → true ≡ false → A
clash e = absurd (false≢true (sym e))

pub not_election : (p : Phase) (z : SyncStage) → same_phase p phase.Electing ≡ false → eqb (index_of (timer_of p z)) (index_of timer.Election) ≡ false
not_election phase.Synchronizing sync.Cookie e = refl
not_election phase.Synchronizing sync.Chunks e = refl
not_election phase.Synchronizing (sync.Replay next end) e = refl
not_election phase.Electing z e = clash e
not_election other z e = refl

pub not_renew : (p : Phase) (z : SyncStage) → same_phase p phase.Active ≡ false → eqb (index_of (timer_of p z)) (index_of timer.Renew) ≡ false
not_renew phase.Synchronizing sync.Cookie e = refl
not_renew phase.Synchronizing sync.Chunks e = refl
not_renew phase.Synchronizing (sync.Replay next end) e = refl
not_renew phase.Active z e = clash e
not_renew other z e = refl

pub not_step : (p : Phase) (z : SyncStage) → same_phase p phase.Synchronizing ≡ false → eqb (index_of (timer_of p z)) (index_of timer.Step) ≡ false
not_step phase.Synchronizing z e = clash e
not_step other z e = refl

-- ---- which timer a phase waits for

no : {A : Type 0} → false ≡ true → A
no e = absurd (false≢true e)

pub active_by : (p : Phase) (z : SyncStage) → same_phase p phase.Active ≡ true → timer_of p z ≡ timer.Renew
active_by phase.Active z t = refl
active_by other z t = no t

pub synchronizing_is : (p : Phase) → same_phase p phase.Synchronizing ≡ true → p ≡ phase.Synchronizing
synchronizing_is phase.Synchronizing t = refl
synchronizing_is other t = no t
