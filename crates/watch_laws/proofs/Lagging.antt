-- How long what is seen lags: until the next message that shows a phase.
use Rattle.law_names.proofs.Runs.{Asked, Envelope, Meeting, Monitors, Plain, PlainFits, Reacts, World, first_world, map_after, meets, run, with_asked}
use Rattle.law_names.proofs.Table.{AllByRecursion, Course, Input, Me, Message, Phase, Reaction, Readings, Sent, State, Which, any_reaction, epoch_of, react, reaction_of, readings_of, same_phase, shared_entries}
use Rattle.mon_decode.specs.Headers.{heading, kind_in}
use Rattle.mon_msg.specs.declared.plan.Sent.TheVariants as sent
use Rattle.mon_watch.specs.Seen.{after_phase, nothing_seen, shown, taken_from}
use Rattle.mon_watch.specs.declared.seen.Seen.{Seen}
use Rattle.mon_wire.specs.declared.kind.Kind.TheVariants as kind
use Rattle.mon_wire.specs.declared.kind.Kind.{Kind}
use Rattle.mon_wire.specs.declared.phase.Phase.TheVariants as phase
use Rattle.quorum_history.proofs.Phases.{no}
use Rattle.quorum_laws.proofs.Events.{all_runs}
use Rattle.quorum_laws.proofs.Invariant.{InvOf, InvWith}
use Rattle.quorum_laws.proofs.Meetings.{Arriving, each_meeting, member_of}
use Rattle.std.proofs.Common.{Bool, Err, List, None, Ok, Option, Result, Some, [], ap, cond, false, inl, inr, is_some, ltb, refl, subst, sym, true, ℕ, ◌&&◌, ◌∙◌, ◌∷◌, ◌≡◌}
use Rattle.std.proofs.lemmas.Bool.{lt-ltb, or_cases}
use Rattle.std.specs.List.{list_any}
use Rattle.watch_laws.proofs.Runs.{At_in, is_shown, no_source, so, tells, unseen}
use Rattle.watch_laws.specs.Watching.{IsShown, LagEnds, ReadsShort, after_all, after_message, fits, is_seen, seen_before, seen_from}

-- no message shows that its monitor hasn't started
shown_real : (k : Kind) → shown k ≡ Some phase.Booting → ⊥
shown_real kind.Probe e = cc
shown_real other e = cc

sync_is : (p : Phase) → same_phase p phase.Synchronizing ≡ true → p ≡ phase.Synchronizing
sync_is phase.Booting t = no t
sync_is phase.Probing t = no t
sync_is phase.Synchronizing t = refl
sync_is phase.Electing t = no t
sync_is phase.Collecting t = no t
sync_is phase.Previous t = no t
sync_is phase.Active t = no t
sync_is phase.Updating t = no t
sync_is phase.Peon t = no t

fits_sync : (q : Phase) → fits q phase.Synchronizing ≡ true → q ≡ phase.Synchronizing
fits_sync phase.Booting t = no t
fits_sync phase.Probing t = no t
fits_sync phase.Synchronizing t = refl
fits_sync phase.Electing t = no t
fits_sync phase.Collecting t = no t
fits_sync phase.Previous t = no t
fits_sync phase.Active t = no t
fits_sync phase.Updating t = no t
fits_sync phase.Peon t = no t

-- the same is seen, as far as the law speaks of it
record Alike (s t : Seen) : Type 0 where
  shows : s.phase ≡ t.phase
  epoch : s.epoch ≡ t.epoch
  leader : s.leader ≡ t.leader
  source : s.phase ≡ phase.Synchronizing → s.source ≡ t.source

module _ (own : ℕ) (is_read : Message → Bool) where
  abbrev all : List Sent → Seen → Seen
  all = after_all own is_read

  -- ---- a message that shows a phase

  alike_by : (b : Bool) (o : Option Phase) (to : ℕ) (m : Message) (s t : Seen) → (b && is_some o) ≡ true → Alike (cond b (after_phase own to (heading m) o s) s) (cond b (after_phase own to (heading m) o t) t)
  alike_by true (Some p) to m s t k = record { shows = refl; epoch = refl; leader = refl; source = λ (e : p ≡ phase.Synchronizing). ap (λ (q : Phase). taken_from to q s.source) e ∙ sym (ap (λ (q : Phase). taken_from to q t.source) e) }
  alike_by true None to m s t k = no k
  alike_by false o to m s t k = no k

  still_alike_by : (b : Bool) (o : Option Phase) (to : ℕ) (m : Message) (s t : Seen) → Alike s t → Alike (cond b (after_phase own to (heading m) o s) s) (cond b (after_phase own to (heading m) o t) t)
  still_alike_by true (Some p) to m s t A = alike_by true (Some p) to m s t refl
  still_alike_by true None to m s t A = A
  still_alike_by false o to m s t A = A

  all_alike : (xs : List Sent) (s t : Seen) → Alike s t → Alike (all xs s) (all xs t)
  all_alike [] s t A = A
  all_alike (sent.Message to m ∷ xs) s t A = all_alike xs (after_message own is_read to m s) (after_message own is_read to m t) (still_alike_by (is_read m) (shown (kind_in m.body)) to m s t A)
  all_alike (sent.Reply session r ∷ xs) s t A = all_alike xs s t A

  -- whatever was seen before messages of which one shows a phase and is read, the same is seen after them
  any_alike : (xs : List Sent) (s t : Seen) → list_any (is_seen is_read) xs ≡ true → Alike (all xs s) (all xs t)
  any_alike [] s t k = no k
  any_alike (sent.Message to m ∷ xs) s t k = elim (or_cases (is_read m && is_some (shown (kind_in m.body))) (list_any (is_seen is_read) xs) k) [
    | inl a ↦ all_alike xs (after_message own is_read to m s) (after_message own is_read to m t) (alike_by (is_read m) (shown (kind_in m.body)) to m s t a)
    | inr a ↦ any_alike xs (after_message own is_read to m s) (after_message own is_read to m t) a
  ]
  any_alike (sent.Reply session r ∷ xs) s t k = any_alike xs s t k

  -- after a message that shows a phase and is read, a phase is seen
  real_by : (b : Bool) (o : Option Phase) (to : ℕ) (m : Message) (s : Seen) → (o ≡ Some phase.Booting → ⊥) → (b && is_some o) ≡ true → (cond b (after_phase own to (heading m) o s) s).phase ≡ phase.Booting → ⊥
  real_by true (Some p) to m s N k e = N (ap Some e)
  real_by true None to m s N k e = no k
  real_by false o to m s N k e = no k

  still_real_by : (b : Bool) (o : Option Phase) (to : ℕ) (m : Message) (s : Seen) → (o ≡ Some phase.Booting → ⊥) → (s.phase ≡ phase.Booting → ⊥) → (cond b (after_phase own to (heading m) o s) s).phase ≡ phase.Booting → ⊥
  still_real_by true (Some p) to m s N k e = N (ap Some e)
  still_real_by true None to m s N k e = k e
  still_real_by false o to m s N k e = k e

  all_real : (xs : List Sent) (s : Seen) → (s.phase ≡ phase.Booting → ⊥) → (all xs s).phase ≡ phase.Booting → ⊥
  all_real [] s k = k
  all_real (sent.Message to m ∷ xs) s k = all_real xs (after_message own is_read to m s) (still_real_by (is_read m) (shown (kind_in m.body)) to m s (shown_real (kind_in m.body)) k)
  all_real (sent.Reply session r ∷ xs) s k = all_real xs s k

  any_real : (xs : List Sent) (s : Seen) → list_any (is_seen is_read) xs ≡ true → (all xs s).phase ≡ phase.Booting → ⊥
  any_real [] s k = no k
  any_real (sent.Message to m ∷ xs) s k = elim (or_cases (is_read m && is_some (shown (kind_in m.body))) (list_any (is_seen is_read) xs) k) [
    | inl a ↦ all_real xs (after_message own is_read to m s) (real_by (is_read m) (shown (kind_in m.body)) to m s (shown_real (kind_in m.body)) a)
    | inr a ↦ any_real xs (after_message own is_read to m s) a
  ]
  any_real (sent.Reply session r ∷ xs) s k = any_real xs s k

-- what is seen alike agrees with the monitor alike
shown_alike : (own e : ℕ) (y z : Seen) (s : State) → Alike y z → IsShown own y e s → IsShown own z e s
shown_alike own e y z s A h = record {
  shows = ap (λ (a : Phase). fits a s.phase) (sym A.shows) ∙ h.shows;
  epoch = sym A.epoch ∙ h.epoch;
  leader = sym A.leader ∙ h.leader;
  source = λ t. sym (A.source (fits_sync y.phase (ap (fits y.phase) (sym (sync_is s.phase t)) ∙ h.shows))) ∙ h.source t;
}

-- ---- the watch lags no more

module _ (me : Me) (is_read : Message → Bool) (z : Seen) (e : ℕ) (s : State) (N : z.phase ≡ phase.Booting → ⊥) where
  abbrev In : Phase → Type 0
  In p = At_in me is_read true z e s p

  caught_up : (p : Phase) → s.phase ≡ p → In p → IsShown me.member.rank z e s
  caught_up phase.Booting same k = absurd (N (k refl))
  caught_up phase.Probing same (inl b) = absurd (N b)
  caught_up phase.Probing same (inr h) = is_shown me is_read true z e s phase.Probing phase.Probing same h refl (no_source me is_read true z e s phase.Probing refl)
  caught_up phase.Electing same (inl b) = absurd (N b)
  caught_up phase.Electing same (inr h) = is_shown me is_read true z e s phase.Electing phase.Electing same h refl (no_source me is_read true z e s phase.Electing refl)
  caught_up phase.Synchronizing same (inl b) = absurd (N b)
  caught_up phase.Synchronizing same (inr h) = is_shown me is_read true z e s phase.Synchronizing phase.Synchronizing same h.0 refl (λ t. h.1)
  caught_up phase.Collecting same (inl (inl b)) = absurd (N b)
  caught_up phase.Collecting same (inl (inr b)) = no (sym b.1)
  caught_up phase.Collecting same (inr h) = is_shown me is_read true z e s phase.Collecting phase.Collecting same h.0 refl (no_source me is_read true z e s phase.Collecting refl)
  caught_up phase.Previous same (inl (inl b)) = absurd (N b)
  caught_up phase.Previous same (inl (inr b)) = no (sym b.1)
  caught_up phase.Previous same (inr h) = is_shown me is_read true z e s phase.Previous phase.Collecting same h.0 refl (no_source me is_read true z e s phase.Previous refl)
  caught_up phase.Active same (inl (inl b)) = absurd (N b)
  caught_up phase.Active same (inl (inr b)) = no (sym b.1)
  caught_up phase.Active same (inr h) = is_shown me is_read true z e s phase.Active phase.Active same h.0 refl (no_source me is_read true z e s phase.Active refl)
  caught_up phase.Updating same (inl (inl b)) = absurd (N b)
  caught_up phase.Updating same (inl (inr b)) = no (sym b.1)
  caught_up phase.Updating same (inr h) = is_shown me is_read true z e s phase.Updating phase.Active same h.0 refl (no_source me is_read true z e s phase.Updating refl)
  caught_up phase.Peon same (inl (inl b)) = absurd (N b)
  caught_up phase.Peon same (inl (inr b)) = no (sym b.1)
  caught_up phase.Peon same (inr h) = is_shown me is_read true z e s phase.Peon phase.Peon same h refl (no_source me is_read true z e s phase.Peon refl)

-- ---- an event

module _ (ms : Monitors) (several : ltb 1 ms.count ≡ true) (is_read : Message → Bool) (R : ReadsShort is_read) (w : World) (I : InvOf ms w) where
  -- whatever was seen before a reaction that sends such a message, what is seen after it agrees with the monitor
  abbrev Ends : ℕ → Reaction → Type 0
  Ends i r = (z : Seen) → list_any (is_seen is_read) r.sends ≡ true → IsShown i (after_all i is_read r.sends z) (epoch_of (readings_of (map_after w i r))) r.state

  abbrev any_told : Envelope → Type 0
  any_told e = Unit {0}

  all_told : (es : List Envelope) → AllByRecursion any_told es
  all_told [] = tt
  all_told (e ∷ es) = (tt, all_told es)

  module _ (asked : List Asked) (J : InvWith ms w asked) (A : Arriving ms w any_told asked J) where
    ends : (y : Course) → react (member_of ms A.rank A.lt) (shared_entries (w.store A.rank)) A.at (readings_of (w.store A.rank)) A.state A.came ≡ Ok y → Ends A.rank (reaction_of y)
    ends y is z k =
        let me = member_of ms A.rank A.lt in
        let first = after_all A.rank is_read y.out nothing_seen in
        let at = so ms several is_read R w I asked J any_told A y is true nothing_seen (unseen me is_read true nothing_seen (epoch_of (readings_of (w.store A.rank))) A.state refl A.state.phase) (inr refl) in
        let shows = caught_up me is_read first (epoch_of y.readings) y.state (any_real A.rank is_read y.out nothing_seen k) y.state.phase refl at in
        subst (λ (r : Readings). IsShown A.rank (after_all A.rank is_read y.out z) (epoch_of r) y.state) (sym (tells ms several is_read R w I asked J any_told A y is))
        (shown_alike A.rank (epoch_of y.readings) first (after_all A.rank is_read y.out z) y.state (any_alike A.rank is_read y.out nothing_seen z k) shows)

  -- this holds of each reaction that an event meets
  abbrev Of : Meeting → Type 0
  Of met = (i : ℕ) (came : Input) (r : Reaction) → met ≡ Reacts i came (Ok r) → Ends i r

  reacts_so : (p : Plain) (J : InvWith ms w (with_asked p w.asked)) (A : Arriving ms w any_told (with_asked p w.asked) J) (x : Result Course Which)
      → react (member_of ms A.rank A.lt) (shared_entries (w.store A.rank)) A.at (readings_of (w.store A.rank)) A.state A.came ≡ x → Of (Reacts A.rank A.came (any_reaction x))
  reacts_so p J A (Ok y) is i came r q =
      let rank : A.rank ≡ i = cc in
      let made : reaction_of y ≡ r = cc in
      subst (Ends i) made (subst (λ (j : ℕ). Ends j (reaction_of y)) rank (ends (with_asked p w.asked) J A y is))
  reacts_so p J A (Err which) is i came r q = absurd cc

  of_event : (p : Plain) → PlainFits ms.count p → Of (meets ms w p)
  of_event p F = each_meeting ms w any_told I Of (all_told w.messages) p F (λ J up. record { down = λ i came r q. absurd cc; none = λ i came r q. absurd cc; reacts = λ A x is. reacts_so p J A x is })

pub lag_ends : LagEnds
lag_ends ms events F several is_read R p P i came r q k =
    of_event ms (lt-ltb 1 ms.count several) is_read R (run ms events) (all_runs ms events F) p P i came r q (seen_before i is_read came (seen_from i is_read ms first_world events nothing_seen)) k
