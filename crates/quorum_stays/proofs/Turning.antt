-- What an event at one member leaves as it was.
use Rattle.law_names.proofs.Runs.{Envelope, Event, Monitors}
use Rattle.law_names.proofs.Table.{AllByRecursion, Change, Fits, Readings, State, Store, epoch_of, played, promise_of, readings_of}
use Rattle.quorum_stays.proofs.Carrying.{Gives}
use Rattle.quorum_stays.proofs.Onward.{lands_same, one_state, pack, unpack}
use Rattle.quorum_stays.proofs.Stepping.{Did}
use Rattle.quorum_stays.specs.Steady.{Carries, Follower, Item, Keeps, Noted, Reign, Round}
use Rattle.quorum_timed.specs.Timed.{Owed, Pace, Timed, Went, at_time}
use Rattle.std.proofs.Common.{Bool, IsSomeAnd, List, Option, Some, [], ap, arith, inl, inr, subst, sym, ℕ, ◌+◌, ◌∙◌, ◌≡◌, ◌≤◌, ◌⊎◌}
use Rattle.std.proofs.lemmas.Bool.{cases_eq}

module _ (ms : Monitors) (q : List Bool) (pace : Pace) (reign : Reign) (t next : Timed) (u : ℕ) (later : t.time ≤ u) (e : Event) (left : ℕ → ℕ → List Owed)
    (went : Went ms q pace (at_time ms q pace u t) e left next) (i : ℕ) (s after : State) (cs : List Change) (es : List Envelope)
    (up : t.world.state i ≡ Some s) (D : Did t.world next.world i after cs es) where
  -- what holds of a monitor's state
  pub on_state : (P Q : State → Type 0) (j : ℕ) → (j ≡ i → P s → Q after) → ((j ≡ i → ⊥) → (z : State) → P z → Q z) → IsSomeAnd (t.world.state j) P → IsSomeAnd (next.world.state j) Q
  on_state P Q j here elsewhere k = by (cases_eq j i)
    where
      by : (j ≡ i) ⊎ (j ≡ i → ⊥) → IsSomeAnd (next.world.state j) Q
      by (inl is) =
          let old = unpack P (t.world.state j) k in
          let same : old.0 ≡ s = one_state (t.world.state i) old.0 s (subst (λ (z : ℕ). t.world.state z ≡ Some old.0) is old.1) up in
          pack Q (next.world.state j) after (subst (λ (z : ℕ). next.world.state z ≡ Some after) (sym is) D.up) (here is (subst P same old.2))
      by (inr ne) =
          let old = unpack P (t.world.state j) k in
          pack Q (next.world.state j) old.0 (D.others j ne ∙ old.1) (elsewhere ne old.0 old.2)

  -- the state of another monitor stays
  pub other_state : (P : State → Type 0) (j : ℕ) → (j ≡ i → ⊥) → IsSomeAnd (t.world.state j) P → IsSomeAnd (next.world.state j) P
  other_state P j ne k = subst (λ (z : Option State). IsSomeAnd z P) (sym (D.others j ne)) k

  pub other_store : (P : Readings → Type 0) (j : ℕ) → (j ≡ i → ⊥) → P (readings_of (t.world.store j)) → P (readings_of (next.world.store j))
  other_store P j ne k = subst (λ (m : Store). P (readings_of m)) (sym (D.stores j ne)) k

  -- nothing was written
  pub every_store : cs ≡ [] → (P : Readings → Type 0) (j : ℕ) → P (readings_of (t.world.store j)) → P (readings_of (next.world.store j))
  every_store none P j k = by (cases_eq j i)
    where
      kept : readings_of (next.world.store i) ≡ readings_of (t.world.store i)
      kept = D.kept (subst (AllByRecursion Fits) (sym none) tt) ∙ ap (λ (z : List Change). played z (readings_of (t.world.store i))) none

      by : (j ≡ i) ⊎ (j ≡ i → ⊥) → P (readings_of (next.world.store j))
      by (inl is) = subst (λ (z : ℕ). P (readings_of (next.world.store z))) (sym is) (subst P (sym kept) (subst (λ (z : ℕ). P (readings_of (t.world.store z))) is k))
      by (inr ne) = other_store P j ne k

  pub same_carried : (f j : ℕ) (xs : List Item) → Carries ms reign t.world.messages f j (t.time + pace.delay) xs (left f j) → Gives ms reign f j [] es
      → Carries ms reign next.world.messages f j (next.time + pace.delay) xs (next.under_way f j)
  same_carried f j xs C G = lands_same ms q pace reign (at_time ms q pace u t) next e left went i after cs es D f j (t.time + pace.delay) xs (omega arith) C G

  -- A peon at which nothing happened. Nothing was sent to it, or by it, but about clients' commands.
  module _ (r : Round) (j : ℕ) (other : j ≡ i → ⊥) where
    pub untouched : (F : Follower ms q pace reign r t.world.messages (t.time + pace.delay) j (t.world.state j) (t.world.state reign.leader) (readings_of (t.world.store j)) (left reign.leader j) (left j reign.leader))
        → IsSomeAnd (next.world.state reign.leader) (Noted j F.taken r.next) → Gives ms reign reign.leader j [] es → Gives ms reign j reign.leader [] es
        → Follower ms q pace reign r next.world.messages (next.time + pace.delay) j (next.world.state j) (next.world.state reign.leader) (readings_of (next.world.store j)) (next.under_way reign.leader j) (next.under_way j reign.leader)
    untouched F noted down up = record {
      heard = F.heard;
      taken = F.taken;
      sent = F.sent;
      answered = F.answered;
      follows = other_state _ j other F.follows;
      lease = other_state _ j other F.lease;
      epoch = other_store (λ w. epoch_of w ≡ reign.epoch) j other F.epoch;
      promise = other_store (λ w. promise_of w ≡ reign.pn) j other F.promise;
      keeps = other_store (Keeps r F.heard) j other F.keeps;
      noted = noted;
      to_come = same_carried reign.leader j _ F.to_come down;
      to_take = same_carried j reign.leader _ F.to_take up;
    }
