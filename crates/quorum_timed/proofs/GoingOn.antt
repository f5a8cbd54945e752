-- Whatever is overdue can come.
use Rattle.law_names.proofs.Runs.{Arrives, Deliver, Event, Monitors, Ring, World, happens}
use Rattle.law_names.proofs.Table.{State, Timer, end_of, has}
use Rattle.quorum_timed.specs.Calls.{Calls}
use Rattle.quorum_timed.specs.Timed.{Again, Arriving, Comes, Firing, GoesOn, IsRequest, MayBe, Owed, Pace, Timed, Went, new_between, owed_by, without_first}
use Rattle.std.proofs.Common.{Bool, List, Ok, Some, arith, false, inl, leb, length, max, refl, suc, true, ℕ, ◌++◌, ◌+◌, ◌∷◌, ◌≡◌, ◌≤◌}
use Rattle.std.proofs.lemmas.Bool.{leb-false, leb-true}

module _ (ms : Monitors) (q : List Bool) (pace : Pace) (t : Timed) where
  -- what comes of an event that happens, if this stays under way
  after : (ℕ → ℕ → List Owed) → World → Timed
  after left w = record {
    world = w;
    time = t.time;
    under_way = λ f i. left f i ++ owed_by (t.time + pace.delay) (new_between (length t.world.messages) f i w.messages);
    call_by = t.call_by;
  }

  went : (e : Event) (left : ℕ → ℕ → List Owed) (w : World) → happens ms t.world e ≡ Ok w → Went ms q pace t e left (after left w)
  unfolding after
  went e left w happened = record { happened = happened; time = refl; sent = λ f i. refl; calls = λ f i. inl refl }

  module _ (on : GoesOn ms t.world) (only : (next : Timed) (e : Event) → Comes ms q pace t next e → IsRequest e) where
    -- a number is reached, since nothing that comes at its end can come
    reaches : (a b : ℕ) → ((a ≤ b → ⊥) → ⊥) → a ≤ b
    reaches a b unless = by (leb a b) refl
      where
        by : (z : Bool) → leb a b ≡ z → a ≤ b
        by true e = leb-true a b e
        by false e = let above = leb-false a b e in absurd (unless (λ reached. omega arith))

    messages : (f i : ℕ) → has q f ≡ true → has q i ≡ true → (o : Owed) (others : List Owed) → t.under_way f i ≡ o ∷ others → suc t.time ≤ o.by
    messages f i qf qi o others is = reaches (suc t.time) o.by (λ less.
        let to = on.deliveries o.number (t.time + pace.clock i) in
        let left = without_first f i others t.under_way in
        only (after left to.0) (Arrives (Deliver o.number (t.time + pace.clock i))) (Arriving f i qf qi o others is refl (went _ left to.0 to.1)))

    timers : (i : ℕ) → has q i ≡ true → (s : State) → t.world.state i ≡ Some s → (kind : Timer) (end : ℕ)
        → end_of kind s.timers ≡ Some end → suc t.time + pace.clock i ≤ max end (pace.since + pace.clock i) + pace.late
    timers i qi s up kind end armed = reaches (suc t.time + pace.clock i) (max end (pace.since + pace.clock i) + pace.late) (λ less.
        let to = on.timers i (t.time + pace.clock i) kind in
        only (after t.under_way to.0) (Arrives (Ring i kind (t.time + pace.clock i))) (Firing i qi s up kind end armed (omega arith) refl (went _ t.under_way to.0 to.1)))

    calls : (f i : ℕ) → has q f ≡ true → has q i ≡ true → (k : ℕ) → Calls t.world k f i → suc t.time ≤ t.call_by f i
    calls f i qf qi k C = reaches (suc t.time) (t.call_by f i) (λ less.
        let to = on.deliveries k (t.time + pace.clock i) in
        only (after t.under_way to.0) (Arrives (Deliver k (t.time + pace.clock i))) (Again f i qf qi k C refl (went _ t.under_way to.0 to.1)))

    pub goes_on : MayBe ms q pace t (suc t.time)
    goes_on = record { later = omega arith; messages = messages; timers = timers; calls = calls }
