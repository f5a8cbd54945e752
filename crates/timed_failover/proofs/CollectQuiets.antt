-- A new leader still asks after an event that writes nothing and sends nothing of its round.
use Rattle.law_names.proofs.Runs.{Event, Monitors, messages_of}
use Rattle.law_names.proofs.Table.{AllByRecursion, Course, Input, Readings, State, epoch_of, has, promise_of, readings_of}
use Rattle.quorum_stays.proofs.Stepping.{Did}
use Rattle.quorum_stays.specs.Steady.{Carries, Item}
use Rattle.quorum_timed.specs.Timed.{Owed, Pace, Timed, Went, at_time}
use Rattle.std.proofs.Common.{Bool, IsSomeAnd, List, Some, [], arith, subst, suc, sym, true, ℕ, ◌+◌, ◌∙◌, ◌≡◌, ◌≤◌}
use Rattle.timed_election.proofs.Coming.{How}
use Rattle.timed_failover.proofs.CollectKeeps.{IsApart, L, R, apart_on, every_store, now_is, on_state}
use Rattle.timed_failover.specs.Collecting.{CanLearn, Collects, IsAs, IsAsked, IsNear, IsNoted, IsStocked, IsWhole, KeepsAs, Progress, Query, Questioned, answer_to, from_such, to_such}

module _ (ms : Monitors) (q : List Bool) (pace : Pace) (x : Query) (t : Timed) (u : ℕ) (later : t.time ≤ u) (next : Timed) (e : Event) (left : ℕ → ℕ → List Owed) (X : IsAsked ms q pace x (record t { under_way = left })) (went : Went ms q pace (at_time ms q pace u t) e left next)
    (i : ℕ) (came : Input) (s : State) (up : t.world.state i ≡ Some s) (y : Course) (how : How ms q pace t u i came e left s) (D : Did t.world next.world i y.state y.changes (messages_of y.out))
    (none : y.changes ≡ []) (apart : AllByRecursion (IsApart ms q pace x) (messages_of y.out))
    (leads : i ≡ L ms q pace x → (w : Readings) → Collects ms.count q x (x.won + pace.clock x.election.best) w s → Collects ms.count q x (x.won + pace.clock x.election.best) w y.state)
    (notes : i ≡ L ms q pace x → (j : ℕ) (l w : Readings) (p : Progress) → IsNoted ms.count pace x j l w p s → IsNoted ms.count pace x j l w p y.state)
    (follows : (i ≡ L ms q pace x → ⊥) → (p : Progress) → IsAs ms.count pace x q i p s → IsAs ms.count pace x q i p y.state) where
  abbrev best : ℕ
  best = x.election.best

  store : (P : Readings → Type 0) (j : ℕ) → P (readings_of (t.world.store j)) → P (readings_of (next.world.store j))
  store P j k = every_store ms q pace x t u later next e left went i came s up y how D none P j k

  state : (P Q : State → Type 0) (j : ℕ) → (j ≡ i → P s → Q y.state) → ((j ≡ i → ⊥) → (z : State) → P z → Q z) → IsSomeAnd (t.world.state j) P → IsSomeAnd (next.world.state j) Q
  state P Q j mine other k = on_state ms q pace x t u later next e left went i came s up y how D P Q j mine other k

  carries : (f j : ℕ) (xs : List Item) → Carries ms (R ms q pace x) t.world.messages f j (t.time + pace.delay) xs (left f j) → Carries ms (R ms q pace x) next.world.messages f j (next.time + pace.delay) xs (next.under_way f j)
  carries f j xs k = apart_on ms q pace x t u later next e left went i came s up y how D apart f j xs k

  at : next.time ≡ u
  at = now_is ms q pace x t u later next e left went i came s up y how D

  questioned : (j : ℕ) → has q j ≡ true → (j ≡ best → ⊥)
      → Questioned ms q pace x next.world.messages next.time j (next.world.state j) (next.world.state best) (readings_of (next.world.store best)) (readings_of (next.world.store j)) (next.under_way best j) (next.under_way j best)
  questioned j qj nj =
      let F = X.others j qj nj in record {
        progress = F.progress;
        is_as = state (IsAs ms.count pace x q j F.progress) (IsAs ms.count pace x q j F.progress) j
            (λ same k. subst (λ (z : ℕ). IsAs ms.count pace x q z F.progress y.state) (sym same) (follows (λ is. nj (same ∙ is)) F.progress (subst (λ (z : ℕ). IsAs ms.count pace x q z F.progress s) same k)))
            (λ _ z k. k) F.is_as;
        keeps = store (KeepsAs ms.count pace x F.progress) j F.keeps;
        stocked = store (IsStocked x.version x.value) j F.stocked;
        whole = store (λ w. IsWhole (answer_to ms.count x.pn x.last w)) j F.whole;
        noted = store (λ l. IsSomeAnd (next.world.state best) (IsNoted ms.count pace x j l (readings_of (next.world.store j)) F.progress)) best
            (store (λ w. IsSomeAnd (next.world.state best) (IsNoted ms.count pace x j (readings_of (t.world.store best)) w F.progress)) j
            (state (IsNoted ms.count pace x j (readings_of (t.world.store best)) (readings_of (t.world.store j)) F.progress) (IsNoted ms.count pace x j (readings_of (t.world.store best)) (readings_of (t.world.store j)) F.progress) best
            (λ same k. notes (sym same) j (readings_of (t.world.store best)) (readings_of (t.world.store j)) F.progress k) (λ _ z k. k) F.noted));
        to_come = carries best j (to_such ms.count pace x q F.progress) F.to_come;
        to_take = store (λ w. Carries ms (R ms q pace x) next.world.messages j best (next.time + pace.delay) (from_such ms.count pace x F.progress w) (next.under_way j best)) j
            (carries j best (from_such ms.count pace x F.progress (readings_of (t.world.store j))) F.to_take);
      }

  pub still_asked : IsAsked ms q pace x next
  still_asked = record {
    can = X.can;
    odd = X.odd;
    second = X.second;
    second_in = X.second_in;
    second_is = X.second_is;
    ranks = X.ranks;
    short = X.short;
    fits = X.fits;
    room = X.room;
    early = X.early;
    close = X.close;
    since = X.since;
    begun = (let a = X.begun in let c = at in omega arith);
    after = X.after;
    made = X.made;
    epoch = store (λ w. epoch_of w ≡ suc x.election.epoch) best X.epoch;
    promise = store (λ w. promise_of w ≡ x.pn) best X.promise;
    near = store (IsNear x.version x.value) best X.near;
    learns = store (CanLearn x.version x.value) best X.learns;
    grown = store (λ w. x.last ≤ w.last) best X.grown;
    lead = store (λ w. IsSomeAnd (next.world.state best) (Collects ms.count q x (x.won + pace.clock x.election.best) w)) best
        (state (Collects ms.count q x (x.won + pace.clock x.election.best) (readings_of (t.world.store best))) (Collects ms.count q x (x.won + pace.clock x.election.best) (readings_of (t.world.store best))) best
        (λ same k. leads (sym same) (readings_of (t.world.store best)) k) (λ _ z k. k) X.lead);
    others = questioned;
    apart = λ f j qf qj own. carries f j [] (X.apart f j qf qj own);
  }
