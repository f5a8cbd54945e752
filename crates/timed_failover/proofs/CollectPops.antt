-- A new leader still asks if a message of no round is taken off a channel. It asks for two delays at most.
use Rattle.law_names.proofs.Runs.{Monitors}
use Rattle.law_names.proofs.Table.{Readings, State, has, readings_of}
use Rattle.quorum_stays.proofs.Carrying.{first_by}
use Rattle.quorum_stays.proofs.Onward.{here_left, list_left, one_state, other_left, unpack}
use Rattle.quorum_stays.proofs.States.{Missing, one_missing}
use Rattle.quorum_stays.specs.Steady.{AreApart, Carries, Item}
use Rattle.quorum_timed.specs.Timed.{MayBe, Owed, Pace, Timed, without_first}
use Rattle.std.proofs.Common.{Bool, List, Some, [], arith, inl, inr, subst, sym, true, ℕ, ◌*◌, ◌+◌, ◌∙◌, ◌∷◌, ◌≡◌, ◌≤◌}
use Rattle.std.proofs.lemmas.Bool.{cases_eq, false≢true}
use Rattle.timed_election.specs.Election.{CanElect}
use Rattle.timed_failover.proofs.CollectKeeps.{R}
use Rattle.timed_failover.specs.Collecting.{Collects, Electing, Following, IsAsked, IsNoted, Noted, Progress, Promised, Query, Questioned, from_such, to_such}

module _ (ms : Monitors) (q : List Bool) (pace : Pace) (x : Query) where
  abbrev best : ℕ
  best = x.election.best

  -- a member in a world, with these messages under way
  abbrev pub MemberAt : Timed → ℕ → (ℕ → ℕ → List Owed) → Type 0
  MemberAt t j left = Questioned ms q pace x t.world.messages t.time j (t.world.state j) (t.world.state x.election.best) (readings_of (t.world.store x.election.best)) (readings_of (t.world.store j)) (left x.election.best j) (left j x.election.best)

  -- ---- a message is gone that is of no round

  module _ (t : Timed) (X : IsAsked ms q pace x t) (f i : ℕ) (others : List Owed) where
    abbrev left : ℕ → ℕ → List Owed
    left = without_first f i others t.under_way

    abbrev pub Down : ℕ → Progress → List Owed → Type 0
    Down j p os = Carries ms (R ms q pace x) t.world.messages best j (t.time + pace.delay) (to_such ms.count pace x q p) os

    abbrev pub Up : ℕ → Progress → List Owed → Type 0
    Up j p os = Carries ms (R ms q pace x) t.world.messages j best (t.time + pace.delay) (from_such ms.count pace x p (readings_of (t.world.store j))) os

    popped : ((j : ℕ) → has q j ≡ true → (j ≡ best → ⊥) → MemberAt t j left)
        → ((g j : ℕ) → has q g ≡ true → has q j ≡ true → AreApart best g j → Carries ms (R ms q pace x) t.world.messages g j (t.time + pace.delay) [] (left g j)) → IsAsked ms q pace x (record t { under_way = left })
    popped members others = record {
      can = X.can;
      odd = X.odd;
      second = X.second;
      second_in = X.second_in;
      second_is = X.second_is;
      ranks = X.ranks;
      short = X.short;
      fits = X.fits;
      room = X.room;
      early = X.early;
      close = X.close;
      since = X.since;
      begun = X.begun;
      after = X.after;
      made = X.made;
      epoch = X.epoch;
      promise = X.promise;
      near = X.near;
      learns = X.learns;
      grown = X.grown;
      lead = X.lead;
      others = members;
      apart = others;
    }

    with_lists : (j : ℕ) (F : MemberAt t j t.under_way) → Down j F.progress (left best j) → Up j F.progress (left j best) → MemberAt t j left
    with_lists j F down up = record {
      progress = F.progress;
      is_as = F.is_as;
      keeps = F.keeps;
      stocked = F.stocked;
      whole = F.whole;
      noted = F.noted;
      to_come = down;
      to_take = up;
    }

    -- the others have the same lists
    same_lists : (j : ℕ) (F : MemberAt t j t.under_way) → left best j ≡ t.under_way best j → left j best ≡ t.under_way j best → MemberAt t j left
    same_lists j F down up = with_lists j F (subst (Down j F.progress) (sym down) F.to_come) (subst (Up j F.progress) (sym up) F.to_take)

    one_member : (k : ℕ) → MemberAt t k left → ((j : ℕ) → (j ≡ best → ⊥) → (j ≡ k → ⊥) → (left best j ≡ t.under_way best j) × (left j best ≡ t.under_way j best))
        → (j : ℕ) → has q j ≡ true → (j ≡ best → ⊥) → MemberAt t j left
    one_member k G same j qj nj = elim (cases_eq j k) [
      | inl e ↦ subst (λ (z : ℕ). MemberAt t z left) (sym e) G
      | inr ne ↦ (let l = same j nj ne in same_lists j (X.others j qj nj) l.0 l.1)
    ]

  module _ (t : Timed) (X : IsAsked ms q pace x t) where
    pub pop_down : (i : ℕ) (ni : i ≡ best → ⊥) (F : MemberAt t i t.under_way) (others : List Owed) → Down t X best i others i F.progress others
        → IsAsked ms q pace x (record t { under_way = without_first x.election.best i others t.under_way })
    pop_down i ni F others C = popped t X best i others
        (one_member t X best i others i
        (with_lists t X best i others i F (subst (Down t X best i others i F.progress) (sym (here_left best i others t.under_way)) C)
        (subst (Up t X best i others i F.progress) (sym (other_left best i others t.under_way i best (λ a _. ni a))) F.to_take))
        (λ j nj ne. (other_left best i others t.under_way best j (λ _ b. ne b), other_left best i others t.under_way j best (λ a _. nj a))))
        (λ g j qg qj a. subst (Carries ms (R ms q pace x) t.world.messages g j (t.time + pace.delay) []) (sym (other_left best i others t.under_way g j (λ y z. ni (sym z ∙ a.0 y)))) (X.apart g j qg qj a))

    pub pop_up : (f : ℕ) (nf : f ≡ best → ⊥) (F : MemberAt t f t.under_way) (others : List Owed) → Up t X f best others f F.progress others
        → IsAsked ms q pace x (record t { under_way = without_first f x.election.best others t.under_way })
    pop_up f nf F others C = popped t X f best others
        (one_member t X f best others f
        (with_lists t X f best others f F (subst (Down t X f best others f F.progress) (sym (other_left f best others t.under_way best f (λ _ b. nf b))) F.to_come)
        (subst (Up t X f best others f F.progress) (sym (here_left f best others t.under_way)) C))
        (λ j nj ne. (other_left f best others t.under_way best j (λ _ b. nj b), other_left f best others t.under_way j best (λ a _. ne a))))
        (λ g j qg qj a. subst (Carries ms (R ms q pace x) t.world.messages g j (t.time + pace.delay) []) (sym (other_left f best others t.under_way g j (λ y z. nf (sym y ∙ a.1 z)))) (X.apart g j qg qj a))

    pub pop_other : (f i : ℕ) → AreApart best f i → (others : List Owed) → Carries ms (R ms q pace x) t.world.messages f i (t.time + pace.delay) [] others
        → IsAsked ms q pace x (record t { under_way = without_first f i others t.under_way })
    pop_other f i apart others C = popped t X f i others
        (λ j qj nj. same_lists t X f i others j (X.others j qj nj) (other_left f i others t.under_way best j (λ a b. nj (b ∙ apart.0 (sym a)))) (other_left f i others t.under_way j best (λ a b. nj (a ∙ apart.1 (sym b)))))
        (λ g j qg qj a. list_left f i others t.under_way (λ g j os. Carries ms (R ms q pace x) t.world.messages g j (t.time + pace.delay) [] os) g j C (X.apart g j qg qj a))

    -- ---- how far time may have gone

    module _ (u : ℕ) (M : MayBe ms q pace t u) where
      abbrev C : CanElect ms q best
      C = X.can

      first_of : (f i : ℕ) → has q f ≡ true → has q i ≡ true → (y : Item) (rest : List Item) → Carries ms (R ms q pace x) t.world.messages f i (t.time + pace.delay) (y ∷ rest) (t.under_way f i) → u ≤ y.by
      first_of f i qf qi y rest k = first_by ms (R ms q pace x) f i t.world.messages (t.time + pace.delay) u y rest (t.under_way f i) k (λ o others e. M.messages f i qf qi o others e)

      -- the VICTORY hasn't come to a member that still elects
      pub victory_due : (i : ℕ) → has q i ≡ true → Carries ms (R ms q pace x) t.world.messages best i (t.time + pace.delay) (to_such ms.count pace x q Electing) (t.under_way best i) → u ≤ x.won + pace.delay
      victory_due i qi down = first_of best i C.member qi _ _ down

      -- nor the COLLECT to one that follows
      pub collect_due : (i : ℕ) → has q i ≡ true → Carries ms (R ms q pace x) t.world.messages best i (t.time + pace.delay) (to_such ms.count pace x q Following) (t.under_way best i) → u ≤ x.won + pace.delay
      collect_due i qi down = first_of best i C.member qi _ _ down

      -- a member hasn't answered yet, and its answer comes within two delays
      pub over : u ≤ x.won + 2 * pace.delay
      over = by F.progress noted F.to_come F.to_take
        where
          w : Readings
          w = readings_of (t.world.store best)

          l : (s : State) × (t.world.state best ≡ Some s) × Collects ms.count q x (x.won + pace.clock best) (readings_of (t.world.store best)) s
          l = unpack (Collects ms.count q x (x.won + pace.clock best) (readings_of (t.world.store best))) (t.world.state best) X.lead

          m : Missing q l.0.leader.answered
          m = let K = l.2 in one_missing ms.count q l.0.leader.answered K.more

          other : m.rank ≡ best → ⊥
          other e = let K = l.2 in false≢true (sym m.missing ∙ subst (λ (z : ℕ). has l.0.leader.answered z ≡ true) (sym e) K.own)

          F : MemberAt t m.rank t.under_way
          F = X.others m.rank m.member other

          noted : IsNoted ms.count pace x m.rank (readings_of (t.world.store best)) (readings_of (t.world.store m.rank)) F.progress l.0
          noted =
              let n = unpack (IsNoted ms.count pace x m.rank (readings_of (t.world.store best)) (readings_of (t.world.store m.rank)) F.progress) (t.world.state best) F.noted in
              subst (IsNoted ms.count pace x m.rank (readings_of (t.world.store best)) (readings_of (t.world.store m.rank)) F.progress) (one_state (t.world.state best) n.0 l.0 n.1 l.1) n.2

          by : (p : Progress) → IsNoted ms.count pace x m.rank (readings_of (t.world.store best)) (readings_of (t.world.store m.rank)) p l.0
              → Carries ms (R ms q pace x) t.world.messages best m.rank (t.time + pace.delay) (to_such ms.count pace x q p) (t.under_way best m.rank)
              → Carries ms (R ms q pace x) t.world.messages m.rank best (t.time + pace.delay) (from_such ms.count pace x p (readings_of (t.world.store m.rank))) (t.under_way m.rank best) → u ≤ x.won + 2 * pace.delay
          by Electing n down up = let z = victory_due m.rank m.member down in omega arith
          by Following n down up = let z = collect_due m.rank m.member down in omega arith
          by Promised n down up = first_of m.rank best m.member C.member _ _ up
          by Noted n down up = absurd (false≢true (sym m.missing ∙ n.0))
