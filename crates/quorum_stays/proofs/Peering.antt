-- A quorum stays led if what was under way to one peon or from it changes, and nothing else does.
use Rattle.law_names.proofs.Runs.{Envelope, Event, Monitors}
use Rattle.law_names.proofs.Table.{Change, State, epoch_of, has, readings_of}
use Rattle.quorum_stays.proofs.Carrying.{Gives}
use Rattle.quorum_stays.proofs.Onward.{here_left, list_left, other_left}
use Rattle.quorum_stays.proofs.Stepping.{Did}
use Rattle.quorum_stays.proofs.Turning.{same_carried, untouched}
use Rattle.quorum_stays.specs.Steady.{AreApart, Carries, Follower, Leads, Noted, Reign, Round, Steady, said, to_leader, to_peon}
use Rattle.quorum_timed.specs.Timed.{Owed, Pace, Timed, Went, at_time, without_first}
use Rattle.std.proofs.Common.{Bool, IsSomeAnd, List, Some, [], arith, drop, inl, inr, subst, sym, take, true, ℕ, ◌+◌, ◌∙◌, ◌≡◌, ◌≤◌, ◌⊎◌}
use Rattle.std.proofs.lemmas.Bool.{cases_eq}

-- a peon in a world
abbrev pub PeonIn : Monitors → List Bool → Pace → Reign → Round → Timed → ℕ → (ℕ → ℕ → List Owed) → Type 0
PeonIn ms q pace reign r t i left = Follower ms q pace reign r t.world.messages (t.time + pace.delay) i (t.world.state i) (t.world.state reign.leader)
    (readings_of (t.world.store i)) (left reign.leader i) (left i reign.leader)

module _ (ms : Monitors) (q : List Bool) (pace : Pace) (reign : Reign) (r : Round) (t : Timed) where
  -- other lists of what is under way
  pub with_lists : (i : ℕ) (F : PeonIn ms q pace reign r t i t.under_way) (left : ℕ → ℕ → List Owed) → left reign.leader i ≡ t.under_way reign.leader i → left i reign.leader ≡ t.under_way i reign.leader
      → PeonIn ms q pace reign r t i left
  with_lists i F left down up = record {
    heard = F.heard;
    taken = F.taken;
    sent = F.sent;
    answered = F.answered;
    follows = F.follows;
    lease = F.lease;
    epoch = F.epoch;
    promise = F.promise;
    keeps = F.keeps;
    noted = F.noted;
    to_come = subst (Carries ms reign t.world.messages reign.leader i (t.time + pace.delay) (drop F.heard (to_peon reign pace r))) (sym down) F.to_come;
    to_take = subst (Carries ms reign t.world.messages i reign.leader (t.time + pace.delay) (drop F.taken (take (said F.heard) (to_leader reign pace r)))) (sym up) F.to_take;
  }

  -- the members of p but for the leader are its peons
  abbrev pub AllPeons : List Bool → (ℕ → ℕ → List Owed) → Type 0
  AllPeons p left = (j : ℕ) → has p j ≡ true → (j ≡ reign.leader → ⊥) → PeonIn ms q pace reign r t j left

  -- no message among its peons, or from the leader to itself, is of a round
  abbrev pub AllApart : List Bool → (ℕ → ℕ → List Owed) → Type 0
  AllApart p left = (f j : ℕ) → has p f ≡ true → has p j ≡ true → AreApart reign.leader f j → Carries ms reign t.world.messages f j (t.time + pace.delay) [] (left f j)

  -- a message that is of no round is gone
  module _ (p : List Bool) (peons : AllPeons p t.under_way) (apart : AllApart p t.under_way) where
    abbrev pub Popped : (f i : ℕ) → List Owed → Type 0
    Popped f i others = AllPeons p (without_first f i others t.under_way) × AllApart p (without_first f i others t.under_way)

    -- only what is under way to peon i, or from it, is other
    one_replaced : (left : ℕ → ℕ → List Owed) (i : ℕ) → PeonIn ms q pace reign r t i left
        → ((j : ℕ) → (j ≡ i → ⊥) → (j ≡ reign.leader → ⊥) → (left reign.leader j ≡ t.under_way reign.leader j) × (left j reign.leader ≡ t.under_way j reign.leader))
        → ((f j : ℕ) → AreApart reign.leader f j → left f j ≡ t.under_way f j) → AllPeons p left × AllApart p left
    one_replaced left i F same rest = (
      (λ j pj nj. elim (cases_eq j i) [
        | inl e ↦ subst (λ (z : ℕ). PeonIn ms q pace reign r t z left) (sym e) F
        | inr ne ↦ (let k = same j ne nj in with_lists j (peons j pj nj) left k.0 k.1)
      ]),
      (λ f j pf pj a. subst (Carries ms reign t.world.messages f j (t.time + pace.delay) []) (sym (rest f j a)) (apart f j pf pj a)),
    )

    pub pop_down : (i : ℕ) → (i ≡ reign.leader → ⊥) → (others : List Owed) → (F : PeonIn ms q pace reign r t i t.under_way) → Carries ms reign t.world.messages reign.leader i (t.time + pace.delay) (drop F.heard (to_peon reign pace r)) others → Popped reign.leader i others
    pop_down i ni others F C = one_replaced (without_first reign.leader i others t.under_way) i (record {
      heard = F.heard;
      taken = F.taken;
      sent = F.sent;
      answered = F.answered;
      follows = F.follows;
      lease = F.lease;
      epoch = F.epoch;
      promise = F.promise;
      keeps = F.keeps;
      noted = F.noted;
      to_come = subst (Carries ms reign t.world.messages reign.leader i (t.time + pace.delay) (drop F.heard (to_peon reign pace r))) (sym (here_left reign.leader i others t.under_way)) C;
      to_take = subst (Carries ms reign t.world.messages i reign.leader (t.time + pace.delay) (drop F.taken (take (said F.heard) (to_leader reign pace r)))) (sym (other_left reign.leader i others t.under_way i reign.leader (λ a _. ni a))) F.to_take;
    })
        (λ j ne nj. (other_left reign.leader i others t.under_way reign.leader j (λ _ b. ne b), other_left reign.leader i others t.under_way j reign.leader (λ a _. nj a)))
        (λ f j a. other_left reign.leader i others t.under_way f j (λ y z. ni (sym z ∙ a.0 y)))

    pub pop_up : (f : ℕ) → (f ≡ reign.leader → ⊥) → (others : List Owed) → (F : PeonIn ms q pace reign r t f t.under_way) → Carries ms reign t.world.messages f reign.leader (t.time + pace.delay) (drop F.taken (take (said F.heard) (to_leader reign pace r))) others → Popped f reign.leader others
    pop_up f nf others F C = one_replaced (without_first f reign.leader others t.under_way) f (record {
      heard = F.heard;
      taken = F.taken;
      sent = F.sent;
      answered = F.answered;
      follows = F.follows;
      lease = F.lease;
      epoch = F.epoch;
      promise = F.promise;
      keeps = F.keeps;
      noted = F.noted;
      to_come = subst (Carries ms reign t.world.messages reign.leader f (t.time + pace.delay) (drop F.heard (to_peon reign pace r))) (sym (other_left f reign.leader others t.under_way reign.leader f (λ a _. nf (sym a)))) F.to_come;
      to_take = subst (Carries ms reign t.world.messages f reign.leader (t.time + pace.delay) (drop F.taken (take (said F.heard) (to_leader reign pace r)))) (sym (here_left f reign.leader others t.under_way)) C;
    })
        (λ j ne nj. (other_left f reign.leader others t.under_way reign.leader j (λ _ b. nj b), other_left f reign.leader others t.under_way j reign.leader (λ a _. ne a)))
        (λ g j a. other_left f reign.leader others t.under_way g j (λ y z. nf (sym y ∙ a.1 z)))

    pub pop_other : (f i : ℕ) → AreApart reign.leader f i → (others : List Owed) → Carries ms reign t.world.messages f i (t.time + pace.delay) [] others → Popped f i others
    pop_other f i own others C = (
      (λ j pj nj. with_lists j (peons j pj nj) (without_first f i others t.under_way) (other_left f i others t.under_way reign.leader j (λ a b. nj (b ∙ own.0 (sym a)))) (other_left f i others t.under_way j reign.leader (λ a b. nj (a ∙ own.1 (sym b))))),
      (λ g j pg pj a. list_left f i others t.under_way (λ g j os. Carries ms reign t.world.messages g j (t.time + pace.delay) [] os) g j C (apart g j pg pj a)),
    )

  pub popped : Steady ms q pace reign r t → (left : ℕ → ℕ → List Owed) → AllPeons q left × AllApart q left → Steady ms q pace reign r (record t { under_way = left })
  popped S left k = record {
    leads = S.leads;
    second = S.second;
    second_in = S.second_in;
    second_is = S.second_is;
    members = S.members;
    short = S.short;
    since = S.since;
    reached = S.reached;
    ordered = S.ordered;
    renewed = S.renewed;
    apart = S.apart;
    only_renewed = S.only_renewed;
    epoch = S.epoch;
    last = S.last;
    fits = S.fits;
    lead = S.lead;
    peons = k.0;
    others = k.1;
  }

-- An event at a member `at`, which is peon i or the leader, about that peon.
module _ (ms : Monitors) (q : List Bool) (pace : Pace) (reign : Reign) (r : Round) (t next : Timed) (u : ℕ) (later : t.time ≤ u) (e : Event)
    (left : ℕ → ℕ → List Owed) (went : Went ms q pace (at_time ms q pace u t) e left next) (at : ℕ) (s after : State) (cs : List Change) (es : List Envelope)
    (up : t.world.state at ≡ Some s) (D : Did t.world next.world at after cs es) where
  pub peons_on : (p : List Bool) → AllPeons ms q pace reign r t p t.under_way → AllApart ms q pace reign r t p t.under_way → (i : ℕ) → (i ≡ reign.leader → ⊥) → ((at ≡ i) ⊎ (at ≡ reign.leader)) → PeonIn ms q pace reign r next i next.under_way
      → ((j : ℕ) → (j ≡ i → ⊥) → (j ≡ reign.leader → ⊥) → (left reign.leader j ≡ t.under_way reign.leader j) × (left j reign.leader ≡ t.under_way j reign.leader))
      → ((f j : ℕ) → AreApart reign.leader f j → left f j ≡ t.under_way f j)
      → ((j : ℕ) → (j ≡ i → ⊥) → (taken : ℕ) → IsSomeAnd (t.world.state reign.leader) (Noted j taken r.next) → IsSomeAnd (next.world.state reign.leader) (Noted j taken r.next))
      → ((f j : ℕ) → (f ≡ reign.leader → j ≡ i → ⊥) → (f ≡ i → j ≡ reign.leader → ⊥) → Gives ms reign f j [] es)
      → AllPeons ms q pace reign r next p next.under_way × AllApart ms q pace reign r next p next.under_way
  unfolding with_lists
  peons_on p peons others i ni which F same apart noted gives = (
    (λ j pj nj. elim (cases_eq j i) [
      | inl is ↦ subst (λ (z : ℕ). PeonIn ms q pace reign r next z next.under_way) (sym is) F
      | inr ne ↦ (let k = same j ne nj in let G = peons j pj nj in
          untouched ms q pace reign t next u later e left went at s after cs es up D r j (λ z. elim which [ inl a ↦ ne (z ∙ a) | inr a ↦ nj (z ∙ a) ])
          (with_lists ms q pace reign r t j G left k.0 k.1) (noted j ne G.taken G.noted) (gives reign.leader j (λ _ b. ne b) (λ _ b. nj b)) (gives j reign.leader (λ a _. nj a) (λ a _. ne a)))
    ]),
    (λ f j pf pj a. same_carried ms q pace reign t next u later e left went at s after cs es up D f j []
        (subst (Carries ms reign t.world.messages f j (t.time + pace.delay) []) (sym (apart f j a)) (others f j pf pj a))
        (gives f j (λ x y. ni (sym y ∙ a.0 x)) (λ x y. ni (sym x ∙ a.1 y)))),
  )

module _ (ms : Monitors) (q : List Bool) (pace : Pace) (reign : Reign) (r : Round) (t : Timed) (S : Steady ms q pace reign r t) (next : Timed) (u : ℕ) (later : t.time ≤ u) (e : Event)
    (left : ℕ → ℕ → List Owed) (went : Went ms q pace (at_time ms q pace u t) e left next) (at : ℕ) (s after : State) (cs : List Change) (es : List Envelope)
    (up : t.world.state at ≡ Some s) (D : Did t.world next.world at after cs es) where
  pub one_peon : (i : ℕ) → (i ≡ reign.leader → ⊥) → ((at ≡ i) ⊎ (at ≡ reign.leader)) → PeonIn ms q pace reign r next i next.under_way
      → ((j : ℕ) → (j ≡ i → ⊥) → (j ≡ reign.leader → ⊥) → (left reign.leader j ≡ t.under_way reign.leader j) × (left j reign.leader ≡ t.under_way j reign.leader))
      → ((f j : ℕ) → AreApart reign.leader f j → left f j ≡ t.under_way f j)
      → (epoch_of (readings_of (next.world.store reign.leader)) ≡ reign.epoch) × ((readings_of (next.world.store reign.leader)).last ≡ r.version)
      → IsSomeAnd (next.world.state reign.leader) (Leads ms.count q pace reign r r.next)
      → ((j : ℕ) → (j ≡ i → ⊥) → (taken : ℕ) → IsSomeAnd (t.world.state reign.leader) (Noted j taken r.next) → IsSomeAnd (next.world.state reign.leader) (Noted j taken r.next))
      → ((f j : ℕ) → (f ≡ reign.leader → j ≡ i → ⊥) → (f ≡ i → j ≡ reign.leader → ⊥) → Gives ms reign f j [] es)
      → Steady ms q pace reign r next
  one_peon i ni which F same apart keeps leads noted gives =
      let k = peons_on ms q pace reign r t next u later e left went at s after cs es up D q S.peons S.others i ni which F same apart noted gives in record {
        leads = S.leads;
        second = S.second;
        second_in = S.second_in;
        second_is = S.second_is;
        members = S.members;
        short = S.short;
        since = S.since;
        reached = (let a = S.reached in let c = went.time in omega arith);
        ordered = S.ordered;
        renewed = S.renewed;
        apart = S.apart;
        only_renewed = S.only_renewed;
        epoch = keeps.0;
        last = keeps.1;
        fits = S.fits;
        lead = leads;
        peons = k.0;
        others = k.1;
      }
