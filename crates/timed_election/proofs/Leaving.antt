-- What an election leaves behind when it is won.
use Rattle.law_names.proofs.Runs.{Envelope, Event, Monitors, message_at, messages_of}
use Rattle.law_names.proofs.Table.{AllByRecursion, Change, Fits, Readings, has, played, promise_of, readings_of}
use Rattle.log_model.proofs.Lists.{all_map}
use Rattle.quorum_stays.proofs.SteppingDown.{here}
use Rattle.quorum_stays.specs.Reading.{ClocksGoOn}
use Rattle.quorum_stays.specs.Steady.{IsOfElections}
use Rattle.quorum_timed.specs.Begins.{IsQuick}
use Rattle.quorum_timed.specs.Timed.{Leads, MayBe, Owed, Pace, Timed}
use Rattle.std.proofs.Common.{Bool, IsSomeAnd, List, [], ap, arith, inl, inr, length, refl, subst, suc, sym, true, ℕ, ◌++◌, ◌+◌, ◌<◌, ◌∙◌, ◌∷◌, ◌≡◌, ◌≤◌}
use Rattle.std.proofs.lemmas.Bool.{cases_eq}
use Rattle.std.proofs.lemmas.List.{append_assoc}
use Rattle.timed_election.proofs.Coming.{Handled, left_all, next_all, still}
use Rattle.timed_election.proofs.Ending.{WonAfter, ends_after}
use Rattle.timed_election.proofs.Lists.{at_place, closed, opened}
use Rattle.timed_election.proofs.Outcomes.{VotesOrAnswers}
use Rattle.timed_election.proofs.Parts.{joined}
use Rattle.timed_election.proofs.Remaining.{Remains, Says, remains_at_first, remains_next, votes_alone}
use Rattle.timed_election.specs.Election.{Election, Elects, IsRaised}
use Rattle.timed_election.specs.Keeping.{IsWonWithin, OnlyVotes}

module _ (ms : Monitors) (q : List Bool) (pace : Pace) (quick : IsQuick pace) (short : pace.delay < 1000) (E : Election) (t : Timed) (X : Elects ms q pace E t) (soon : t.time ≤ E.by) where
  -- ---- until it is won

  abbrev Alike : Timed → Type 0
  Alike z = (i : ℕ) → has q i ≡ true → readings_of (z.world.store i) ≡ readings_of (t.world.store i)

  abbrev P : Timed → Type 0
  P z = Alike z × Remains (E.by + pace.delay) pace.delay q z

  lasts : (z : Timed) (Y : Elects ms q pace E z) (u : ℕ) (M : MayBe ms q pace z u) (next : Timed) (e : Event) (H : Handled ms q pace Y.can.members z u next e) → H.course.changes ≡ []
      → AllByRecursion (VotesOrAnswers H.came) (messages_of H.course.out) → P z → P next
  lasts z Y u M next e H unchanged answers k = (alike, remains_next (E.by + pace.delay) pace.delay ms q pace refl E z Y u M next e H answers k.1)
    where
      own : readings_of (next.world.store H.i) ≡ readings_of (z.world.store H.i)
      own = (subst (λ (cs : List Change). AllByRecursion Fits cs → readings_of (next.world.store H.i) ≡ played cs (readings_of (z.world.store H.i))) unchanged H.did.kept) tt

      alike : Alike next
      alike i qi = elim (cases_eq i H.i) [
        | inl same ↦ subst (λ (j : ℕ). readings_of (next.world.store j) ≡ readings_of (z.world.store j)) (sym same) own ∙ k.0 i qi
        | inr ne ↦ ap readings_of (H.did.stores i ne) ∙ k.0 i qi
      ]

  -- ---- when it is won

  module _ (last : Timed) (more : List (ℕ × Event)) (by : ℕ) (W : WonAfter ms q pace quick E P lasts t last more by) where
    abbrev H : Handled ms q pace W.elects.can.members W.eve W.at W.reached W.event
    H = W.handled

    votes : OnlyVotes q E.epoch W.reached
    votes f j qf qj = next_all ms q pace W.eve W.at W.reached W.event H.left H.went H.i H.came H.state H.course H.how H.did Q f j
        (left_all ms q pace W.eve W.at W.reached W.event H.left H.went H.i H.came H.state H.course H.how H.did Q f j
        (all_map (Says IsOfElections W.eve.world.messages) Q old (W.eve.under_way f j) (votes_alone (E.by + pace.delay) pace.delay ms q pace W.eve W.at W.on late W.lasting.1 f j qf qj)))
        (λ d m there from to at. closed (λ (n : Envelope). n.message.epoch ≤ E.epoch → IsOfElections n.message.body) (message_at W.reached.world.messages (suc (length W.eve.world.messages) + d)) m at
        (λ low. (let k = (at_place (λ (n : Envelope). (n.message.from ≡ H.i) × (n.to ≡ H.i → ⊥) × (n.message.epoch ≡ suc E.epoch)) (messages_of H.course.out) d m W.wins.fresh there).2 in absurd (omega arith))))
      where
        Q : Owed → Type 0
        Q o = IsSomeAnd (message_at W.reached.world.messages o.number) (λ m. m.message.epoch ≤ E.epoch → IsOfElections m.message.body)

        late : E.by + pace.delay + pace.delay < W.at
        late = let a = X.together in let b = W.wins.over in omega arith

        old : (o : Owed) → Says IsOfElections W.eve.world.messages o → Q o
        old o k =
            let m = opened (λ (n : Envelope). IsOfElections n.message.body) (message_at W.eve.world.messages o.number) k in
            closed (λ (n : Envelope). n.message.epoch ≤ E.epoch → IsOfElections n.message.body) (message_at W.reached.world.messages o.number) m.0
            (still ms q pace W.eve W.at W.reached W.event H.left H.went H.i H.came H.state H.course H.how H.did o.number m.0 m.1) (λ _. m.2)

    raised : IsRaised E W.wins.won.pn (readings_of (t.world.store E.best)) (readings_of (W.reached.world.store E.best))
    raised =
        let R = W.wins.raised in
        let number : W.wins.number ≡ W.wins.won.pn = sym (ap promise_of R.after_is) ∙ W.wins.won.promise in
        let C = W.elects.can in
        subst (λ (n : ℕ). IsRaised E n (readings_of (t.world.store E.best)) (readings_of (W.reached.world.store E.best))) number
        (subst (λ (w : Readings). IsRaised E W.wins.number w (readings_of (W.reached.world.store E.best))) (W.lasting.0 E.best C.member) R)

    within : IsWonWithin ms q pace E t last more by
    within = record {
      before = W.before ++ (W.at, W.event) ∷ [];
      after = W.after;
      parts = W.parts ∙ sym (append_assoc W.before ((W.at, W.event) ∷ []) W.after);
      reached = W.reached;
      run = joined ms q pace W.before t W.eve W.reached ((W.at, W.event) ∷ []) W.run (W.on, (W.reached, W.comes, (here ms q pace W.reached last W.after W.rest, refl)));
      rest = W.rest;
      by = W.in_time;
      won = W.wins.won;
      kept = λ i qi ne. ap readings_of (H.did.stores i (λ same. ne (same ∙ W.wins.winner))) ∙ W.lasting.0 i qi;
      raised = raised;
      votes = votes;
    }

  -- ---- the law

  pub leaves_votes : (last : Timed) (more : List (ℕ × Event)) → Leads ms q pace t more last → ClocksGoOn q pace last.time → E.by + 5000 + pace.late < last.time
      → IsWonWithin ms q pace E t last more (E.by + 5000 + pace.late)
  leaves_votes last more L room late =
      within last more (E.by + 5000 + pace.late) (ends_after ms q pace quick E P lasts t last more X
      ((λ i qi. refl), remains_at_first (E.by + pace.delay) pace.delay ms q pace refl E t X (omega arith)) L room late)
