-- One event at one member that takes part in an election.
use Rattle.law_names.proofs.Runs.{Envelope, Event, Monitors, message_at, messages_of}
use Rattle.law_names.proofs.Table.{AllByRecursion, Course, Entry, Input, Me, Message, Readings, Sent, State, Timer, armed, count_of, disarmed, end_of, epoch_of, has, is_allowed, is_alone, is_even, is_majority, is_whole, may_defer, no_ranks, only, others, react, readings_of, stands_before, with_rank}
use Rattle.mon_msg.specs.declared.input.Input.TheVariants as input
use Rattle.mon_msg.specs.declared.plan.Sent.TheVariants as sent
use Rattle.mon_wire.specs.declared.body.Body.TheVariants as body
use Rattle.mon_wire.specs.declared.phase.Timer.TheVariants as timer
use Rattle.quorum_agreement.proofs.Others.{others as has_others}
use Rattle.quorum_elects.proofs.Ranks.{count_more}
use Rattle.quorum_model.proofs.Members.{member_of}
use Rattle.quorum_stays.proofs.Onward.{one_state}
use Rattle.quorum_stays.proofs.Timers.{armed_size, disarmed_size, ends, same_kind_or, still_ends, still_on}
use Rattle.quorum_timed.proofs.Armed.{Timers}
use Rattle.quorum_timed.specs.Begins.{IsQuick}
use Rattle.quorum_timed.specs.Calls.{IsCall, IsCandidate}
use Rattle.quorum_timed.specs.Timed.{MayBe, Owed, Pace, Timed}
use Rattle.quorum_walk.proofs.Ranks.{has_only_is, has_with, has_with_is, nobody}
use Rattle.quorum_walk.proofs.Walk.{Then}
use Rattle.std.proofs.Common.{Bool, IsSomeAnd, List, None, Ok, Option, Some, [], ap, arith, eqb, false, inl, inr, length, ltb, map, refl, subst, sym, true, ℕ, ◌&&◌, ◌*◌, ◌+◌, ◌^◌, ◌||◌, ◌∙◌, ◌∷◌, ◌≡◌, ◌≤◌, ◌⊎◌}
use Rattle.std.proofs.lemmas.Bool.{and_from, and_parts, cases_eq, eq-eqb, false≢true, lt-ltb, ltb-true, ne_eqb, or_left, or_right}
use Rattle.std.proofs.lemmas.List.{get_or-set_same, length-set}
use Rattle.timed_election.proofs.Coming.{How, again, asks, fires, first}
use Rattle.timed_election.proofs.Counting.{not_whole, several}
use Rattle.timed_election.proofs.Lists.{all_sent, closed, opened}
use Rattle.timed_election.proofs.Outcomes.{Heard as Came, IsAnswerTo, IsLow, Outcome, Stays, VotesOrAnswers, Wins, ack_taken, call_taken, calls, calls_again, counts, defers, reacted, rests, says, wins}
use Rattle.timed_election.proofs.Quiet.{IsQuiet, no_ack, no_call}
use Rattle.timed_election.proofs.Ranking.{best_first, nobody_better, not_itself}
use Rattle.timed_election.proofs.Times.{all_acked, best_now, over_by, unheard_by}
use Rattle.timed_election.specs.Election.{CanElect, Defers, Election, Elects, EndsAfter, IsOfElection, Stands, TakesPart, in_election}

module _ (ms : Monitors) (q : List Bool) (pace : Pace) (quick : IsQuick pace) (E : Election) (t : Timed) (X : Elects ms q pace E t) (u : ℕ) (M : MayBe ms q pace t u) where
  abbrev b : ℕ
  b = E.best

  abbrev C : CanElect ms q b
  C = X.can

  -- ---- an event

  -- what it leaves of the election, if nobody wins it
  pub record Turn (i : ℕ) (came : Input) (s after : State) (out : List Sent) : Type 0 where
    pub part : TakesPart q pace E i after
    pub own : AllByRecursion (λ (m : Envelope). (m.message.from ≡ i) × (m.message.epoch ≡ E.epoch)) (messages_of out)
    pub stands : i ≡ b → Stands q pace E after
    pub quiet : i ≡ b → AllByRecursion (λ (m : Envelope). IsCall m.message.body → ⊥) (messages_of out)
    pub kept : i ≡ b → (j : ℕ) → has s.elector.acked j ≡ true → has after.elector.acked j ≡ true
    pub added : i ≡ b → (j : ℕ) → has after.elector.acked j ≡ true → (has s.elector.acked j ≡ true) ⊎ Came ms.count came j E.epoch body.Ack
    pub defers : (i ≡ b → ⊥) → Defers q pace E t.time i s → Defers q pace E u i after
    pub silent : (i ≡ b → ⊥) → (came ≡ input.Deliver (record { from = b; monitors = ms.count; epoch = E.epoch; body = body.Propose None }) → ⊥)
        → AllByRecursion (λ (m : Envelope). m.to ≡ b → m.message.body ≡ body.Ack → ⊥) (messages_of out)
    pub answers : AllByRecursion (VotesOrAnswers came) (messages_of out)

  module _ (i : ℕ) (qi : has q i ≡ true) (lt : ltb i ms.count ≡ true) (came : Input) (e : Event) (left : ℕ → ℕ → List Owed) (s : State) (up : t.world.state i ≡ Some s) (how : How ms q pace t u i came e left s)
      (sh : List Entry) (y : Course) (reacts : react (member_of ms i lt) sh (u + pace.clock i) (readings_of (t.world.store i)) s came ≡ Ok y) (room : u + pace.clock i + 10000 ≤ 2 ^ 62) where
    abbrev now : ℕ
    now = u + pace.clock i

    abbrev me : Me
    me = member_of ms i lt

    abbrev w : Readings
    w = readings_of (t.world.store i)

    epoch_is : epoch_of w ≡ E.epoch
    epoch_is = X.epoch i qi

    begun : E.from ≤ u
    begun = let a = X.begun in let c = M.later in omega arith

    pub part : TakesPart q pace E i s
    part = let P = opened (TakesPart q pace E i) (t.world.state i) (X.part i qi) in subst (TakesPart q pace E i) (one_state (t.world.state i) P.0 s P.1 up) P.2

    odd : is_even (epoch_of w) ≡ false
    odd = subst (λ (z : ℕ). is_even z ≡ false) (sym epoch_is) X.odd

    -- ---- what comes

    pub of_member : (m : Message) → came ≡ input.Deliver m → (has q m.from ≡ true) × (m.epoch ≤ E.epoch)
    of_member m is = by how
      where
        by : How ms q pace t u i came e left s → (has q m.from ≡ true) × (m.epoch ≤ E.epoch)
        by (first f qf o others z list there from k at rest) =
            let all = subst (AllByRecursion (IsOfElection E t.world.messages f i (t.time + pace.delay))) list (X.under_way f i qf qi) in
            let O : IsOfElection E t.world.messages f i (t.time + pace.delay) o = all.0 in
            let same : z ≡ m = cc in
            let whole : O.envelope ≡ record { to = i; message = z } = (let two : Some O.envelope ≡ Some (record { to = i; message = z }) = sym O.there ∙ there in cc) in
            let low = O.epoch in
            let number : O.envelope.message.epoch ≡ m.epoch = ap (λ (p : Envelope). p.message.epoch) whole ∙ ap (λ (p : Message). p.epoch) same in
            (subst (λ (p : ℕ). has q p ≡ true) (sym from ∙ ap (λ (p : Message). p.from) same) qf, omega arith)
        by (again k z there from call still h at rest) =
            let same : z ≡ m = cc in
            let number : m.epoch ≡ E.epoch = sym (ap (λ (p : Message). p.epoch) same) ∙ (let c : IsCandidate t.world z.from z.epoch = still in sym c.epoch_is ∙ X.epoch z.from from) in
            (subst (λ (p : Message). has q p.from ≡ true) same from, omega arith)
        by (fires kind end on due k at rest) = absurd cc
        by (asks session r k at rest) = absurd cc

    low : IsLow (epoch_of w) came
    low = by came refl
      where
        by : (c : Input) → came ≡ c → IsLow (epoch_of w) c
        by input.Start is = tt
        by (input.Deliver m) is = let k = of_member m is in let z = epoch_is in let l = k.1 in omega arith
        by (input.Timer kind) is = tt
        by (input.Client session r) is = tt

    -- the timer of the election fires
    pub fired : came ≡ input.Timer timer.Election → (end : ℕ) × (end_of timer.Election s.timers ≡ Some end) × (end ≤ now)
    fired is = by how
      where
        by : How ms q pace t u i came e left s → (end : ℕ) × (end_of timer.Election s.timers ≡ Some end) × (end ≤ now)
        by (first f qf o others z list there from k at rest) = absurd cc
        by (again k z there from call still h at rest) = absurd cc
        by (fires kind end on due k at rest) =
            let same : kind ≡ timer.Election = cc in
            (end, subst (λ (z : Timer). end_of z s.timers ≡ Some end) same on, due)
        by (asks session r k at rest) = absurd cc

    pub late : came ≡ input.Timer timer.Election → E.from + 5000 ≤ u
    late is =
        let f = fired is in
        let o = opened (λ (end : ℕ). E.from + pace.clock i + 5000 ≤ end) (end_of timer.Election s.timers) part.ends in
        let same : o.0 ≡ f.0 = (let two : Some o.0 ≡ Some f.0 = sym o.1 ∙ f.1 in cc) in
        let a = o.2 in
        let c = f.2 in
        omega arith

    few : (f : ℕ) (m : Message) → came ≡ input.Deliver m → m.from ≡ f → is_whole me (with_rank s.elector.acked f) ≡ false
    few f m is from = not_whole ms q b C (with_rank s.elector.acked f) (λ k h. elim (has_with_is s.elector.acked f k h) [
      | inl is_f ↦ subst (λ (z : ℕ). has q z ≡ true) (from ∙ sym is_f) (of_member m is).0
      | inr old ↦ part.acks k old
    ])

    second : is_majority ms.count s.elector.acked ≡ true → is_alone me s.elector.acked ≡ false
    second most = has_others me s.elector.acked (several ms q b C) most (λ k h. C.members k (part.acks k h))

    pub outcome : Outcome ms i lt now sh w s came y
    outcome = (subst (Then (Outcome ms i lt now sh w s came)) reacts (reacted ms i lt now sh w s odd C.ranks_decide part.only second came few part.elects low)).holds

    -- ---- what is sent

    all_own : (out : List Sent) → AllByRecursion (IsQuiet w i) out → AllByRecursion (λ (m : Envelope). (m.message.from ≡ i) × (m.message.epoch ≡ E.epoch)) (messages_of out)
    all_own out k = all_sent (IsQuiet w i) (λ (m : Envelope). (m.message.from ≡ i) × (m.message.epoch ≡ E.epoch)) (λ to m h. (h.0, h.1 ∙ epoch_is)) out k

    all_quiet : (out : List Sent) → AllByRecursion (IsQuiet w i) out → AllByRecursion (λ (m : Envelope). IsCall m.message.body → ⊥) (messages_of out)
    all_quiet out k = all_sent (IsQuiet w i) (λ (m : Envelope). IsCall m.message.body → ⊥) (λ to m h. no_call w m.body h.2) out k

    all_silent : (out : List Sent) → AllByRecursion (IsQuiet w i) out → AllByRecursion (λ (m : Envelope). m.to ≡ b → m.message.body ≡ body.Ack → ⊥) (messages_of out)
    all_silent out k = all_sent (IsQuiet w i) (λ (m : Envelope). m.to ≡ b → m.message.body ≡ body.Ack → ⊥) (λ to m h _. no_ack w m.body h.2) out k

    -- ---- what it remembers

    module _ (candidate : Bool) (acked : List Bool) (deferred : Option ℕ) (ts : Timers) (K : Stays candidate acked deferred ts y) where
      remains : length ts ≡ 11 → ((kind : Timer) (end : ℕ) → end_of kind ts ≡ Some end → kind ≡ timer.Election) → IsSomeAnd (end_of timer.Election ts) (λ end. E.from + pace.clock i + 5000 ≤ end)
          → ((j : ℕ) → has acked j ≡ true → has q j ≡ true) → ((j : ℕ) → deferred ≡ Some j → has q j ≡ true) → TakesPart q pace E i y.state
      remains size only_one after acks whom = record {
        elects = K.phase;
        kinds = ap length K.timers ∙ size;
        only = λ kind end on. only_one kind end (sym (ap (end_of kind) K.timers) ∙ on);
        ends = subst (λ (z : Timers). IsSomeAnd (end_of timer.Election z) (λ end. E.from + pace.clock i + 5000 ≤ end)) (sym K.timers) after;
        acks = λ j h. acks j (sym (ap (λ (z : List Bool). has z j) K.acked) ∙ h);
        defers = λ j h. whom j (sym K.deferred ∙ h);
      }

    -- the timer was armed anew
    module _ (ts : Timers) (size : length ts ≡ 11) (only_one : (kind : Timer) (end : ℕ) → end_of kind ts ≡ Some end → kind ≡ timer.Election) where
      again_ends : end_of timer.Election (armed now timer.Election ts) ≡ Some (now + 5000)
      again_ends = ends now timer.Election ts size (omega arith)

      again_after : (wait : ℕ) → E.from + wait ≤ u + 5000 → IsSomeAnd (end_of timer.Election (armed now timer.Election ts)) (λ end. E.from + pace.clock i + wait ≤ end)
      again_after wait le = closed (λ (end : ℕ). E.from + pace.clock i + wait ≤ end) (end_of timer.Election (armed now timer.Election ts)) (now + 5000) again_ends (omega arith)

      again_only : (kind : Timer) (end : ℕ) → end_of kind (armed now timer.Election ts) ≡ Some end → kind ≡ timer.Election
      again_only kind end on = elim (same_kind_or kind timer.Election) [
        | inl same ↦ same
        | inr ne ↦ only_one kind end (sym (still_ends now kind timer.Election ts ne) ∙ on)
      ]

      called_anew : Stays true (only i) None (armed now timer.Election ts) y → TakesPart q pace E i y.state
      called_anew K = remains true (only i) None (armed now timer.Election ts) K (armed_size now timer.Election ts size) again_only (again_after 5000 (let a = begun in omega arith)) (λ j h. subst (λ (z : ℕ). has q z ≡ true) (sym (has_only_is i j h)) qi) (λ j h. absurd (let clash : None ≡ Some j = h in cc))

    bare_size : length (disarmed timer.Election s.timers) ≡ 11
    bare_size = disarmed_size timer.Election s.timers part.kinds

    bare_only : (kind : Timer) (end : ℕ) → end_of kind (disarmed timer.Election s.timers) ≡ Some end → kind ≡ timer.Election
    bare_only kind end on = elim (same_kind_or kind timer.Election) [
      | inl same ↦ same
      | inr ne ↦ part.only kind end (sym (still_on kind timer.Election s.timers ne) ∙ on)
    ]

    -- ---- the best member

    module _ (is_best : i ≡ b) where
      stands : Stands q pace E s
      stands =
          let B = best_now ms q pace quick E t X u M in
          subst (Stands q pace E) (one_state (t.world.state b) B.0 s B.1 (subst (λ (z : ℕ). t.world.state z ≡ Some s) is_best up)) B.3

      all_in : E.from + 5000 ≤ u → (j : ℕ) → has q j ≡ true → has s.elector.acked j ≡ true
      all_in late j qj = elim (cases_eq j b) [
        | inl same ↦ (let S = stands in subst (λ (z : ℕ). has s.elector.acked z ≡ true) (sym same) S.own)
        | inr ne ↦ (let k = opened (λ (z : State). has z.elector.acked j ≡ true) (t.world.state b) (all_acked ms q pace quick E t X u M late j qj ne) in
            subst (λ (z : State). has z.elector.acked j ≡ true) (one_state (t.world.state b) k.0 s k.1 (subst (λ (z : ℕ). t.world.state z ≡ Some s) is_best up)) k.2)
      ]

      most_in : E.from + 5000 ≤ u → is_majority ms.count s.elector.acked ≡ true
      most_in late =
          let more = count_more q s.elector.acked (all_in late) in
          let most = ltb-true ms.count (2 * count_of q) C.major in
          lt-ltb ms.count (2 * count_of s.elector.acked) (omega arith)

      not_deferring : {A : Type 0} (f : ℕ) (table : _) → has q f ≡ true → (is_allowed me f && stands_before me table f i) ≡ true → A
      not_deferring f table qf better = elim (cases_eq f b) [
        | inl same ↦ absurd (not_itself ms table b (subst (λ (z : ℕ). (is_allowed me z && stands_before me table z b) ≡ true) same (subst (λ (z : ℕ). (is_allowed me f && stands_before me table f z) ≡ true) is_best better)))
        | inr ne ↦ absurd (nobody_better ms q b C f qf ne table (subst (λ (z : ℕ). (is_allowed me f && stands_before me table f z) ≡ true) is_best better))
      ]

      still_stands : (a : List Bool) (deferred : Option ℕ) → Stays true a deferred s.timers y → length a ≡ 15 → has a b ≡ true → Stands q pace E y.state
      still_stands a deferred K size own =
          let S = stands in record {
            candidate = K.candidate;
            ranks = ap length K.acked ∙ size;
            own = ap (λ (z : List Bool). has z b) K.acked ∙ own;
            ends = subst (λ (z : Timers). IsSomeAnd (end_of timer.Election z) (λ end. end ≤ E.by + pace.clock b + 5000)) (sym K.timers) S.ends;
          }

    -- ---- another member

    -- its call is of the form that all of its calls have
    pub call_is : (m : Message) → came ≡ input.Deliver m → IsCall m.body → m.from ≡ b → m.epoch ≡ E.epoch → came ≡ input.Deliver (record { from = b; monitors = ms.count; epoch = E.epoch; body = body.Propose None })
    call_is m is calling from epoch = by how
      where
        so : (k : ℕ) (z : Message) → message_at t.world.messages k ≡ Some (record { to = i; message = z }) → came ≡ input.Deliver z → came ≡ input.Deliver (record { from = b; monitors = ms.count; epoch = E.epoch; body = body.Propose None })
        so k z there h =
            let same : m ≡ z = cc in
            let whole : record { to = i; message = m } ≡ in_election ms E b i (body.Propose None) =
            X.alike i k (record { to = i; message = m }) (subst (λ (p : Message). message_at t.world.messages k ≡ Some (record { to = i; message = p })) (sym same) there) calling from refl epoch in
            is ∙ ap (λ (p : Envelope). input.Deliver p.message) whole

        by : How ms q pace t u i came e left s → came ≡ input.Deliver (record { from = b; monitors = ms.count; epoch = E.epoch; body = body.Propose None })
        by (first f qf o others z list there from k at rest) = so o.number z there k
        by (again k z there from call still h at rest) = so k z there h
        by (fires kind end on due k at rest) = absurd cc
        by (asks session r k at rest) = absurd cc

    same_timers : (wait : ℕ) → y.state.timers ≡ s.timers → EndsAfter q pace E wait i s → EndsAfter q pace E wait i y.state
    same_timers wait is k = subst (λ (z : Timers). IsSomeAnd (end_of timer.Election z) (λ end. E.from + pace.clock i + wait ≤ end)) (sym is) k

    -- the timer of its election fired before
    passed : E.from + 5000 ≤ t.time → E.from + 5000 ≤ u
    passed k = let a = M.later in omega arith

    abbrev IsLetter : Sent → Type 0
    IsLetter (sent.Message to m) = m ≡ record { from = i; monitors = ms.count; epoch = epoch_of w; body = body.Propose None }
    IsLetter (sent.Reply to r) = ⊥

    letters : (ks : List ℕ) → AllByRecursion IsLetter (map (says ms i lt now sh w s (body.Propose None)) ks)
    letters [] = tt
    letters (k ∷ ks) = (refl, letters ks)

    all_called : (P : Envelope → Type 0) → ((to : ℕ) → P (record { to = to; message = record { from = i; monitors = ms.count; epoch = epoch_of w; body = body.Propose None } })) → (ks : List ℕ) → y.out ≡ map (says ms i lt now sh w s (body.Propose None)) ks → AllByRecursion P (messages_of y.out)
    all_called P f ks is = subst (λ (z : List Sent). AllByRecursion P (messages_of z)) (sym is)
        (all_sent IsLetter P (λ to m k. subst (λ (z : Message). P (record { to = to; message = z })) (sym k) (f to)) (map (says ms i lt now sh w s (body.Propose None)) ks) (letters ks))

    -- what becomes of the election
    pub data Result : Type 0 where
      turns : y.changes ≡ [] → Turn i came s y.state y.out → Result
      won : i ≡ b → E.from + 5000 ≤ u → ((j : ℕ) → has q j ≡ true → has s.elector.acked j ≡ true) → Wins ms i lt now sh w s s.elector.acked y → Result

    pub result : Result
    result = by outcome
      where
        -- it had deferred, and nothing changes that
        kept_so : (candidate : Bool) (acked : List Bool) → s.elector.candidate ≡ candidate → Stays candidate acked s.elector.deferred s.timers y → Defers q pace E t.time i s → Defers q pace E u i y.state
        kept_so candidate acked is K (inl k) = inl (K.candidate ∙ sym is ∙ k.0, K.deferred ∙ k.1)
        kept_so candidate acked is K (inr k) = inr (passed k.0, same_timers 10000 K.timers k.1)

        defers_so : (f : ℕ) (table : _) → has q f ≡ true → (is_allowed me f && stands_before me table f i) ≡ true → may_defer me table f s.elector.deferred ≡ true → Stays false no_ranks (Some f) s.timers y → Defers q pace E t.time i s → Defers q pace E u i y.state
        defers_so f table qf better may K (inr k) = inr (passed k.0, same_timers 10000 K.timers k.1)
        defers_so f table qf better may K (inl k) = elim (cases_eq f b) [
          | inl same ↦ inl (K.candidate, K.deferred ∙ ap Some same)
          | inr ne ↦ absurd (nobody_better ms q b C f qf ne table (both (ne_eqb f b ne) (subst (λ (o : Option ℕ). may_defer me table f o ≡ true) k.1 may) (and_parts (is_allowed me f) (stands_before me table f i) better).0))
        ]
          where
            both : eqb f b ≡ false → (eqb f b || stands_before me table f b) ≡ true → is_allowed me f ≡ true → (is_allowed me f && stands_before me table f b) ≡ true
            both isnt either allowed = and_from (is_allowed me f) (stands_before me table f b) allowed (sym (ap (λ (z : Bool). z || stands_before me table f b) isnt) ∙ either)

        anew : (ts : Timers) → length ts ≡ 11 → ((kind : Timer) (end : ℕ) → end_of kind ts ≡ Some end → kind ≡ timer.Election) → E.from + 5000 ≤ u → Stays true (only i) None (armed now timer.Election ts) y → Defers q pace E u i y.state
        anew ts size only_one late K = inr (late, subst (λ (z : Timers). IsSomeAnd (end_of timer.Election z) (λ end. E.from + pace.clock i + 10000 ≤ end)) (sym K.timers) (again_after ts size only_one 10000 (omega arith)))

        by : Outcome ms i lt now sh w s came y → Result
        by (rests K quiet answers) = turns K.changes (record {
          part = remains s.elector.candidate s.elector.acked s.elector.deferred s.timers K part.kinds part.only part.ends part.acks part.defers;
          own = all_own y.out quiet;
          stands = λ is. (let S = stands is in still_stands is s.elector.acked s.elector.deferred (subst (λ (z : Bool). Stays z s.elector.acked s.elector.deferred s.timers y) S.candidate K) S.ranks S.own);
          quiet = λ is. all_quiet y.out quiet;
          kept = λ is j h. ap (λ (z : List Bool). has z j) K.acked ∙ h;
          added = λ is j h. inl (sym (ap (λ (z : List Bool). has z j) K.acked) ∙ h);
          defers = λ ne. kept_so s.elector.candidate s.elector.acked refl K;
          silent = λ ne isnt. all_silent y.out quiet;
          answers = all_sent (IsAnswerTo came) (VotesOrAnswers came) (λ to m h. inr h) y.out answers;
        })
        by (counts f H candidate K out) = turns K.changes (record {
          part = remains true (with_rank s.elector.acked f) s.elector.deferred s.timers K part.kinds part.only part.ends (λ j h. elim (has_with_is s.elector.acked f j h) [
            | inl is_f ↦ subst (λ (z : ℕ). has q z ≡ true) (H.from ∙ sym is_f) (of_member H.message H.is).0
            | inr old ↦ part.acks j old
          ]) part.defers;
          own = subst (λ (z : List Sent). AllByRecursion (λ (m : Envelope). (m.message.from ≡ i) × (m.message.epoch ≡ E.epoch)) (messages_of z)) (sym out) tt;
          stands = λ is. (let S = stands is in still_stands is (with_rank s.elector.acked f) s.elector.deferred K (length-set s.elector.acked f true ∙ S.ranks) (has_with s.elector.acked f b S.own));
          quiet = λ is. subst (λ (z : List Sent). AllByRecursion (λ (m : Envelope). IsCall m.message.body → ⊥) (messages_of z)) (sym out) tt;
          kept = λ is j h. ap (λ (z : List Bool). has z j) K.acked ∙ has_with s.elector.acked f j h;
          added = λ is j h. elim (has_with_is s.elector.acked f j (sym (ap (λ (z : List Bool). has z j) K.acked) ∙ h)) [
            | inl is_f ↦ inr (record { message = H.message; is = H.is; from = H.from ∙ sym is_f; monitors = H.monitors; epoch = H.epoch ∙ epoch_is; says = H.says })
            | inr old ↦ inl old
          ];
          defers = λ ne. kept_so true (with_rank s.elector.acked f) candidate K;
          silent = λ ne isnt. subst (λ (z : List Sent). AllByRecursion (λ (m : Envelope). m.to ≡ b → m.message.body ≡ body.Ack → ⊥) (messages_of z)) (sym out) tt;
          answers = subst (λ (z : List Sent). AllByRecursion (VotesOrAnswers came) (messages_of z)) (sym out) tt;
        })
        by (defers f tb table H better may K out) =
            let qf = subst (λ (z : ℕ). has q z ≡ true) H.from (of_member H.message H.is).0 in
            turns K.changes (record {
              part = remains false no_ranks (Some f) s.timers K part.kinds part.only part.ends (λ j h. absurd (false≢true (sym (nobody j) ∙ h))) (λ j h. subst (λ (z : ℕ). has q z ≡ true) (let two : Some f ≡ Some j = h in cc) qf);
              own = subst (λ (z : List Sent). AllByRecursion (λ (m : Envelope). (m.message.from ≡ i) × (m.message.epoch ≡ E.epoch)) (messages_of z)) (sym out) ((refl, epoch_is), tt);
              stands = λ is. not_deferring is f table qf better;
              quiet = λ is. not_deferring is f table qf better;
              kept = λ is. not_deferring is f table qf better;
              added = λ is. not_deferring is f table qf better;
              defers = λ ne. defers_so f table qf better may K;
              silent = λ ne isnt. subst (λ (z : List Sent). AllByRecursion (λ (m : Envelope). m.to ≡ b → m.message.body ≡ body.Ack → ⊥) (messages_of z)) (sym out)
                  ((λ is _. isnt (call_is H.message H.is (subst IsCall (sym H.says) tt) (H.from ∙ is) (H.epoch ∙ epoch_is))), tt);
              answers = subst (λ (z : List Sent). AllByRecursion (VotesOrAnswers came) (messages_of z)) (sym out) (inl tt, tt);
            })
        by (calls idle free K out) = turns K.changes (record {
          part = called_anew s.timers part.kinds part.only K;
          own = all_called (λ (m : Envelope). (m.message.from ≡ i) × (m.message.epoch ≡ E.epoch)) (λ to. (refl, epoch_is)) (others me) out;
          stands = λ is. standing is;
          quiet = λ is. standing is;
          kept = λ is. standing is;
          added = λ is. standing is;
          defers = λ ne k. elim k [
            | inl d ↦ absurd (let clash : None ≡ Some b = sym free ∙ d.1 in cc)
            | inr l ↦ anew s.timers part.kinds part.only (passed l.0) K
          ];
          silent = λ ne isnt. all_called (λ (m : Envelope). m.to ≡ b → m.message.body ≡ body.Ack → ⊥) (λ to _ k. cc) (others me) out;
          answers = all_called (VotesOrAnswers came) (λ to. inl tt) (others me) out;
        })
          where
            standing : {A : Type 0} → i ≡ b → A
            standing is = let S = stands is in absurd (false≢true (sym idle ∙ S.candidate))
        by (calls_again is no_win K out) = turns K.changes (record {
          part = called_anew (disarmed timer.Election s.timers) bare_size bare_only K;
          own = all_called (λ (m : Envelope). (m.message.from ≡ i) × (m.message.epoch ≡ E.epoch)) (λ to. (refl, epoch_is)) (others me) out;
          stands = λ best. winning best;
          quiet = λ best. winning best;
          kept = λ best. winning best;
          added = λ best. winning best;
          defers = λ ne k. anew (disarmed timer.Election s.timers) bare_size bare_only (late is) K;
          silent = λ ne isnt. all_called (λ (m : Envelope). m.to ≡ b → m.message.body ≡ body.Ack → ⊥) (λ to _ k. cc) (others me) out;
          answers = all_called (VotesOrAnswers came) (λ to. inl tt) (others me) out;
        })
          where
            winning : {A : Type 0} → i ≡ b → A
            winning best =
                let S = stands best in
                let allowed : is_allowed me i ≡ true = subst (λ (z : ℕ). is_allowed me z ≡ true) (sym best) C.may_lead in
                absurd (false≢true (sym no_win ∙ and_from (s.elector.candidate && is_allowed me i) (is_majority ms.count s.elector.acked) (and_from s.elector.candidate (is_allowed me i) S.candidate allowed) (most_in best (late is))))
        by (wins is candidate most K) = elim (cases_eq i b) [
          | inl best ↦ won best (late is) (all_in best (late is)) K
          | inr ne ↦ absurd (too_early ne)
        ]
          where
            too_early : (i ≡ b → ⊥) → ⊥
            too_early ne = elim (X.others i qi ne) [
              | inl U ↦ (let k = unheard_by ms q pace quick E t X u M i qi ne U in let l = late is in let a = quick.elections in let c = X.together in omega arith)
              | inr H ↦ (let D = opened (Defers q pace E t.time i) (t.world.state i) H.defers in
                  elim (subst (Defers q pace E t.time i) (one_state (t.world.state i) D.0 s D.1 up) D.2) [
                    | inl d ↦ false≢true (sym d.0 ∙ candidate)
                    | inr l ↦ (let f = fired is in
                        let o = opened (λ (end : ℕ). E.from + pace.clock i + 10000 ≤ end) (end_of timer.Election s.timers) l.1 in
                        let same : o.0 ≡ f.0 = (let two : Some o.0 ≡ Some f.0 = sym o.1 ∙ f.1 in cc) in
                        let a = o.2 in let c = f.2 in let d = over_by ms q pace quick E t X u M in let g = quick.elections in let h = X.together in omega arith)
                  ])
            ]

    -- ---- the two messages that have to be taken

    module _ (P : Course → Type 0) (m : Message) (is : came ≡ input.Deliver (record { from = m.from; monitors = m.monitors; epoch = E.epoch; body = m.body })) where
      holds_so : Then P (react me sh now w s (input.Deliver (record { from = m.from; monitors = m.monitors; epoch = epoch_of w; body = m.body }))) → P y
      holds_so T = (subst (Then P) reacts (subst (λ (c : Input). Then P (react me sh now w s c)) (ap (λ (z : ℕ). input.Deliver (record { from = m.from; monitors = m.monitors; epoch = z; body = m.body })) epoch_is ∙ sym is) T)).holds

    pub ack_counts : i ≡ b → (j : ℕ) → has q j ≡ true → (j ≡ b → ⊥) → came ≡ input.Deliver (record { from = j; monitors = ms.count; epoch = E.epoch; body = body.Ack }) → has y.state.elector.acked j ≡ true
    ack_counts best j qj nj is =
        let S = stands best in
        let K : Stays true (with_rank s.elector.acked j) s.elector.deferred s.timers y = holds_so (Stays true (with_rank s.elector.acked j) s.elector.deferred s.timers) (record { from = j; monitors = ms.count; epoch = E.epoch; body = body.Ack }) is
        (ack_taken ms i lt now sh w s odd C.ranks_decide part.only second came part.elects j (λ same. nj (same ∙ best)) (few j (record { from = j; monitors = ms.count; epoch = E.epoch; body = body.Ack }) is refl) S.candidate) in
        let size = S.ranks in
        let below = C.members j qj in
        let most = ms.most in
        ap (λ (z : List Bool). has z j) K.acked ∙ get_or-set_same s.elector.acked j true false (omega arith)

    pub call_answered : (i ≡ b → ⊥) → came ≡ input.Deliver (record { from = b; monitors = ms.count; epoch = E.epoch; body = body.Propose None }) → Stays false no_ranks (Some b) s.timers y × (y.out ≡ says ms i lt now sh w s body.Ack b ∷ [])
    call_answered other is = holds_so (λ z. Stays false no_ranks (Some b) s.timers z × (z.out ≡ says ms i lt now sh w s body.Ack b ∷ [])) (record { from = b; monitors = ms.count; epoch = E.epoch; body = body.Propose None }) is
        (call_taken ms i lt now sh w s odd C.ranks_decide part.only second came part.elects b (λ same. other (sym same)) (best_first ms q b C i qi other s.elector.scores) (may s.elector.deferred refl))
      where
        may : (o : Option ℕ) → s.elector.deferred ≡ o → may_defer me s.elector.scores b s.elector.deferred ≡ true
        may None is = ap (may_defer me s.elector.scores b) is
        may (Some k) is = ap (may_defer me s.elector.scores b) is ∙ elim (cases_eq k b) [
          | inl same ↦ or_left (eqb b k) (stands_before me s.elector.scores b k) (eq-eqb b k (sym same))
          | inr ne ↦ or_right (eqb b k) (stands_before me s.elector.scores b k) (and_parts (is_allowed me b) (stands_before me s.elector.scores b k) (best_first ms q b C k (part.defers k is) ne s.elector.scores)).1
        ]
