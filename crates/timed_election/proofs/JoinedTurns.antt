-- One event at a member that joined the election, while others haven't.
use Rattle.law_names.proofs.Runs.{Envelope, Event, Monitors, message_at, messages_of}
use Rattle.law_names.proofs.Table.{AllByRecursion, Change, Entry, Fits, Input, Me, Message, Readings, Sent, State, Timer, armed, end_of, epoch_of, has, is_allowed, is_alone, is_even, is_majority, is_whole, may_defer, message_to, no_ranks, only, others, played, react, readings_of, scores_count, shared_entries, stands_before, with_rank}
use Rattle.log_model.proofs.Lists.{all_map}
use Rattle.mon_msg.specs.declared.input.Input.TheVariants as input
use Rattle.mon_wire.specs.declared.body.Body.TheVariants as body
use Rattle.mon_wire.specs.declared.phase.Timer.TheVariants as timer
use Rattle.quorum_agreement.proofs.Others.{others as has_others}
use Rattle.quorum_model.proofs.Members.{member_of}
use Rattle.quorum_stays.proofs.Onward.{one_state}
use Rattle.quorum_stays.proofs.Timers.{armed_size, ends, same_kind_or, still_ends}
use Rattle.quorum_stays.proofs.UnderWay.{numbers}
use Rattle.quorum_timed.proofs.Armed.{Timers}
use Rattle.quorum_timed.specs.Calls.{IsCall}
use Rattle.quorum_timed.specs.Timed.{MayBe, Owed, Pace, Timed, owed_by}
use Rattle.quorum_walk.proofs.Ranks.{has_only_is, has_with, has_with_is, nobody}
use Rattle.quorum_walk.proofs.Walk.{Then}
use Rattle.std.proofs.Common.{Bool, IsSomeAnd, List, None, Ok, Option, Some, [], ap, arith, eqb, false, inl, inr, length, ltb, map, refl, slice_get, subst, suc, sym, true, ℕ, ◌&&◌, ◌*◌, ◌++◌, ◌+◌, ◌<◌, ◌^◌, ◌||◌, ◌∙◌, ◌∷◌, ◌≡◌, ◌≤◌, ◌⊎◌}
use Rattle.std.proofs.lemmas.Bool.{and_from, and_parts, cases_eq, eq-eqb, false≢true, lt-ltb, ne_eqb}
use Rattle.std.proofs.lemmas.List.{get_or-set_same, length-set}
use Rattle.timed_election.proofs.Coming.{Handled, How, again, asks, came_or_left, fires, first as first_, left_same, new_at}
use Rattle.timed_election.proofs.Counting.{not_whole, several}
use Rattle.timed_election.proofs.Joining.{Beginning, First, Goes, HeardIn, IsIn, Joining, Missed, Raised, Takes, election, joined}
use Rattle.timed_election.proofs.JoiningComes.{Known, known}
use Rattle.timed_election.proofs.JoiningFrame.{IsMute, Said, Turned, acks_on, all_left, missed_on, others_same, under}
use Rattle.timed_election.proofs.JoiningTurns.{begun_on, called_on, calls_mute, calls_said, heard_on, quiet_mute, quiet_said, takes_on}
use Rattle.timed_election.proofs.Lists.{arrives_last, at_place, closed, letter_is, message_in, one, opened}
use Rattle.timed_election.proofs.Outcomes.{Heard as Came, IsLow, Outcome, Stays, ack_taken, calls, calls_again, counts, defers, reacted, rests, wins}
use Rattle.timed_election.proofs.Ranking.{nobody_better, not_itself}
use Rattle.timed_election.specs.Election.{ArrivesBy, CanElect, Defers, Election, Heard, IsAck, Stands, TakesPart, in_election}
use Rattle.timed_election.specs.Joining.{NeedsNoCopy}

module _ (ms : Monitors) (q : List Bool) (pace : Pace) (short : 2 * pace.delay < 2000) (B : Beginning) (C : CanElect ms q B.best) (enough : B.top + 2 * pace.delay ≤ B.end)
    (near : (i j : ℕ) → has q i ≡ true → has q j ≡ true → NeedsNoCopy (B.stores i).last (B.stores j).first (B.stores j).last) where
  abbrev F : Type 0
  F = First ms q pace B

  abbrev b : ℕ
  b = B.best

  module _ (a from : ℕ) (t : Timed) (X : Joining ms q pace B (Some (a, from)) t) (u : ℕ) (M : MayBe ms q pace t u) (next : Timed) (e : Event) (H : Handled ms q pace C.members t u next e) where
    abbrev c : F
    c = Some (a, from)

    abbrev E : Election
    E = election ms q pace B from

    abbrev i : ℕ
    i = H.i

    abbrev s : State
    s = H.state

    abbrev lt : ltb i ms.count ≡ true
    lt = lt-ltb i ms.count (C.members i H.member)

    abbrev me : Me
    me = member_of ms i lt

    abbrev es : List Envelope
    es = messages_of H.course.out

    abbrev count : ℕ
    count = length t.world.messages

    abbrev due : ℕ
    due = u + pace.delay

    abbrev now : ℕ
    now = u + pace.clock i

    abbrev w : Readings
    w = readings_of (t.world.store i)

    abbrev sh : List Entry
    sh = shared_entries (t.world.store i)

    abbrev T : Type 0
    T = Turned ms q pace short B C enough c t X u M next e H c

    abbrev S : ℕ → Envelope → Type 0
    S after m = Said ms q pace short B C enough c t X u M next e H after m

    abbrev Mute : Envelope → Type 0
    Mute m = IsMute ms q pace short B C enough c t X u M next e H m

    abbrev Ack : Timed → ℕ → Owed → Type 0
    Ack v j = IsAck ms pace E q v j

    module _ (ranks : scores_count ms.rule ≡ false) (odd : is_even (suc B.epoch) ≡ false) (room : now + 10000 ≤ 2 ^ 62) (Z : Raised ms q pace B i w)
        (K : Takes ms q pace B c t i) (soon : u ≤ E.by) (on_time : u < from + 5000) where
      begun : from ≤ u
      begun = let k = X.begun in let z = k.0 in let m = M.later in omega arith

      part : TakesPart q pace E i s
      part = let o = opened (λ (z : State). TakesPart q pace E i z × (i ≡ b → Stands q pace E z)) (t.world.state i) K in subst (TakesPart q pace E i) (one_state (t.world.state i) o.0 s o.1 H.up) o.2.0

      stands : i ≡ b → Stands q pace E s
      stands is = let o = opened (λ (z : State). TakesPart q pace E i z × (i ≡ b → Stands q pace E z)) (t.world.state i) K in subst (Stands q pace E) (one_state (t.world.state i) o.0 s o.1 H.up) (o.2.1 is)

      odd_here : is_even (epoch_of w) ≡ false
      odd_here = ap is_even Z.epoch ∙ odd

      know : (m : Message) → H.came ≡ input.Deliver m → Known ms q pace B C c t X u next e H m
      know = known ms q pace B C c t X u next e H

      few : (f : ℕ) (m : Message) → H.came ≡ input.Deliver m → m.from ≡ f → is_whole me (with_rank s.elector.acked f) ≡ false
      few f m is from_f = not_whole ms q b C (with_rank s.elector.acked f) (λ k h. elim (has_with_is s.elector.acked f k h) [
        | inl is_f ↦ (let N = know m is in subst (λ (z : ℕ). has q z ≡ true) (from_f ∙ sym is_f) N.member)
        | inr old ↦ part.acks k old
      ])

      second : is_majority ms.count s.elector.acked ≡ true → is_alone me s.elector.acked ≡ false
      second most = has_others me s.elector.acked (several ms q b C) most (λ k h. C.members k (part.acks k h))

      low : (x : Input) → H.came ≡ x → IsLow (epoch_of w) x
      low input.Start is = tt
      low (input.Deliver m) is = let N = know m is in let l = N.epoch in let z = Z.epoch in omega arith
      low (input.Timer kind) is = tt
      low (input.Client session r) is = tt

      outcome : Outcome ms i lt now sh w s H.came H.course
      outcome = (subst (Then (Outcome ms i lt now sh w s H.came)) H.reacts (reacted ms i lt now sh w s odd_here ranks part.only second H.came few part.elects (low H.came refl))).holds

      -- its timer isn't due
      not_due : {A : Type 0} → H.came ≡ input.Timer timer.Election → A
      not_due is = absurd (of H.how)
        where
          of : How ms q pace t u i H.came e H.left s → ⊥
          of (first_ f qf o others z list there from_f h at rest) = cc
          of (again n z there from_f calling cand h at rest) = cc
          of (fires kind end on over h at rest) =
              let same : kind ≡ timer.Election = (let two : input.Timer kind ≡ input.Timer timer.Election = sym h ∙ is in cc) in
              let o = opened (λ (end : ℕ). from + pace.clock i + 5000 ≤ end) (end_of timer.Election s.timers) part.ends in
              let one_end : o.0 ≡ end = (let two : Some o.0 ≡ Some end = sym o.1 ∙ subst (λ (z : Timer). end_of z s.timers ≡ Some end) same on in cc) in
              let d = o.2 in
              omega arith
          of (asks session r h at rest) = cc

      -- ---- its store is the same

      module _ (same : H.course.changes ≡ []) where
        kept : readings_of (next.world.store i) ≡ w
        kept = (subst (λ (cs : List Change). AllByRecursion Fits cs → readings_of (next.world.store i) ≡ played cs w) same H.did.kept) tt

        stock_kept : Raised ms q pace B i (readings_of (next.world.store i))
        stock_kept = subst (Raised ms q pace B i) (sym kept) Z

        in_next : IsIn ms q pace B next i
        in_next = ap epoch_of kept ∙ Z.epoch

        -- ---- acknowledgements at the best member

        module _ (best : i ≡ b) where
          before : (j : ℕ) (z : Bool) → IsSomeAnd (t.world.state b) (λ v. has v.elector.acked j ≡ z) → has s.elector.acked j ≡ z
          before j z k =
              let o = opened (λ (v : State). has v.elector.acked j ≡ z) (t.world.state b) k in
              subst (λ (v : State). has v.elector.acked j ≡ z) (one_state (t.world.state b) o.0 s o.1 (subst (λ (n : ℕ). t.world.state n ≡ Some s) best H.up)) o.2

          -- an acknowledgement of one that is silent doesn't come
          silent_stays : (j : ℕ) → Missed ms q pace B t j → Came ms.count H.came j (suc B.epoch) body.Ack → ⊥
          silent_stays j N A = of H.how
            where
              whole : (z : Message) → H.came ≡ input.Deliver z → z ≡ record { from = j; monitors = ms.count; epoch = suc B.epoch; body = body.Ack }
              whole z is =
                  let same : z ≡ A.message = (let two : input.Deliver z ≡ input.Deliver A.message = sym is ∙ A.is in cc) in
                  same ∙ letter_is A.message j ms.count (suc B.epoch) body.Ack A.from A.monitors A.epoch A.says

              of : How ms q pace t u i H.came e H.left s → ⊥
              of (first_ f qf o others z list there from_f k at rest) =
                  let is = whole z k in
                  let sender : f ≡ j = sym from_f ∙ ap (λ (p : Message). p.from) is in
                  let here : t.under_way j b ≡ o ∷ others = subst (λ (p : ℕ). t.under_way j p ≡ o ∷ others) best (subst (λ (p : ℕ). t.under_way p i ≡ o ∷ others) sender list) in
                  let all = subst (AllByRecursion (λ o. Ack t j o → ⊥)) here N.silent in
                  all.0 (there ∙ ap (λ (p : Message). Some (record { to = i; message = p })) is ∙ ap (λ (p : ℕ). Some (record { to = p; message = record { from = j; monitors = ms.count; epoch = suc B.epoch; body = body.Ack } })) best)
              of (again n z there from_f calling cand h at rest) = subst (λ (p : Message). IsCall p.body) (whole z h) calling
              of (fires kind end on over k at rest) = (let clash : input.Timer kind ≡ input.Deliver A.message = sym k ∙ A.is in cc)
              of (asks session r k at rest) = (let clash : input.Client session r ≡ input.Deliver A.message = sym k ∙ A.is in cc)

          -- one that comes counts
          counted : (j : ℕ) → has q j ≡ true → (j ≡ b → ⊥) → (m : Message) → H.came ≡ input.Deliver m → m ≡ record { from = j; monitors = ms.count; epoch = suc B.epoch; body = body.Ack } → has H.course.state.elector.acked j ≡ true
          counted j qj nj m is m_is =
              let Y = stands best in
              let here : H.came ≡ input.Deliver (record { from = j; monitors = ms.count; epoch = epoch_of w; body = body.Ack }) = is ∙ ap input.Deliver m_is ∙ ap (λ (n : ℕ). input.Deliver (record { from = j; monitors = ms.count; epoch = n; body = body.Ack })) (sym Z.epoch) in
              let R : Then (Stays true (with_rank s.elector.acked j) s.elector.deferred s.timers) (Ok H.course) = subst (Then (Stays true (with_rank s.elector.acked j) s.elector.deferred s.timers)) H.reacts
              (subst (λ (x : Input). Then (Stays true (with_rank s.elector.acked j) s.elector.deferred s.timers) (react me sh now w s x)) (sym here)
              (ack_taken ms i lt now sh w s odd_here ranks part.only second H.came part.elects j (λ same. nj (same ∙ best)) (few j (record { from = j; monitors = ms.count; epoch = epoch_of w; body = body.Ack }) here refl) Y.candidate)) in
              let P : Stays true (with_rank s.elector.acked j) s.elector.deferred s.timers H.course = R.holds in
              let size = Y.ranks in
              let below = C.members j qj in
              let most = ms.most in
              ap (λ (z : List Bool). has z j) P.acked ∙ get_or-set_same s.elector.acked j true false (omega arith)

        -- ---- the turn

        module _ (part_then : TakesPart q pace E i H.course.state) (stands_then : i ≡ b → Stands q pace E H.course.state) (said : AllByRecursion (S (epoch_of (readings_of (next.world.store i)))) es)
            (kept_acks : i ≡ b → (j : ℕ) → has s.elector.acked j ≡ true → has H.course.state.elector.acked j ≡ true)
            (added : i ≡ b → (j : ℕ) → has H.course.state.elector.acked j ≡ true → (has s.elector.acked j ≡ true) ⊎ Came ms.count H.came j (suc B.epoch) body.Ack)
            (missed : (i ≡ b → ⊥) → Missed ms q pace B t i → Missed ms q pace B next i ⊎ HeardIn ms q pace B c next i)
            (deferring : (i ≡ b → ⊥) → (s.elector.candidate ≡ false) × (s.elector.deferred ≡ Some b) → (H.course.state.elector.candidate ≡ false) × (H.course.state.elector.deferred ≡ Some b)) where
          own : (n : ℕ) (m : Envelope) → slice_get es n ≡ Some m → m.message.from ≡ i
          own n m there = let Y : S (epoch_of (readings_of (next.world.store i))) m = at_place (S (epoch_of (readings_of (next.world.store i)))) es n m said there in Y.from

          defers_of : (j : ℕ) → Heard ms pace E q t j → (v : State) → t.world.state j ≡ Some v → (v.elector.candidate ≡ false) × (v.elector.deferred ≡ Some b)
          defers_of j R v up =
              let o = opened (Defers q pace E t.time j) (t.world.state j) R.defers in
              elim (subst (Defers q pace E t.time j) (one_state (t.world.state j) o.0 v o.1 up) o.2) [ inl d ↦ d | inr l ↦ absurd (let z = l.0 in let m = M.later in omega arith) ]

          at_best : i ≡ b → (j : ℕ) → has q j ≡ true → (j ≡ b → ⊥) → Missed ms q pace B t j ⊎ HeardIn ms q pace B c t j → Missed ms q pace B next j ⊎ HeardIn ms q pace B c next j
          at_best best j qj nj (inl N) = inl (missed_on ms q pace short B C enough c t X u M next e H j qj (λ n m there from_j to _. nj (sym from_j ∙ own n m there ∙ best)) (λ _ inside. none (has H.course.state.elector.acked j) refl) N)
            where
              none : (z : Bool) → has H.course.state.elector.acked j ≡ z → z ≡ false
              none false h = refl
              none true h = elim (added best j h) [
                | inl old ↦ absurd (false≢true (sym (before best j false (N.unacked (subst (IsIn ms q pace B t) best Z.epoch))) ∙ old))
                | inr comes ↦ absurd (silent_stays best j N comes)
              ]
          at_best best j qj nj (inr k) = inr (
            subst (IsIn ms q pace B next) best in_next,
            subst (λ (m : _). epoch_of (readings_of m) ≡ suc B.epoch) (sym (H.did.stores j ne)) k.1,
            record {
              defers = others_same ms q pace short B C enough c t X u M next e H (Defers q pace E next.time j) j ne
                  (let o = opened (Defers q pace E t.time j) (t.world.state j) R.defers in closed (Defers q pace E next.time j) (t.world.state j) o.0 o.1 (inl (defers_of j R o.0 o.1)));
              acks = elim R.acks [
                | inl h ↦ inl (acked (kept_acks best j (before best j true h)))
                | inr h ↦ elim (came_or_left ms q pace t u next e H.left H.went i H.came H.state H.course H.how H.did (E.by + pace.again + pace.delay) (Ack t j) j b (sym best) h) [
                  | inr rest ↦ inr (acks_on ms q pace short B C enough c t X u M next e H (E.by + pace.again + pace.delay) j rest)
                  | inl y ↦ inl (acked (counted best j qj nj y.1 y.5 (let two : Some (record { to = i; message = y.1 }) ≡ Some (in_election ms E j b body.Ack) = sym y.4 ∙ y.2 in ap (message_in y.1) two)))
                ]
              ];
            },
          )
            where
              R : Heard ms pace E q t j
              R = k.2

              ne : j ≡ i → ⊥
              ne same = nj (same ∙ best)

              acked : has H.course.state.elector.acked j ≡ true → IsSomeAnd (next.world.state b) (λ v. has v.elector.acked j ≡ true)
              acked h = closed (λ (v : State). has v.elector.acked j ≡ true) (next.world.state b) H.course.state (subst (λ (z : ℕ). next.world.state z ≡ Some H.course.state) best H.did.up) h

          elsewhere : (i ≡ b → ⊥) → (j : ℕ) → has q j ≡ true → (j ≡ b → ⊥) → Missed ms q pace B t j ⊎ HeardIn ms q pace B c t j → Missed ms q pace B next j ⊎ HeardIn ms q pace B c next j
          elsewhere nb j qj nj k = elim (cases_eq j i) [
            | inr ne ↦ elim k [
              | inl N ↦ inl (missed_on ms q pace short B C enough c t X u M next e H j qj (λ n m there from_j to _. ne (sym from_j ∙ own n m there)) (λ is. absurd (nb is)) N)
              | inr h ↦ inr (heard_on ms q pace short B C enough near c t X u M next e H j ne (λ is. nb (sym is)) c h)
            ]
            | inl same ↦ subst (λ (z : ℕ). Missed ms q pace B next z ⊎ HeardIn ms q pace B c next z) (sym same) (mine (subst (λ (z : ℕ). Missed ms q pace B t z ⊎ HeardIn ms q pace B c t z) same k))
          ]
            where
              mine : Missed ms q pace B t i ⊎ HeardIn ms q pace B c t i → Missed ms q pace B next i ⊎ HeardIn ms q pace B c next i
              mine (inl N) = missed nb N
              mine (inr h) = inr (
                subst (λ (m : _). epoch_of (readings_of m) ≡ suc B.epoch) (sym (H.did.stores b (λ is. nb (sym is)))) h.0,
                in_next,
                (let R : Heard ms pace E q t i = h.2 in record {
                  defers = closed (Defers q pace E next.time i) (next.world.state i) H.course.state H.did.up (inl (deferring nb (defers_of i R s H.up)));
                  acks = elim R.acks [
                    | inl z ↦ inl (others_same ms q pace short B C enough c t X u M next e H (λ v. has v.elector.acked i ≡ true) b (λ is. nb (sym is)) z)
                    | inr z ↦ inr (acks_on ms q pace short B C enough c t X u M next e H (E.by + pace.again + pace.delay) i (subst (ArrivesBy (E.by + pace.again + pace.delay) (Ack t i)) (sym (left_same ms q pace t u next e H.left H.went i H.came H.state H.course H.how H.did i b (λ is. nb (sym is)))) z))
                  ];
                }),
              )

          turn : T
          turn = record {
            begun = begun_on ms q pace short B C enough near c t X u M next e H c X.begun;
            standing = joined stock_kept (closed (λ (z : State). TakesPart q pace E i z × (i ≡ b → Stands q pace E z)) (next.world.state i) H.course.state H.did.up (part_then, stands_then));
            former = λ none. absurd (let clash : Some (a, from) ≡ None = none in cc);
            called = λ j qj ne k. called_on ms q pace short B C enough near c t X u M next e H j ne c k;
            since = λ at le k. k;
            takes = λ j ne k. takes_on ms q pace short B C enough near c t X u M next e H j ne c k;
            inside = λ _. in_next;
            said = said;
            calls = λ _. inl Z.epoch;
            told = λ j qj nj. elim (cases_eq i b) [ inl best ↦ at_best best j qj nj (X.told j qj nj) | inr nb ↦ elsewhere nb j qj nj (X.told j qj nj) ];
          }

        -- what it remembers
        remains : (candidate : Bool) (acked : List Bool) (deferred : Option ℕ) (ts : Timers) → Stays candidate acked deferred ts H.course → length ts ≡ 11 → ((kind : Timer) (end : ℕ) → end_of kind ts ≡ Some end → kind ≡ timer.Election)
            → IsSomeAnd (end_of timer.Election ts) (λ end. from + pace.clock i + 5000 ≤ end) → ((j : ℕ) → has acked j ≡ true → has q j ≡ true) → ((j : ℕ) → deferred ≡ Some j → has q j ≡ true) → TakesPart q pace E i H.course.state
        remains candidate acked deferred ts P size only_one after acks whom = record {
          elects = P.phase;
          kinds = ap length P.timers ∙ size;
          only = λ kind end on. only_one kind end (sym (ap (end_of kind) P.timers) ∙ on);
          ends = subst (λ (z : Timers). IsSomeAnd (end_of timer.Election z) (λ end. from + pace.clock i + 5000 ≤ end)) (sym P.timers) after;
          acks = λ j h. acks j (sym (ap (λ (z : List Bool). has z j) P.acked) ∙ h);
          defers = λ j h. whom j (sym P.deferred ∙ h);
        }

        still_stands : i ≡ b → (acked : List Bool) (deferred : Option ℕ) → Stays true acked deferred s.timers H.course → length acked ≡ 15 → has acked b ≡ true → Stands q pace E H.course.state
        still_stands best acked deferred P size own = let Y = stands best in record {
          candidate = P.candidate;
          ranks = ap length P.acked ∙ size;
          own = ap (λ (z : List Bool). has z b) P.acked ∙ own;
          ends = subst (λ (z : Timers). IsSomeAnd (end_of timer.Election z) (λ end. end ≤ E.by + pace.clock b + 5000)) (sym P.timers) Y.ends;
        }

      -- ---- each outcome

      not_deferring : {A : Type 0} (f : ℕ) (table : _) → i ≡ b → has q f ≡ true → (is_allowed me f && stands_before me table f i) ≡ true → A
      not_deferring f table best qf better = elim (cases_eq f b) [
        | inl same ↦ absurd (not_itself ms table b (subst (λ (z : ℕ). (is_allowed me z && stands_before me table z b) ≡ true) same (subst (λ (z : ℕ). (is_allowed me f && stands_before me table f z) ≡ true) best better)))
        | inr ne ↦ absurd (nobody_better ms q b C f qf ne table (subst (λ (z : ℕ). (is_allowed me f && stands_before me table f z) ≡ true) best better))
      ]

      mute_missed : AllByRecursion Mute es → (i ≡ b → ⊥) → Missed ms q pace B t i → Missed ms q pace B next i
      mute_missed mute nb N = missed_on ms q pace short B C enough c t X u M next e H i H.member (λ n m there from_i to. at_place Mute es n m mute there to) (λ is. absurd (nb is)) N

      low_here : epoch_of w ≤ suc B.epoch
      low_here = let z = Z.epoch in omega arith

      pub in_turn : T
      in_turn = of outcome
        where
          of : Outcome ms i lt now sh w s H.came H.course → T
          of (calls_again is no_win P out) = not_due is
          of (wins is candidate most P) = not_due is
          of (rests P quiet _) = turn P.changes (remains P.changes s.elector.candidate s.elector.acked s.elector.deferred s.timers P part.kinds part.only part.ends part.acks part.defers)
              (λ best. (let Y = stands best in still_stands P.changes best s.elector.acked s.elector.deferred (subst (λ (z : Bool). Stays z s.elector.acked s.elector.deferred s.timers H.course) Y.candidate P) Y.ranks Y.own))
              (quiet_said ms q pace short B C enough near c t X u M next e H (epoch_of (readings_of (next.world.store i))) H.course.out (ap (λ (z : Readings). z.first) Z.same) (ap (λ (z : Readings). z.last) Z.same) low_here quiet)
              (λ best j h. ap (λ (z : List Bool). has z j) P.acked ∙ h) (λ best j h. inl (sym (ap (λ (z : List Bool). has z j) P.acked) ∙ h))
              (λ nb N. inl (mute_missed (quiet_mute ms q pace short B C enough near c t X u M next e H H.course.out quiet) nb N)) (λ nb d. (P.candidate ∙ d.0, P.deferred ∙ d.1))
          of (counts f A candidate P out) = turn P.changes (remains P.changes true (with_rank s.elector.acked f) s.elector.deferred s.timers P part.kinds part.only part.ends acks part.defers)
              (λ best. (let Y = stands best in still_stands P.changes best (with_rank s.elector.acked f) s.elector.deferred P (length-set s.elector.acked f true ∙ Y.ranks) (has_with s.elector.acked f b Y.own)))
              (subst (λ (z : List Sent). AllByRecursion (S (epoch_of (readings_of (next.world.store i)))) (messages_of z)) (sym out) tt)
              (λ best j h. ap (λ (z : List Bool). has z j) P.acked ∙ has_with s.elector.acked f j h)
              (λ best j h. elim (has_with_is s.elector.acked f j (sym (ap (λ (z : List Bool). has z j) P.acked) ∙ h)) [
                | inl is_f ↦ inr (record { message = A.message; is = A.is; from = A.from ∙ sym is_f; monitors = A.monitors; epoch = A.epoch ∙ Z.epoch; says = A.says })
                | inr old ↦ inl old
              ])
              (λ nb N. inl (mute_missed (subst (λ (z : List Sent). AllByRecursion Mute (messages_of z)) (sym out) tt) nb N)) (λ nb d. absurd (false≢true (sym d.0 ∙ candidate)))
            where
              acks : (j : ℕ) → has (with_rank s.elector.acked f) j ≡ true → has q j ≡ true
              acks j h = elim (has_with_is s.elector.acked f j h) [
                | inl is_f ↦ (let N = know A.message A.is in subst (λ (z : ℕ). has q z ≡ true) (A.from ∙ sym is_f) N.member)
                | inr old ↦ part.acks j old
              ]
          of (calls idle free P out) = turn P.changes
              (remains P.changes true (only i) None (armed now timer.Election s.timers) P (armed_size now timer.Election s.timers part.kinds) only_one after (λ j h. subst (λ (z : ℕ). has q z ≡ true) (sym (has_only_is i j h)) H.member) (λ j h. absurd (let clash : None ≡ Some j = h in cc)))
              (λ best. idle_not best)
              (subst (λ (z : List Sent). AllByRecursion (S (epoch_of (readings_of (next.world.store i)))) (messages_of z)) (sym out_is) (calls_said ms q pace short B C enough near c t X u M next e H (epoch_of (readings_of (next.world.store i))) (in_next P.changes) (others me)))
              (λ best. idle_not best) (λ best. idle_not best)
              (λ nb N. inl (mute_missed (subst (λ (z : List Sent). AllByRecursion Mute (messages_of z)) (sym out_is) (calls_mute ms q pace short B C enough near c t X u M next e H (others me))) nb N))
              (λ nb d. absurd (let clash : None ≡ Some b = sym free ∙ d.1 in cc))
            where
              idle_not : {A : Type 0} → i ≡ b → A
              idle_not best = let Y = stands best in absurd (false≢true (sym idle ∙ Y.candidate))

              out_is : H.course.out ≡ map (message_to me (suc B.epoch) (body.Propose None)) (others me)
              out_is = out ∙ ap (λ (n : ℕ). map (message_to me n (body.Propose None)) (others me)) Z.epoch

              only_one : (kind : Timer) (end : ℕ) → end_of kind (armed now timer.Election s.timers) ≡ Some end → kind ≡ timer.Election
              only_one kind end on = elim (same_kind_or kind timer.Election) [
                | inl same ↦ same
                | inr ne ↦ part.only kind end (sym (still_ends now kind timer.Election s.timers ne) ∙ on)
              ]

              after : IsSomeAnd (end_of timer.Election (armed now timer.Election s.timers)) (λ end. from + pace.clock i + 5000 ≤ end)
              after = closed (λ (end : ℕ). from + pace.clock i + 5000 ≤ end) (end_of timer.Election (armed now timer.Election s.timers)) (now + 5000) (ends now timer.Election s.timers part.kinds (omega arith)) (let z = begun in omega arith)
          of (defers f tb table A better may P out) = turn P.changes
              (remains P.changes false no_ranks (Some f) s.timers P part.kinds part.only part.ends (λ j h. absurd (false≢true (sym (nobody j) ∙ h))) (λ j h. subst (λ (z : ℕ). has q z ≡ true) (let two : Some f ≡ Some j = h in cc) qf))
              (λ best. not_deferring f table best qf better)
              (subst (λ (z : List Sent). AllByRecursion (S (epoch_of (readings_of (next.world.store i)))) (messages_of z)) (sym out) (record { from = refl; epoch = low_here; call_is = λ k. absurd k; near = λ j qj. tt; leaves = tt }, tt))
              (λ best. not_deferring f table best qf better) (λ best. not_deferring f table best qf better) missed (λ nb d. deferring nb d)
            where
              N : Known ms q pace B C c t X u next e H A.message
              N = know A.message A.is

              qf : has q f ≡ true
              qf = subst (λ (z : ℕ). has q z ≡ true) A.from N.member

              f_in : IsIn ms q pace B t f
              f_in = subst (IsIn ms q pace B t) A.from (N.calls (subst IsCall (sym A.says) tt)).1

              sent_is : es ≡ one (record { to = f; message = record { from = i; monitors = ms.count; epoch = epoch_of w; body = body.Ack } })
              sent_is = ap messages_of out

              deferring : (i ≡ b → ⊥) → (s.elector.candidate ≡ false) × (s.elector.deferred ≡ Some b) → (H.course.state.elector.candidate ≡ false) × (H.course.state.elector.deferred ≡ Some b)
              deferring nb d = elim (cases_eq f b) [
                | inl same ↦ (P.candidate, P.deferred ∙ ap Some same)
                | inr ne ↦ absurd (nobody_better ms q b C f qf ne table (both (ne_eqb f b ne) (subst (λ (o : Option ℕ). may_defer me table f o ≡ true) d.1 may) (and_parts (is_allowed me f) (stands_before me table f i) better).0))
              ]
                where
                  both : eqb f b ≡ false → (eqb f b || stands_before me table f b) ≡ true → is_allowed me f ≡ true → (is_allowed me f && stands_before me table f b) ≡ true
                  both isnt either allowed = and_from (is_allowed me f) (stands_before me table f b) allowed (sym (ap (λ (z : Bool). z || stands_before me table f b) isnt) ∙ either)

              missed : (i ≡ b → ⊥) → Missed ms q pace B t i → Missed ms q pace B next i ⊎ HeardIn ms q pace B c next i
              missed nb L = elim (cases_eq f b) [
                | inr ne ↦ inl (mute_missed (subst (AllByRecursion Mute) (sym sent_is) ((λ is _. ne is), tt)) nb L)
                | inl same ↦ inr (
                  subst (λ (m : _). epoch_of (readings_of m) ≡ suc B.epoch) (sym (H.did.stores b (λ is. nb (sym is)))) (subst (IsIn ms q pace B t) same f_in),
                  in_next P.changes,
                  record {
                    defers = closed (Defers q pace E next.time i) (next.world.state i) H.course.state H.did.up (inl (P.candidate, P.deferred ∙ ap Some same));
                    acks = inr (ack_goes same);
                  },
                )
              ]
                where
                  ack_goes : f ≡ b → ArrivesBy (E.by + pace.again + pace.delay) (Ack next i) (next.under_way i b)
                  ack_goes same = subst (ArrivesBy (E.by + pace.again + pace.delay) (Ack next i)) (sym (under ms q pace short B C enough c t X u M next e H i b ∙ ap (λ (ns : List ℕ). H.left i b ++ owed_by due ns) sends))
                      (arrives_last (E.by + pace.again + pace.delay) (Ack next i) (H.left i b) (record { number = suc count; by = due })
                      (all_left ms q pace short B C enough c t X u M next e H (λ o. o.by ≤ (E.by + pace.again + pace.delay)) i b
                      (all_map (Goes ms q pace B t.world i b (t.time + pace.delay)) (λ o. o.by ≤ (E.by + pace.again + pace.delay)) (λ o G. (let l = G.in_time in let m = M.later in let k = soon in omega arith)) (t.under_way i b) (X.under_way i b H.member C.member)))
                      (let k = soon in omega arith) ack)
                    where
                      sent : es ≡ (in_election ms E i b body.Ack) ∷ []
                      sent = sent_is ∙ ap (λ (z : ℕ). one (record { to = z; message = record { from = i; monitors = ms.count; epoch = epoch_of w; body = body.Ack } })) same ∙ ap (λ (z : ℕ). one (record { to = b; message = record { from = i; monitors = ms.count; epoch = z; body = body.Ack } })) Z.epoch

                      sends : numbers i b (suc count) es ≡ suc count ∷ []
                      sends = ap (numbers i b (suc count)) sent ∙ (let x = eq-eqb i i refl in let z = eq-eqb b b refl in rw (x, z) refl)

                      ack : message_at next.world.messages (suc count) ≡ Some (in_election ms E i b body.Ack)
                      ack = let zeroth : suc count + 0 ≡ suc count = omega arith in subst (λ (z : ℕ). message_at next.world.messages z ≡ Some (in_election ms E i b body.Ack)) zeroth
                          (new_at ms q pace t u next e H.left H.went i H.came H.state H.course H.how H.did 0 (in_election ms E i b body.Ack) (ap (λ (z : List Envelope). slice_get z 0) sent))
