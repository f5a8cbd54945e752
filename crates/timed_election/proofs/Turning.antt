-- What one event leaves of an election that goes on.
use Rattle.law_names.proofs.Runs.{Arrives, Deliver, Envelope, Event, Monitors, message_at, messages_of}
use Rattle.law_names.proofs.Table.{AllByRecursion, Change, Course, Fits, Input, Message, State, Store, epoch_of, has, no_ranks, played, react, readings_of, shared_entries}
use Rattle.log_model.proofs.Lists.{all_both, all_map}
use Rattle.mon_msg.specs.declared.input.Input.TheVariants as input
use Rattle.mon_wire.specs.declared.body.Body.TheVariants as body
use Rattle.quorum_model.proofs.Members.{member_of}
use Rattle.quorum_stays.proofs.Onward.{here_left, one_state, other_left}
use Rattle.quorum_stays.proofs.Stepping.{Did}
use Rattle.quorum_stays.proofs.UnderWay.{numbers}
use Rattle.quorum_timed.specs.Begins.{IsQuick}
use Rattle.quorum_timed.specs.Calls.{IsCall, IsCandidate, IsDelivery, IsNewCall}
use Rattle.quorum_timed.specs.Timed.{MayBe, Owed, Pace, Timed, Went, at_time, owed_by, without_first}
use Rattle.std.proofs.Common.{Bool, IsSomeAnd, List, None, Ok, Some, [], ap, arith, false, inl, inr, length, ltb, refl, slice_get, subst, suc, sym, true, ℕ, ◌++◌, ◌+◌, ◌^◌, ◌∙◌, ◌∷◌, ◌≡◌, ◌≤◌, ◌⊎◌}
use Rattle.std.proofs.lemmas.Bool.{cases_eq, eq-eqb, false≢true}
use Rattle.timed_election.proofs.Coming.{How, again, asks, fires, first, left_all, left_same, new_at, next_all, no_delivery, on_state, same_there, still, time_is, under_now}
use Rattle.timed_election.proofs.Events.{Turn, ack_counts, call_answered, call_is}
use Rattle.timed_election.proofs.Lists.{arrives_last, arrives_more, at_place, closed, is_call, is_old, letter_is, message_in, old_or_new, one, opened}
use Rattle.timed_election.proofs.Outcomes.{Heard as Came, Stays, says}
use Rattle.timed_election.proofs.Times.{unheard_by}
use Rattle.timed_election.specs.Election.{ArrivesBy, CanElect, Defers, Election, Elects, Heard, IsAck, IsOfElection, Stands, TakesPart, Unheard, in_election}

module _ (ms : Monitors) (q : List Bool) (pace : Pace) (quick : IsQuick pace) (E : Election) (t : Timed) (X : Elects ms q pace E t) (u : ℕ) (M : MayBe ms q pace t u)
    (next : Timed) (e : Event) (left : ℕ → ℕ → List Owed) (went : Went ms q pace (at_time ms q pace u t) e left next)
    (i : ℕ) (qi : has q i ≡ true) (lt : ltb i ms.count ≡ true) (came : Input) (s : State) (up : t.world.state i ≡ Some s) (how : How ms q pace t u i came e left s)
    (y : Course) (reacts_so : react (member_of ms i lt) (shared_entries (t.world.store i)) (u + pace.clock i) (readings_of (t.world.store i)) s came ≡ Ok y) (room : u + pace.clock i + 10000 ≤ 2 ^ 62)
    (D : Did t.world next.world i y.state y.changes (messages_of y.out)) where
  abbrev b : ℕ
  b = E.best

  abbrev C : CanElect ms q b
  C = X.can

  abbrev es : List Envelope
  es = messages_of y.out

  abbrev count : ℕ
  count = length t.world.messages

  abbrev due : ℕ
  due = u + pace.delay

  -- ---- what comes

  -- what comes is a message that was sent to it
  pub record Comes_by (m : Message) : Type 0 where
    pub number : ℕ
    pub there : message_at t.world.messages number ≡ Some (record { to = i; message = m })
    pub delivers : (k : ℕ) → IsDelivery k e → number ≡ k
    pub epoch : m.from ≡ b → IsCall m.body → m.epoch ≡ E.epoch

  comes_by : (m : Message) → came ≡ input.Deliver m → Comes_by m
  comes_by m is = by how
    where
      of : (o n : ℕ) (z : Message) → z ≡ m → message_at t.world.messages n ≡ Some (record { to = i; message = z }) → e ≡ Arrives (Deliver n o) → (z.from ≡ b → IsCall z.body → z.epoch ≡ E.epoch) → Comes_by m
      of o n z same there at epoch = record {
        number = n;
        there = subst (λ (p : Message). message_at t.world.messages n ≡ Some (record { to = i; message = p })) same there;
        delivers = λ k d. subst (IsDelivery k) at d;
        epoch = subst (λ (p : Message). p.from ≡ b → IsCall p.body → p.epoch ≡ E.epoch) same epoch;
      }

      by : How ms q pace t u i came e left s → Comes_by m
      by (first f qf o others z list there from k at rest) =
          let all = subst (AllByRecursion (IsOfElection E t.world.messages f i (t.time + pace.delay))) list (X.under_way f i qf qi) in
          let O : IsOfElection E t.world.messages f i (t.time + pace.delay) o = all.0 in
          let whole : O.envelope ≡ record { to = i; message = z } = (let two : Some O.envelope ≡ Some (record { to = i; message = z }) = sym O.there ∙ there in cc) in
          let same : z ≡ m = cc in
          of (u + pace.clock i) o.number z same there at (λ fb call. sym (ap (λ (p : Envelope). p.message.epoch) whole) ∙ O.calls (sym from ∙ fb) (subst (λ (p : Envelope). IsCall p.message.body) (sym whole) call))
      by (again k z there from call cand h at rest) = let same : z ≡ m = cc in of (u + pace.clock i) k z same there at (λ _ _. let c : IsCandidate t.world z.from z.epoch = cand in sym c.epoch_is ∙ X.epoch z.from from)
      by (fires kind end on over k at rest) = absurd cc
      by (asks session r k at rest) = absurd cc

  abbrev the_call : Input
  the_call = input.Deliver (record { from = b; monitors = ms.count; epoch = E.epoch; body = body.Propose None })

  called_or_not : (came ≡ the_call) ⊎ (came ≡ the_call → ⊥)
  called_or_not = by came refl
    where
      by : (c : Input) → came ≡ c → (came ≡ the_call) ⊎ (came ≡ the_call → ⊥)
      by input.Start is = inr (λ k. cc)
      by (input.Timer kind) is = inr (λ k. cc)
      by (input.Client session r) is = inr (λ k. cc)
      by (input.Deliver m) is = elim (cases_eq m.from b) [
        | inr ne ↦ inr (λ k. ne (let same : m ≡ record { from = b; monitors = ms.count; epoch = E.epoch; body = body.Propose None } = cc in ap (λ (p : Message). p.from) same))
        | inl from ↦ elim (is_call m.body) [
          | inr isnt ↦ inr (λ k. isnt (let same : m ≡ record { from = b; monitors = ms.count; epoch = E.epoch; body = body.Propose None } = cc in subst (λ (p : Message). IsCall p.body) (sym same) tt))
          | inl call ↦ inl (let c = comes_by m is in call_is ms q pace quick E t X u M i qi lt came e left s up how (shared_entries (t.world.store i)) y reacts_so room m is call from (c.epoch from call))
        ]
      ]

  -- ---- it goes on

  module _ (unchanged : y.changes ≡ []) (T : Turn ms q pace quick E t X u M i came s y.state y.out) where
    kept : readings_of (next.world.store i) ≡ readings_of (t.world.store i)
    kept = (subst (λ (cs : List Change). AllByRecursion Fits cs → readings_of (next.world.store i) ≡ played cs (readings_of (t.world.store i))) unchanged D.kept) tt

    epoch_next : (j : ℕ) → has q j ≡ true → epoch_of (readings_of (next.world.store j)) ≡ E.epoch
    epoch_next j qj = elim (cases_eq j i) [
      | inl same ↦ subst (λ (z : ℕ). epoch_of (readings_of (next.world.store z)) ≡ E.epoch) (sym same) (ap epoch_of kept ∙ X.epoch i qi)
      | inr ne ↦ subst (λ (m : Store). epoch_of (readings_of m) ≡ E.epoch) (sym (D.stores j ne)) (X.epoch j qj)
    ]

    own : (d : ℕ) (m : Envelope) → slice_get es d ≡ Some m → (m.message.from ≡ i) × (m.message.epoch ≡ E.epoch)
    own d m there = at_place (λ (m : Envelope). (m.message.from ≡ i) × (m.message.epoch ≡ E.epoch)) es d m T.own there

    under_way_next : (f j : ℕ) → has q f ≡ true → has q j ≡ true → AllByRecursion (IsOfElection E next.world.messages f j (next.time + pace.delay)) (next.under_way f j)
    under_way_next f j qf qj = next_all ms q pace t u next e left went i came s y how D (IsOfElection E next.world.messages f j (next.time + pace.delay)) f j
        (left_all ms q pace t u next e left went i came s y how D (IsOfElection E next.world.messages f j (next.time + pace.delay)) f j
        (all_map (IsOfElection E t.world.messages f j (t.time + pace.delay)) (IsOfElection E next.world.messages f j (next.time + pace.delay)) grows (t.under_way f j) (X.under_way f j qf qj)))
        (λ d m there from to at. record {
          envelope = m;
          there = at;
          sender = from;
          receiver = to;
          epoch = (let z = (own d m there).1 in omega arith);
          calls = λ _ _. (own d m there).1;
          in_time = (let z = time_is ms q pace t u next e left went i came s y how D in omega arith);
        })
      where
        grows : (o : Owed) → IsOfElection E t.world.messages f j (t.time + pace.delay) o → IsOfElection E next.world.messages f j (next.time + pace.delay) o
        grows o O = record {
          envelope = O.envelope;
          there = still ms q pace t u next e left went i came s y how D o.number O.envelope O.there;
          sender = O.sender;
          receiver = O.receiver;
          epoch = O.epoch;
          calls = O.calls;
          in_time = (let a = O.in_time in let z = time_is ms q pace t u next e left went i came s y how D in let l = M.later in omega arith);
        }

    alike_next : (j k : ℕ) (m : Envelope) → message_at next.world.messages k ≡ Some m → IsCall m.message.body → m.message.from ≡ b → m.to ≡ j → m.message.epoch ≡ E.epoch → m ≡ in_election ms E b j (body.Propose None)
    alike_next j k m there call from to epoch = elim (old_or_new t.world.messages es k m (sym (ap (λ (z : List Envelope). message_at z k) D.messages) ∙ there)) [
      | inl old ↦ X.alike j k m old call from to epoch
      | inr new ↦ absurd (at_place (λ (m : Envelope). IsCall m.message.body → ⊥) es new.0 m (T.quiet (sym (own new.0 m new.1).0 ∙ from)) new.1 call)
    ]

    -- ---- calls

    no_new_call : (j : ℕ) → (i ≡ j → came ≡ the_call → ⊥) → IsNewCall t.world next.world e b j → ⊥
    no_new_call j isnt N = elim (old_or_new t.world.messages es N.number N.envelope (sym (ap (λ (z : List Envelope). message_at z N.number) D.messages) ∙ N.there)) [
      | inr new ↦ at_place (λ (m : Envelope). IsCall m.message.body → ⊥) es new.0 N.envelope (T.quiet (sym (own new.0 N.envelope new.1).0 ∙ N.sender)) new.1 N.call
      | inl old ↦ elim N.comes [
        | inl beyond ↦ (let l = is_old t.world.messages N.number N.envelope old in omega arith)
        | inr delivers ↦ by came refl old delivers
      ]
    ]
      where
        by : (c : Input) → came ≡ c → message_at t.world.messages N.number ≡ Some N.envelope → IsDelivery N.number e → ⊥
        by input.Start is old delivers = no_delivery ms q pace t u next e left went i came s y how D N.number (λ m k. cc) delivers
        by (input.Timer kind) is old delivers = no_delivery ms q pace t u next e left went i came s y how D N.number (λ m k. cc) delivers
        by (input.Client session r) is old delivers = no_delivery ms q pace t u next e left went i came s y how D N.number (λ m k. cc) delivers
        by (input.Deliver m) is old delivers =
            let c = comes_by m is in
            let whole : N.envelope ≡ record { to = i; message = m } = (let two : Some N.envelope ≡ Some (record { to = i; message = m }) =
            sym old ∙ ap (message_at t.world.messages) (sym (c.delivers N.number delivers)) ∙ c.there in cc) in
            let from : m.from ≡ b = sym (ap (λ (p : Envelope). p.message.from) whole) ∙ N.sender in
            let call : IsCall m.body = subst (λ (p : Envelope). IsCall p.message.body) whole N.call in
            isnt (sym (ap (λ (p : Envelope). p.to) whole) ∙ N.receiver)
            (call_is ms q pace quick E t X u M i qi lt came e left s up how (shared_entries (t.world.store i)) y reacts_so room m is call from (c.epoch from call))

    same_call : (j : ℕ) → (i ≡ j → came ≡ the_call → ⊥) → next.call_by b j ≡ t.call_by b j
    same_call j isnt = elim (went.calls b j) [ inl same ↦ same | inr k ↦ absurd (no_new_call j isnt k.1) ]

    -- ---- those that haven't heard the call

    unheard_next : (j : ℕ) → has q j ≡ true → (i ≡ j → came ≡ the_call → ⊥) → IsSomeAnd (next.world.state b) (λ z. has z.elector.acked j ≡ false)
        → ((d : ℕ) (m : Envelope) → slice_get es d ≡ Some m → m.message.from ≡ j → m.to ≡ b → m.message.body ≡ body.Ack → ⊥) → Unheard ms pace E q t j → Unheard ms pace E q next j
    unheard_next j qj isnt unacked quiet U = record {
      comes = (let k = U.comes in let c = same_call j isnt in omega arith);
      unacked = unacked;
      silent = next_all ms q pace t u next e left went i came s y how D (λ o. IsAck ms pace E q next j o → ⊥) j b
          (left_all ms q pace t u next e left went i came s y how D (λ o. IsAck ms pace E q next j o → ⊥) j b
          (all_map (λ o. IsOfElection E t.world.messages j b (t.time + pace.delay) o × (IsAck ms pace E q t j o → ⊥)) (λ o. IsAck ms pace E q next j o → ⊥)
          (λ o k new. k.1 (let O : IsOfElection E t.world.messages j b (t.time + pace.delay) o = k.0 in O.there ∙ ap Some (same_there ms q pace t u next e left went i came s y how D o.number O.envelope (in_election ms E j b body.Ack) O.there new)))
          (t.under_way j b) (all_both (IsOfElection E t.world.messages j b (t.time + pace.delay)) (λ o. IsAck ms pace E q t j o → ⊥) (t.under_way j b) (X.under_way j b qj C.member) U.silent)))
          (λ d m there from to at new. quiet d m there from to (let two : Some m ≡ Some (in_election ms E j b body.Ack) = sym at ∙ new in let same : m ≡ in_election ms E j b body.Ack = cc in ap (λ (p : Envelope). p.message.body) same));
    }

    -- ---- acknowledgements under way

    acks_next : (j : ℕ) → ArrivesBy (E.by + pace.again + pace.delay) (IsAck ms pace E q t j) (left j b) → ArrivesBy (E.by + pace.again + pace.delay) (IsAck ms pace E q next j) (next.under_way j b)
    acks_next j k = subst (ArrivesBy (E.by + pace.again + pace.delay) (IsAck ms pace E q next j)) (sym (under_now ms q pace t u next e left went i came s y how D j b))
        (arrives_more (E.by + pace.again + pace.delay) (IsAck ms pace E q t j) (IsAck ms pace E q next j) (λ o there. still ms q pace t u next e left went i came s y how D o.number (in_election ms E j b body.Ack) there) (left j b) (owed_by due (numbers j b (suc count) es)) k)

    -- ---- at the best member

    module _ (best : i ≡ b) where
      acked_at : (j : ℕ) (z : Bool) → has y.state.elector.acked j ≡ z → IsSomeAnd (next.world.state b) (λ v. has v.elector.acked j ≡ z)
      acked_at j z h = closed (λ (v : State). has v.elector.acked j ≡ z) (next.world.state b) y.state (subst (λ (z : ℕ). next.world.state z ≡ Some y.state) best D.up) h

      before : (j : ℕ) (z : Bool) → IsSomeAnd (t.world.state b) (λ v. has v.elector.acked j ≡ z) → has s.elector.acked j ≡ z
      before j z k =
          let o = opened (λ (v : State). has v.elector.acked j ≡ z) (t.world.state b) k in
          subst (λ (v : State). has v.elector.acked j ≡ z) (one_state (t.world.state b) o.0 s o.1 (subst (λ (z : ℕ). t.world.state z ≡ Some s) best up)) o.2

      -- an acknowledgement of one that is silent doesn't come
      silent_stays : (j : ℕ) → has q j ≡ true → Unheard ms pace E q t j → Came ms.count came j E.epoch body.Ack → ⊥
      silent_stays j qj U H = by how
        where
          whole : (z : Message) → came ≡ input.Deliver z → z ≡ record { from = j; monitors = ms.count; epoch = E.epoch; body = body.Ack }
          whole z is =
              let same : z ≡ H.message = (let two : input.Deliver z ≡ input.Deliver H.message = sym is ∙ H.is in cc) in
              same ∙ letter_is H.message j ms.count E.epoch body.Ack H.from H.monitors H.epoch H.says

          by : How ms q pace t u i came e left s → ⊥
          by (first f qf o others z list there from k at rest) =
              let is = whole z k in
              let sender : f ≡ j = sym from ∙ ap (λ (p : Message). p.from) is in
              let here : t.under_way j b ≡ o ∷ others = subst (λ (p : ℕ). t.under_way j p ≡ o ∷ others) best (subst (λ (p : ℕ). t.under_way p i ≡ o ∷ others) sender list) in
              let all = subst (AllByRecursion (λ o. IsAck ms pace E q t j o → ⊥)) here U.silent in
              all.0 (there ∙ ap (λ (p : Message). Some (record { to = i; message = p })) is ∙ ap (λ (p : ℕ). Some (record { to = p; message = record { from = j; monitors = ms.count; epoch = E.epoch; body = body.Ack } })) best)
          by (again k z there from call cand h at rest) = subst (λ (p : Message). IsCall p.body) (whole z h) call
          by (fires kind end on over k at rest) = (let clash : input.Timer kind ≡ input.Deliver H.message = sym k ∙ H.is in cc)
          by (asks session r k at rest) = (let clash : input.Client session r ≡ input.Deliver H.message = sym k ∙ H.is in cc)

      best_unheard : (j : ℕ) → has q j ≡ true → (j ≡ b → ⊥) → Unheard ms pace E q t j → Unheard ms pace E q next j
      best_unheard j qj nj U = unheard_next j qj (λ same _. nj (sym same ∙ best)) (acked_at j false (by (has y.state.elector.acked j) refl))
          (λ d m there from to _. nj (sym from ∙ (own d m there).0 ∙ best)) U
        where
          by : (z : Bool) → has y.state.elector.acked j ≡ z → z ≡ false
          by false h = refl
          by true h = elim (T.added best j h) [
            | inl old ↦ absurd (false≢true (sym (before j false U.unacked) ∙ old))
            | inr comes ↦ absurd (silent_stays j qj U comes)
          ]

      best_heard : (j : ℕ) → has q j ≡ true → (j ≡ b → ⊥) → Heard ms pace E q t j → Heard ms pace E q next j
      best_heard j qj nj H = record {
        defers = on_state ms q pace t u next e left went i came s y how D (Defers q pace E t.time j) (Defers q pace E next.time j) j (λ same. absurd (nj (same ∙ best))) (λ _ z k. elim k [ inl d ↦ inl d | inr l ↦ inr ((let a = l.0 in let c = time_is ms q pace t u next e left went i came s y how D in let m = M.later in omega arith), l.1) ]) H.defers;
        acks = elim H.acks [
          | inl k ↦ inl (acked_at j true (T.kept best j (before j true k)))
          | inr k ↦ by k how
        ];
      }
        where
          By : ℕ
          By = E.by + pace.again + pace.delay

          by : ArrivesBy (E.by + pace.again + pace.delay) (IsAck ms pace E q t j) (t.under_way j b) → How ms q pace t u i came e left s
              → IsSomeAnd (next.world.state b) (λ v. has v.elector.acked j ≡ true) ⊎ ArrivesBy (E.by + pace.again + pace.delay) (IsAck ms pace E q next j) (next.under_way j b)
          by k (again n m there from call cand h at rest) = inr (acks_next j (subst (λ (z : ℕ → ℕ → List Owed). ArrivesBy (E.by + pace.again + pace.delay) (IsAck ms pace E q t j) (z j b)) (sym rest) k))
          by k (fires kind end on over h at rest) = inr (acks_next j (subst (λ (z : ℕ → ℕ → List Owed). ArrivesBy (E.by + pace.again + pace.delay) (IsAck ms pace E q t j) (z j b)) (sym rest) k))
          by k (asks session r h at rest) = inr (acks_next j (subst (λ (z : ℕ → ℕ → List Owed). ArrivesBy (E.by + pace.again + pace.delay) (IsAck ms pace E q t j) (z j b)) (sym rest) k))
          by k (first f qf o others z list there from h at rest) = elim (cases_eq j f) [
            | inr ne ↦ inr (acks_next j (subst (λ (z : ℕ → ℕ → List Owed). ArrivesBy (E.by + pace.again + pace.delay) (IsAck ms pace E q t j) (z j b)) (sym rest)
                (subst (ArrivesBy (E.by + pace.again + pace.delay) (IsAck ms pace E q t j)) (sym (other_left f i others t.under_way j b (λ a _. ne a))) k)))
            | inl same ↦ (let here : t.under_way j b ≡ o ∷ others = subst (λ (p : ℕ). t.under_way j p ≡ o ∷ others) best (subst (λ (p : ℕ). t.under_way p i ≡ o ∷ others) (sym same) list) in
                let parts = subst (ArrivesBy (E.by + pace.again + pace.delay) (IsAck ms pace E q t j)) here k in
                elim parts.1 [
                  | inr later ↦ inr (acks_next j (subst (ArrivesBy (E.by + pace.again + pace.delay) (IsAck ms pace E q t j))
                      (sym (ap (λ (z : ℕ → ℕ → List Owed). z j b) rest ∙ ap (λ (p : ℕ). without_first f i others t.under_way p b) same ∙ ap (λ (p : ℕ). without_first f i others t.under_way f p) (sym best) ∙ here_left f i others t.under_way)) later))
                  | inl ack ↦ inl (acked_at j true (taken z h there ack))
                ])
          ]
            where
              taken : (z : Message) → came ≡ input.Deliver z → message_at t.world.messages o.number ≡ Some (record { to = i; message = z }) → IsAck ms pace E q t j o → has y.state.elector.acked j ≡ true
              taken z h there ack =
                  let two : Some (record { to = i; message = z }) ≡ Some (in_election ms E j b body.Ack) = sym there ∙ ack in
                  let is : z ≡ record { from = j; monitors = ms.count; epoch = E.epoch; body = body.Ack } = ap (message_in z) two in
                  ack_counts ms q pace quick E t X u M i qi lt came e left s up how (shared_entries (t.world.store i)) y reacts_so room best j qj nj (h ∙ ap input.Deliver is)

    -- ---- at another member

    module _ (other : i ≡ b → ⊥) where
      best_stays : (P : State → Type 0) → IsSomeAnd (t.world.state b) P → IsSomeAnd (next.world.state b) P
      best_stays P k = on_state ms q pace t u next e left went i came s y how D P P b (λ same. absurd (other (sym same))) (λ _ z h. h) k

      left_to_best : (j : ℕ) → left j b ≡ t.under_way j b
      left_to_best j = left_same ms q pace t u next e left went i came s y how D j b (λ same. other (sym same))

      other_unheard : (j : ℕ) → has q j ≡ true → (i ≡ j → came ≡ the_call → ⊥) → Unheard ms pace E q t j → Unheard ms pace E q next j
      other_unheard j qj isnt U = unheard_next j qj isnt (best_stays (λ v. has v.elector.acked j ≡ false) U.unacked)
          (λ d m there from to is. at_place (λ (m : Envelope). m.to ≡ b → m.message.body ≡ body.Ack → ⊥) es d m (T.silent other (isnt (sym (own d m there).0 ∙ from))) there to is) U

      other_heard : (j : ℕ) → Heard ms pace E q t j → Heard ms pace E q next j
      other_heard j H = record {
        defers = on_state ms q pace t u next e left went i came s y how D (Defers q pace E t.time j) (Defers q pace E next.time j) j
            (λ same. subst (λ (z : ℕ). Defers q pace E z j y.state) (sym (time_is ms q pace t u next e left went i came s y how D)) (subst (λ (z : ℕ). Defers q pace E u z y.state) (sym same) (T.defers other (mine same))))
            (λ _ z k. elim k [ inl d ↦ inl d | inr l ↦ inr ((let a = l.0 in let c = time_is ms q pace t u next e left went i came s y how D in let m = M.later in omega arith), l.1) ]) H.defers;
        acks = elim H.acks [
          | inl k ↦ inl (best_stays (λ v. has v.elector.acked j ≡ true) k)
          | inr k ↦ inr (acks_next j (subst (ArrivesBy (E.by + pace.again + pace.delay) (IsAck ms pace E q t j)) (sym (left_to_best j)) k))
        ];
      }
        where
          mine : j ≡ i → Defers q pace E t.time i s
          mine same =
              let o = opened (Defers q pace E t.time j) (t.world.state j) H.defers in
              subst (λ (z : State). Defers q pace E t.time i z) (one_state (t.world.state i) o.0 s (subst (λ (z : ℕ). t.world.state z ≡ Some o.0) same o.1) up) (subst (λ (z : ℕ). Defers q pace E t.time z o.0) same o.2)

      -- it hears the call
      hears : Unheard ms pace E q t i → came ≡ the_call → Heard ms pace E q next i
      hears U is = record {
        defers = closed (Defers q pace E next.time i) (next.world.state i) y.state D.up (inl ((K.0).candidate, (K.0).deferred));
        acks = inr (subst (ArrivesBy (E.by + pace.again + pace.delay) (IsAck ms pace E q next i)) (sym (under_now ms q pace t u next e left went i came s y how D i b ∙ ap (λ (ns : List ℕ). left i b ++ owed_by due ns) sends))
            (arrives_last (E.by + pace.again + pace.delay) (IsAck ms pace E q next i) (left i b) (record { number = suc count; by = due }) (left_all ms q pace t u next e left went i came s y how D (λ o. o.by ≤ E.by + pace.again + pace.delay) i b early) in_time ack));
      }
        where
          K : Stays false no_ranks (Some b) s.timers y × (y.out ≡ says ms i lt (u + pace.clock i) (shared_entries (t.world.store i)) (readings_of (t.world.store i)) s body.Ack b ∷ [])
          K = call_answered ms q pace quick E t X u M i qi lt came e left s up how (shared_entries (t.world.store i)) y reacts_so room other is

          in_time : due ≤ E.by + pace.again + pace.delay
          in_time = let k = unheard_by ms q pace quick E t X u M i qi other U in omega arith

          early : AllByRecursion (λ o. o.by ≤ E.by + pace.again + pace.delay) (t.under_way i b)
          early = all_map (IsOfElection E t.world.messages i b (t.time + pace.delay)) (λ o. o.by ≤ E.by + pace.again + pace.delay) (λ o O. (let a = O.in_time in let m = M.later in let k = in_time in omega arith)) (t.under_way i b) (X.under_way i b qi C.member)

          sent : es ≡ in_election ms E i b body.Ack ∷ []
          sent = ap messages_of K.1 ∙ ap (λ (z : ℕ). one (record { to = b; message = record { from = i; monitors = ms.count; epoch = z; body = body.Ack } })) (X.epoch i qi)

          sends : numbers i b (suc count) es ≡ suc count ∷ []
          sends = ap (numbers i b (suc count)) sent ∙ (let x = eq-eqb i i refl in let z = eq-eqb b b refl in rw (x, z) refl)

          ack : message_at next.world.messages (suc count) ≡ Some (in_election ms E i b body.Ack)
          ack = let zeroth : suc count + 0 ≡ suc count = omega arith in subst (λ (z : ℕ). message_at next.world.messages z ≡ Some (in_election ms E i b body.Ack)) zeroth (new_at ms q pace t u next e left went i came s y how D 0 (in_election ms E i b body.Ack) (ap (λ (z : List Envelope). slice_get z 0) sent))

    -- ---- all members

    others_next : (j : ℕ) → has q j ≡ true → (j ≡ b → ⊥) → Unheard ms pace E q next j ⊎ Heard ms pace E q next j
    others_next j qj nj = elim (cases_eq i b) [
      | inl best ↦ elim (X.others j qj nj) [ inl U ↦ inl (best_unheard best j qj nj U) | inr H ↦ inr (best_heard best j qj nj H) ]
      | inr other ↦ elim (X.others j qj nj) [
        | inr H ↦ inr (other_heard other j H)
        | inl U ↦ elim called_or_not [
          | inr isnt ↦ inl (other_unheard other j qj (λ _. isnt) U)
          | inl is ↦ elim (cases_eq j i) [
            | inl same ↦ inr (subst (Heard ms pace E q next) (sym same) (hears other (subst (Unheard ms pace E q t) same U) is))
            | inr ne ↦ inl (other_unheard other j qj (λ same _. ne (sym same)) U)
          ]
        ]
      ]
    ]

    pub turned : Elects ms q pace E next
    turned = record {
      can = C;
      odd = X.odd;
      since = X.since;
      together = X.together;
      begun = (let a = X.begun in let c = M.later in let z = time_is ms q pace t u next e left went i came s y how D in omega arith);
      epoch = epoch_next;
      part = λ j qj. on_state ms q pace t u next e left went i came s y how D (TakesPart q pace E j) (TakesPart q pace E j) j (λ same. subst (λ (z : ℕ). TakesPart q pace E z y.state) (sym same) T.part) (λ _ z k. k) (X.part j qj);
      stands = on_state ms q pace t u next e left went i came s y how D (Stands q pace E) (Stands q pace E) b (λ same. T.stands (sym same)) (λ _ z k. k) X.stands;
      under_way = under_way_next;
      called = λ j qj nj. (let k = X.called j qj nj in (k.0, still ms q pace t u next e left went i came s y how D k.0 (in_election ms E b j (body.Propose None)) k.1));
      alike = alike_next;
      others = others_next;
    }
