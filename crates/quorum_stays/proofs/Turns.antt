-- What a message about a client's command, a client or the timer of commands that wait makes of the commands that wait.
use Rattle.law_names.proofs.Runs.{Arrives, Client, Deliver, Envelope, Monitors, Plain, Replied as RepliedTo, Ring, World, message_at, messages_of, replies_of}
use Rattle.law_names.proofs.Table.{AllByRecursion, Asked, Clients, Entry, Me, Origin, Readings, Reply, Request, Sent, Session, State, Store, Timer, Waiting, answer_to, at_rest, disarmed, end_of, epoch_of, has, is_empty, is_heard, is_peon, of_leader, same_phase, stands}
use Rattle.mon_msg.specs.declared.plan.Origin.TheVariants as origin
use Rattle.mon_msg.specs.declared.plan.Sent.TheVariants as sent
use Rattle.mon_wire.specs.declared.body.Body.TheVariants as body
use Rattle.mon_wire.specs.declared.phase.Phase.TheVariants as phase
use Rattle.mon_wire.specs.declared.phase.Timer.TheVariants as timer
use Rattle.quorum_model.proofs.Members.{member_of}
use Rattle.quorum_stays.proofs.Outcomes.{Answered, Aside, AsksAs, BringsNone, BringsRoute, Fate, Hand, Kept, Lapsed, Marked, Marks, NobodyAsks, Passed, Queued, Refused, Replied, Routed, Unmarked, may, replies_hand_on_none}
use Rattle.quorum_stays.proofs.Serving.{Answered as AnsweredNow, Answers, Kept as KeptAsItWas, Marking, Queued as QueuedLast, Refused as RefusedFirst, Rests, Turn, answered, messages_hand_on_none}
use Rattle.quorum_stays.proofs.Sharing.{AsksOf, Delivers, HandsOnNoneOf, Passed as PassedOn, RepliedNow as RepliedAtOnce, Routed as RoutedBack, Share, Untouched, none_of, replied_each, replied_one}
use Rattle.quorum_stays.proofs.Timers.{armed_if_any, disarmed_size}
use Rattle.quorum_stays.specs.Reading.{ClocksGoOn}
use Rattle.quorum_stays.specs.Serving.{IsAnswer, IsForward, Writes}
use Rattle.quorum_stays.specs.Steady.{Begun, Leads, LeadsSince, Reign, Round, in_reign}
use Rattle.quorum_timed.proofs.Armed.{Timers}
use Rattle.quorum_timed.specs.Timed.{Pace}
use Rattle.std.proofs.Common.{Bool, List, None, Option, Some, [], ap, arith, eqb, false, filter, inl, inr, length, ltb, map, not, refl, slice_index_or, slice_set, subst, suc, sym, true, zero, ℕ, ◌&&◌, ◌++◌, ◌+◌, ◌<◌, ◌==◌, ◌∙◌, ◌∷◌, ◌≡◌, ◌≤◌, ◌⊎◌}
use Rattle.std.proofs.lemmas.Bool.{cases_eq, eq-eqb, false≢true, lt-ltb, ne_eqb, or_right}
use Rattle.std.proofs.lemmas.List.{append-nil}

-- ---- lists of numbers

set_at_most : (xs : List ℕ) (f seq : ℕ) → slice_index_or (slice_set xs f seq) f 0 ≤ seq
set_at_most [] f seq = omega arith
set_at_most (x ∷ xs) zero seq = omega arith
set_at_most (x ∷ xs) (suc f) seq = set_at_most xs f seq

set_elsewhere : (xs : List ℕ) (f g seq : ℕ) → (g ≡ f → ⊥) → slice_index_or (slice_set xs f seq) g 0 ≡ slice_index_or xs g 0
set_elsewhere [] f g seq ne = refl
set_elsewhere (x ∷ xs) zero zero seq ne = absurd (ne refl)
set_elsewhere (x ∷ xs) zero (suc g) seq ne = refl
set_elsewhere (x ∷ xs) (suc f) zero seq ne = refl
set_elsewhere (x ∷ xs) (suc f) (suc g) seq ne = set_elsewhere xs f g seq (λ e. ne (ap suc e))

-- ---- what is handed on, and to whom

-- how an event's input is what a session asks, or a ROUTE
pub record Ties (ms : Monitors) (reign : Reign) (before : World) (p : Plain) (i : ℕ) (w : Readings) (s : State) (Asks : Session → Type 0) (Brings : ℕ → Reply → Type 0) : Type 0 where
  pub writes : (z : Session) → Asks z → Writes (Arrives p)
  pub asked : (z : Session) → AsksOf (Arrives p) i z → Asks z
  pub asks : (z : Session) → Asks z → AsksOf (Arrives p) i z
  pub routed : (i ≡ reign.leader → ⊥) → of_leader reign.leader reign.epoch (at_rest w s) ≡ true → (seq : ℕ) (r : Reply) → Delivers before (Arrives p) (in_reign ms reign reign.leader i (body.Route seq r)) → Brings seq r
  pub brings : (seq : ℕ) (r : Reply) → Brings seq r → (m : Envelope) × Delivers before (Arrives p) m × (m.message.body ≡ body.Route seq r)

module _ (ms : Monitors) (reign : Reign) (before : World) (i at : ℕ) (here : ltb i ms.count ≡ true) (w : Readings) (s : State) where
  pub message_ties : (k : ℕ) (m : Envelope) → message_at before.messages k ≡ Some m → Ties ms reign before (Deliver k at) i w s NobodyAsks (BringsRoute (member_of ms i here) w s m.message m.message.body)
  message_ties k m there = record {
    writes = λ z x. absurd x;
    asked = λ z x. x;
    asks = λ z x. absurd x;
    routed = λ ne leads seq r x. (let heard : is_heard (member_of ms i here) (in_reign ms reign reign.leader i (body.Route seq r)).message ≡ true = rw (ne_eqb reign.leader i (λ e. ne (sym e)), eq-eqb ms.count ms.count refl) refl in
        let both : Some m ≡ Some (in_reign ms reign reign.leader i (body.Route seq r)) = sym there ∙ x in
        let same : m ≡ in_reign ms reign reign.leader i (body.Route seq r) = cc in
        subst (λ (y : Envelope). BringsRoute (member_of ms i here) w s y.message y.message.body seq r) (sym same) (refl, heard, leads));
    brings = λ seq r x. (m, there, x.0);
  }

  pub client_ties : (session : Session) (x : Request) → Ties ms reign before (Client i at session x) i w s (AsksAs session x) BringsNone
  client_ties session x = record { writes = λ z k. k.1; asked = λ z k. (k.1, k.2); asks = λ z k. (refl, k.0, k.1); routed = λ ne leads seq r k. k; brings = λ seq r k. absurd k }

  pub timer_ties : (kind : Timer) → Ties ms reign before (Ring i kind at) i w s NobodyAsks BringsNone
  timer_ties kind = record { writes = λ z k. absurd k; asked = λ z k. k; asks = λ z k. absurd k; routed = λ ne leads seq r k. k; brings = λ seq r k. absurd k }

module _ (me : Me) (sh : List Entry) (now : ℕ) (w : Readings) (s : State) where
  pub marked : (ms : Monitors) (pace : Pace) (reign : Reign) (taken : Option Origin) (clients : Clients) (timers : Timers) → Marks me sh now w s taken clients → (f : ℕ) → Marking ms pace reign f taken s (record s { clients = clients; timers = timers })
  marked ms pace reign taken clients timers (Unmarked is) f = inl (ap (λ (z : List ℕ). slice_index_or z f 0) is)
  marked ms pace reign taken clients timers (Marked g seq took is) f = elim (cases_eq f g) [
    | inl e ↦ inr (
      seq,
      took ∙ ap (λ (z : ℕ). Some (origin.Forwarded z seq)) (sym e),
      subst (λ (z : List ℕ). slice_index_or z f 0 ≤ seq) (sym is) (subst (λ (z : ℕ). slice_index_or (slice_set s.clients.taken g seq) z 0 ≤ seq) (sym e) (set_at_most s.clients.taken g seq)),
    )
    | inr ne ↦ inl (ap (λ (z : List ℕ). slice_index_or z f 0) is ∙ set_elsewhere s.clients.taken g f seq ne)
  ]

module _ (me : Me) (sh : List Entry) (now : ℕ) (w : Readings) (s : State) (Asks : Session → Type 0) (Brings : ℕ → Reply → Type 0) where
  -- nothing is handed on, unless a client asked for a command
  pub hands_on_none : (W : Type 0) (clients : Clients) (out : List Sent) → ((z : Session) → Asks z → W) → Hand me sh now w s Asks Brings clients out → AllByRecursion (λ (m : Envelope). IsForward m.message.body → ⊥) (messages_of out) ⊎ W
  hands_on_none W clients out go (Aside apart other a b none) = inl (messages_hand_on_none out none)
  hands_on_none W clients out go (Replied z r asks k a b is) = inl (subst (λ (o : List Sent). AllByRecursion (λ (m : Envelope). IsForward m.message.body → ⊥) (messages_of o)) (sym is) tt)
  hands_on_none W clients out go (Passed z c asks a b d) = inr (go z asks)
  hands_on_none W clients out go (Routed seq r k a b is) = inl (subst (λ (o : List Sent). AllByRecursion (λ (m : Envelope). IsForward m.message.body → ⊥) (messages_of o)) (sym is)
      (messages_hand_on_none _ (replies_hand_on_none (filter (λ (a : Asked). a.seq == seq) s.clients.sessions) r)))

  -- only the own rank hands on commands
  pub hands_on_own : (clients : Clients) (out : List Sent) → Hand me sh now w s Asks Brings clients out → (f : ℕ) → (f ≡ me.member.rank → ⊥) → HandsOnNoneOf f (messages_of out)
  hands_on_own clients out (Aside apart other a b none) f ne = none_of f (messages_of out) (messages_hand_on_none out none)
  hands_on_own clients out (Replied z r asks k a b is) f ne = subst (λ (o : List Sent). HandsOnNoneOf f (messages_of o)) (sym is) tt
  hands_on_own clients out (Passed z c asks a b is) f ne = subst (λ (o : List Sent). HandsOnNoneOf f (messages_of o)) (sym is) ((λ e _. ne (sym e)), tt)
  hands_on_own clients out (Routed seq r k a b is) f ne = subst (λ (o : List Sent). HandsOnNoneOf f (messages_of o)) (sym is)
      (none_of f _ (messages_hand_on_none _ (replies_hand_on_none (filter (λ (a : Asked). a.seq == seq) s.clients.sessions) r)))

-- ---- a peon

module _ (ms : Monitors) (reign : Reign) (i : ℕ) (ni : i ≡ reign.leader → ⊥) (here : ltb i ms.count ≡ true) (sh : List Entry) (now : ℕ) (w : Readings) (s : State) (follows : s.phase ≡ phase.Peon) (leader : s.peon.leader ≡ reign.leader) (epoch : epoch_of w ≡ reign.epoch)
    (Asks : Session → Type 0) (Brings : ℕ → Reply → Type 0) (before after : World) (p : Plain) (ties : Ties ms reign before p i w s Asks Brings) (event : ℕ) (m : Store) (clients : Clients) (timers : Timers) (out : List Sent)
    (replied : after.replied ≡ before.replied ++ replies_of event i m out) where
  peon_is : is_peon s.phase ≡ true
  peon_is = rw follows refl

  of_it : of_leader reign.leader reign.epoch (at_rest w s) ≡ true
  of_it = rw (follows, eq-eqb reign.epoch (epoch_of w) (sym epoch), eq-eqb reign.leader s.peon.leader (sym leader)) refl

  pub shared : Hand (member_of ms i here) sh now w s Asks Brings clients out → Share ms reign before after (Arrives p) i s (record s { clients = clients; timers = timers }) (messages_of out)
  shared (Aside apart other a b none) =
      Untouched (λ z k. false≢true (sym (apart z (ties.asked z k)) ∙ peon_is)) (λ seq r k. other seq r (ties.routed ni of_it seq r k)) a b (none_of i (messages_of out) (messages_hand_on_none out none))
  shared (Replied z r asks k a b is) = RepliedAtOnce z (ties.asks z asks) (replied_one before after event i m z r out k is replied) a b (subst (λ (o : List Sent). HandsOnNoneOf i (messages_of o)) (sym is) tt)
  shared (Passed z c asks a b is) = PassedOn z c (ties.asks z asks) a b
      (ap messages_of is ∙ (λ d. record { to = leader d; message = record { from = i; monitors = ms.count; epoch = epoch d; body = body.Forward s.clients.next_seq c } } ∷ []))
  shared (Routed seq r k a b is) =
      let t = ties.brings seq r k in
      RoutedBack seq r t.0 t.1 t.2 a b
      (subst (λ (o : List Sent). HandsOnNoneOf i (messages_of o)) (sym is) (none_of i _ (messages_hand_on_none _ (replies_hand_on_none (filter (λ (a : Asked). a.seq == seq) s.clients.sessions) r))))
      (λ x there fine. replied_each before after event i m r fine [] (filter (λ (a : Asked). a.seq == seq) s.clients.sessions)
      (replied ∙ ap (λ (o : List Sent). before.replied ++ replies_of event i m o) is ∙ ap (λ (z : List RepliedTo). z ++ replies_of event i m (map (λ (a : Asked). sent.Reply a.session r) (filter (λ (a : Asked). a.seq == seq) s.clients.sessions))) (sym (append-nil before.replied))) x there)

-- ---- the leader

module _ (ms : Monitors) (q : List Bool) (pace : Pace) (reign : Reign) (r : Round) (u : ℕ) (soon : r.next ≡ None → u ≤ r.latest + 3000 + pace.late) (quick : pace.delay + pace.late < 2000) (room : ClocksGoOn q pace u)
    (leads : has q reign.leader ≡ true) (here : ltb reign.leader ms.count ≡ true) (sh : List Entry) (w : Readings) (epoch : epoch_of w ≡ reign.epoch) (s : State) (L : Leads ms.count q pace reign r r.next s) where
  abbrev me : Me
  me = member_of ms reign.leader here

  abbrev now : ℕ
  now = u + pace.clock reign.leader

  -- its lease is valid while it has no value in progress
  may_while : r.next ≡ None → may me sh now w s ≡ true
  may_while none =
      let F : LeadsSince reign q (r.latest + pace.clock reign.leader) s = subst (λ (o : Option Begun). Leads ms.count q pace reign r o s) none L in
      let a = soon none in
      let b = quick in
      let valid = lt-ltb now (r.latest + pace.clock reign.leader + 5000) (omega arith) in
      let either = or_right (eqb ms.count 1) (stands (Some (r.latest + pace.clock reign.leader + 5000)) now) valid in
      rw (F.leads, F.lease) either

  -- it is updating while it has one
  idle_while : (o : Option Begun) → Leads ms.count q pace reign r o s → same_phase s.phase phase.Active ≡ true → o ≡ None
  idle_while None F active = refl
  idle_while (Some b) P active =
      let X = P.proposes in
      let idle : same_phase s.phase phase.Active ≡ false = rw X.leads refl in
      absurd (false≢true (sym idle ∙ active))

  active_none : same_phase s.phase phase.Active ≡ true → r.next ≡ None
  active_none active = idle_while r.next L active

  size : r.next ≡ None → length s.timers ≡ 11
  size none = let F : LeadsSince reign q (r.latest + pace.clock reign.leader) s = subst (λ (o : Option Begun). Leads ms.count q pace reign r o s) none L in F.kinds

  module _ (before after : World) (event : ℕ) (m : Store) (taken : Option Origin) (clients : Clients) (timers : Timers) (out : List Sent) (replied : after.replied ≡ before.replied ++ replies_of event reign.leader m out) where
    answers : (o : Origin) (x : Reply) → IsAnswer x → out ≡ answer_to me (epoch_of w) o x ∷ [] → Answers ms reign before after (messages_of out) o
    answers o x k is =
        let same : out ≡ answer_to me reign.epoch o x ∷ [] = is ∙ ap (λ (e : ℕ). answer_to me e o x ∷ []) epoch in
        subst (λ (z : List Sent). Answers ms reign before after (messages_of z) o) (sym same)
        (answered ms reign before after here event m o x k [] [] (subst (λ (z : List Sent). after.replied ≡ before.replied ++ replies_of event reign.leader m z) same replied))

    rests : ((clients.queue ≡ [] → ⊥) → end_of timer.Propose timers ≡ end_of timer.Propose s.timers) → Rests ms pace reign r r s (record s { clients = clients; timers = timers })
    rests same = record { next = refl; latest = refl; origin = refl; ends = λ _. same }

    pub turned : Fate me sh now w s taken clients timers out → Turn ms pace reign u before after r r taken s (record s { clients = clients; timers = timers }) (messages_of out)
    turned (Kept nil queue same) = KeptAsItWas nil queue (rests same)
    turned (Lapsed nil queue lapsed) = KeptAsItWas nil queue (record { next = refl; latest = refl; origin = refl; ends = λ none. absurd (false≢true (sym lapsed ∙ may_while none)) })
    turned (Answered o x took k is queue same) = AnsweredNow o took (answers o x k is) queue (rests same)
    turned (Queued one took queue few waits same) = QueuedLast one took queue few
        (λ none empty. (let a = may_while none in let b = subst (λ (z : List Waiting). (may me sh now w s && not (not (is_empty z))) ≡ false) empty waits in absurd (false≢true (sym b ∙ (rw a refl)))))
        (rests (λ _. same))
    turned (Refused one x nil queue k is active armed) =
        let none = active_none active in
        let armed_now : (clients.queue ≡ [] → ⊥) → end_of timer.Propose timers ≡ Some now = (λ some. ap (end_of timer.Propose) armed ∙ armed_if_any clients.queue now (disarmed timer.Propose s.timers) (disarmed_size timer.Propose s.timers (size none)) (room reign.leader leads) some) in
        RefusedFirst one nil queue (answers one.origin x k is) none none refl armed_now
