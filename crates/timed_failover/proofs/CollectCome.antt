-- What arrives at a quorum whose new leader asks it, until all members answered.
use Rattle.law_names.proofs.Runs.{Envelope, Event, Monitors, message_at, messages_of}
use Rattle.law_names.proofs.Table.{AllByRecursion, Body, Course, Entry, Input, Me, Message, Op, Origin, Readings, Reply, Request, Session, State, Timer, at_rest, end_of, epoch_of, has, hear, hear_forward, hear_route, is_heard, quorum_of, react, readings_of, same_phase, shared_entries}
use Rattle.log_model.proofs.Lists.{all_map}
use Rattle.mon_msg.specs.declared.input.Input.TheVariants as input
use Rattle.mon_wire.specs.declared.body.Body.TheVariants as body
use Rattle.mon_wire.specs.declared.phase.Phase.TheVariants as phase
use Rattle.mon_wire.specs.declared.phase.Timer.TheVariants as timer
use Rattle.quorum_model.proofs.Members.{member_of}
use Rattle.quorum_stays.proofs.Onward.{one_state, unpack}
use Rattle.quorum_stays.proofs.Outcomes.{AsksAs, BringsNone, BringsRoute, NobodyAsks, Outcome, aside_row, client_row, propose_row}
use Rattle.quorum_stays.proofs.Staying.{goes_on, time_of_next}
use Rattle.quorum_stays.proofs.Stepping.{Did}
use Rattle.quorum_stays.proofs.SteppingDown.{here}
use Rattle.quorum_stays.proofs.Taking.{taken_from}
use Rattle.quorum_stays.specs.Reading.{ClocksGoOn}
use Rattle.quorum_stays.specs.Steady.{AreApart, Carries, FollowsSince, IsAside, IsItem, IsOfClients, IsOfEarlier, IsOfElections, Item, in_reign, item}
use Rattle.quorum_timed.specs.Begins.{IsBetween, IsQuick}
use Rattle.quorum_timed.specs.Calls.{IsCall, IsCandidate}
use Rattle.quorum_timed.specs.Timed.{Leads, MayBe, Owed, Pace, Timed, Went, at_time, without_first}
use Rattle.quorum_walk.proofs.Walk.{Then, by_test, done}
use Rattle.std.proofs.Common.{Bool, IsSomeAnd, List, Ok, Option, Some, [], ap, arith, false, inl, inr, length, ltb, refl, subst, suc, sym, true, ℕ, ◌*◌, ◌+◌, ◌<◌, ◌^◌, ◌∙◌, ◌∷◌, ◌≡◌, ◌≤◌, ◌⊎◌}
use Rattle.std.proofs.lemmas.Bool.{cases_eq, false≢true, le-ltb, lt-ltb}
use Rattle.timed_election.proofs.Coming.{Handled, How, again, asks, fires, first, handled, left_all, next_all, still}
use Rattle.timed_election.proofs.Counting.{several}
use Rattle.timed_election.proofs.Lists.{closed, opened}
use Rattle.timed_election.proofs.Outcomes.{Asks, AsksIn, IsLow}
use Rattle.timed_election.specs.Election.{CanElect}
use Rattle.timed_failover.proofs.CollectAsides.{aside_asked}
use Rattle.timed_failover.proofs.CollectElects.{electing_asked}
use Rattle.timed_failover.proofs.CollectKeeps.{IsApart, R}
use Rattle.timed_failover.proofs.CollectMembers.{hears_collect, hears_victory}
use Rattle.timed_failover.proofs.CollectPops.{MemberAt, collect_due, over, pop_down, pop_other, pop_up, victory_due}
use Rattle.timed_failover.proofs.CollectQuiets.{still_asked}
use Rattle.timed_failover.proofs.CollectTaken as taken
use Rattle.timed_failover.proofs.CollectTaken.{Left, last_taken}
use Rattle.timed_failover.specs.Collecting.{AreBetween, Collects, Electing, Following, IsAs, IsAsked, IsHeardBy, IsNoted, KeepsAs, Noted, Progress, Promised, Query, StillElects, answer_to, from_such, to_such}
use Rattle.timed_failover.specs.Settling.{Opens, Settles}

-- ---- a member that still elects drops what is about a client's command

abbrev still_electing : State → State
still_electing s = record s { phase = phase.Electing }

drops_body : (me : Me) (sh : List Entry) (now : ℕ) (w : Readings) (s : State) (f e : ℕ) (b : Body) → IsOfClients b
    → Then (λ (y : Course). y ≡ at_rest w (still_electing s)) (hear me sh now f e b (at_rest w (still_electing s)))
unfolding hear_forward hear_route
drops_body me sh now w s f e (body.Forward seq c) k = done refl
drops_body me sh now w s f e (body.Route seq r) k = done refl
drops_body me sh now w s f e other k = absurd k

drops_so : (me : Me) (sh : List Entry) (now : ℕ) (w : Readings) (s : State) (m : Message) → IsOfClients m.body → Then (λ (y : Course). y ≡ at_rest w (still_electing s)) (react me sh now w (still_electing s) (input.Deliver m))
unfolding react
drops_so me sh now w s m k = by_test (is_heard me m) (λ _. drops_body me sh now w s m.from m.epoch m.body k) (λ _. done refl)

drops : (me : Me) (sh : List Entry) (now : ℕ) (w : Readings) (s : State) (m : Message) → s.phase ≡ phase.Electing → IsOfClients m.body → Then (λ (y : Course). y ≡ at_rest w s) (react me sh now w s (input.Deliver m))
drops me sh now w s m elects k = subst (λ (z : State). Then (λ (y : Course). y ≡ at_rest w z) (react me sh now w z (input.Deliver m))) (sym same) (drops_so me sh now w s m k)
  where
    same : s ≡ still_electing s
    same = λ i. record s { phase = elects i }

-- a vote asks nothing
votes_ask_nothing : (b : Body) → IsOfElections b → Asks b → ⊥
votes_ask_nothing (body.Propose t) k a = a
votes_ask_nothing body.Ack k a = a
votes_ask_nothing other k a = k

-- a call is a vote
call_votes : (b : Body) → IsCall b → IsOfElections b
call_votes (body.Propose t) k = tt
call_votes other k = absurd k

module _ (ms : Monitors) (q : List Bool) (pace : Pace) (quick : IsQuick pace) (x : Query) (within : (i : ℕ) → has q i ≡ true → i < ms.count) where
  abbrev best : ℕ
  best = x.election.best

  -- the leader heard all members, and serves, or proposes what it found
  abbrev pub HeardAll : (at : ℕ) → Timed → Type 0
  HeardAll at next = (version : ℕ) × (Opens ms q pace (R ms q pace x) version x.value x.won next
      ⊎ ((value : List Op) × Settles ms q pace (R ms q pace x) (record { version = version; value = x.value; won = x.won; found = record { value = value; at = at } }) next))

  -- it asks on, or heard all
  abbrev pub After : (u : ℕ) → Timed → Type 0
  After u next = IsAsked ms q pace x next ⊎ HeardAll u next

  module _ (t : Timed) (X : IsAsked ms q pace x t) (u : ℕ) (M : MayBe ms q pace t u) (room : ClocksGoOn q pace u) (next : Timed) (e : Event) where
    abbrev C : CanElect ms q best
    C = X.can

    -- ---- an event at a member

    record At (i : ℕ) : Type 0 where
      pub member : has q i ≡ true
      pub came : Input
      pub left : ℕ → ℕ → List Owed
      pub went : Went ms q pace (at_time ms q pace u t) e left next
      pub state : State
      pub up : t.world.state i ≡ Some state
      pub how : How ms q pace t u i came e left state
      pub course : Course
      pub reacts : react (member_of ms i (lt-ltb i ms.count (within i member))) (shared_entries (t.world.store i)) (u + pace.clock i) (readings_of (t.world.store i)) state came ≡ Ok course
      pub did : Did t.world next.world i course.state course.changes (messages_of course.out)

    -- it leads or follows
    record Calm (i : ℕ) (s : State) : Type 0 where
      pub awake : same_phase s.phase phase.Booting ≡ false
      pub idle : same_phase s.phase phase.Active ≡ false
      pub quorum : quorum_of s ≡ q
      pub epoch : epoch_of (readings_of (t.world.store i)) ≡ suc x.election.epoch
      pub peon : (i ≡ best → ⊥) → s.phase ≡ phase.Peon
      pub only : (kind : Timer) (end : ℕ) → end_of kind s.timers ≡ Some end → (kind ≡ timer.Propose) ⊎ (x.won + pace.clock i + 10000 ≤ end)

    -- it takes part in the election
    record Elects (i : ℕ) (s : State) : Type 0 where
      pub other : i ≡ best → ⊥
      pub elects : StillElects q pace x i s
      pub epoch : epoch_of (readings_of (t.world.store i)) ≡ x.election.epoch
      pub soon : u ≤ x.won + pace.delay

    follows_calmly : (i : ℕ) (s : State) → (i ≡ best → ⊥) → FollowsSince best q (x.won + pace.clock i) s → epoch_of (readings_of (t.world.store i)) ≡ suc x.election.epoch → Calm i s
    follows_calmly i s ni P epoch = let p = P.follows in record {
      awake = rw p refl;
      idle = rw p refl;
      quorum = rw p P.quorum;
      epoch = epoch;
      peon = λ _. p;
      only = λ kind end on. elim (P.only kind end on) [
        | inl is ↦ inr (P.waits end (subst (λ (z : Timer). end_of z s.timers ≡ Some end) is on))
        | inr is ↦ inl is
      ];
    }

    role : (i : ℕ) → has q i ≡ true → (s : State) → t.world.state i ≡ Some s → Calm i s ⊎ Elects i s
    role i qi s up = elim (cases_eq i best) [ inl is ↦ inl (leads is) | inr ni ↦ by ni (X.others i qi ni) ]
      where
        leads : i ≡ best → Calm i s
        leads is =
            let l = unpack (Collects ms.count q x (x.won + pace.clock best) (readings_of (t.world.store best))) (t.world.state best) X.lead in
            let K : Collects ms.count q x (x.won + pace.clock best) (readings_of (t.world.store best)) s =
            subst (Collects ms.count q x (x.won + pace.clock best) (readings_of (t.world.store best))) (one_state (t.world.state best) l.0 s l.1 (subst (λ (z : ℕ). t.world.state z ≡ Some s) is up)) l.2 in
            let p = K.collects in record {
              awake = rw p refl;
              idle = rw p refl;
              quorum = rw p K.quorum;
              epoch = subst (λ (z : ℕ). epoch_of (readings_of (t.world.store z)) ≡ suc x.election.epoch) (sym is) X.epoch;
              peon = λ ne. absurd (ne is);
              only = λ kind end on. elim (K.only kind end on) [
                | inl same ↦ inl same
                | inr k ↦ inr (let z = k.1 in let c : pace.clock i ≡ pace.clock best = ap (λ (k : ℕ). pace.clock k) is in omega arith)
              ];
            }

        of : (i ≡ best → ⊥) → (p : Progress) → IsAs ms.count pace x q i p s → KeepsAs ms.count pace x p (readings_of (t.world.store i))
            → Carries ms (R ms q pace x) t.world.messages best i (t.time + pace.delay) (to_such ms.count pace x q p) (t.under_way best i) → Calm i s ⊎ Elects i s
        of ni Electing k keeps down = inr (record { other = ni; elects = k; epoch = keeps.0; soon = victory_due ms q pace x t X u M i qi down })
        of ni Following k keeps down = inl (follows_calmly i s ni k keeps.0)
        of ni Promised k keeps down = inl (follows_calmly i s ni k keeps.0)
        of ni Noted k keeps down = inl (follows_calmly i s ni k keeps.0)

        by : (i ≡ best → ⊥) → MemberAt ms q pace x t i t.under_way → Calm i s ⊎ Elects i s
        by ni F = let o = unpack (IsAs ms.count pace x q i F.progress) (t.world.state i) F.is_as in
            of ni F.progress (subst (IsAs ms.count pace x q i F.progress) (one_state (t.world.state i) o.0 s o.1 up) o.2) F.keeps F.to_come

    -- ---- what is no part of the round

    module _ (i : ℕ) (H : At i) (Y : IsAsked ms q pace x (record t { under_way = H.left })) where
      abbrev at : ltb i ms.count ≡ true
      at = lt-ltb i ms.count (within i H.member)

      abbrev me : Me
      me = member_of ms i (lt-ltb i ms.count (within i H.member))

      abbrev now : ℕ
      now = u + pace.clock i

      abbrev w : Readings
      w = readings_of (t.world.store i)

      abbrev sh : List Entry
      sh = shared_entries (t.world.store i)

      calmly : (taken : Option Origin) (Wants : Session → Type 0) (Brings : ℕ → Reply → Type 0) → Calm i H.state → Then (Outcome me sh now w H.state taken Wants Brings) (react me sh now w H.state H.came) → IsAsked ms q pace x next
      calmly taken Wants Brings K row = aside_asked ms q pace x t u M.later next e H.left Y H.went i H.came H.state H.up H.course H.how H.did me sh now w taken Wants Brings
          ((subst (Then (Outcome me sh now w H.state taken Wants Brings)) H.reacts row).holds) K.idle K.peon

      electing : Elects i H.state → IsLow (epoch_of w) H.came → (AsksIn H.came → ⊥) → ((m : Message) → H.came ≡ input.Deliver m → has q m.from ≡ true) → IsAsked ms q pace x next
      electing E low plain from = electing_asked ms q pace quick x t u M.later next e H.left Y H.went i H.member E.other H.came H.state H.up H.course H.how H.did at (room i H.member) H.reacts E.elects E.epoch E.soon low plain from

      dropped : (m : Message) → H.came ≡ input.Deliver m → IsOfClients m.body → Elects i H.state → IsAsked ms q pace x next
      dropped m is k E = still_asked ms q pace x t u M.later next e H.left Y H.went i H.came H.state H.up H.course H.how H.did (ap (λ (z : Course). z.changes) row)
          (subst (λ (z : Course). AllByRecursion (IsApart ms q pace x) (messages_of z.out)) (sym row) tt) (λ lead _ _. absurd (E.other lead)) (λ lead _ _ _ _ _. absurd (E.other lead))
          (λ _ p z. subst (λ (y : Course). IsAs ms.count pace x q i p y.state) (sym row) z)
        where
          elects : (H.state).phase ≡ phase.Electing
          elects = let P = E.elects in P.elects

          row : H.course ≡ at_rest w H.state
          row = (subst (Then (λ (y : Course). y ≡ at_rest w H.state)) H.reacts
              (subst (λ (c : Input). Then (λ (y : Course). y ≡ at_rest w H.state) (react me sh now w H.state c)) (sym is) (drops me sh now w H.state m elects k))).holds

      aside : (m : Message) → H.came ≡ input.Deliver m → has q m.from ≡ true → IsOfClients m.body ⊎ IsOfEarlier (suc x.election.epoch) m.from m → IsAsked ms q pace x next
      aside m is among k = by k (role i H.member H.state H.up)
        where
          by : IsOfClients m.body ⊎ IsOfEarlier (suc x.election.epoch) m.from m → Calm i H.state ⊎ Elects i H.state → IsAsked ms q pace x next
          by k (inl K) = calmly (taken_from me w H.state (input.Deliver m)) NobodyAsks (BringsRoute me w H.state m m.body) K
              (subst (λ (c : Input). Then (Outcome me sh now w H.state (taken_from me w H.state (input.Deliver m)) NobodyAsks (BringsRoute me w H.state m m.body)) (react me sh now w H.state c)) (sym is)
              (aside_row me sh now w H.state (λ a. absurd (false≢true (sym K.idle ∙ a))) K.awake (suc x.election.epoch) m.from m K.epoch (subst (λ (z : List Bool). has z m.from ≡ true) (sym K.quorum) among) k))
          by (inl k) (inr E) = dropped m is k E
          by (inr k) (inr E) = electing E (subst (IsLow (epoch_of w)) (sym is) (let z = k.before in let y = E.epoch in let low : m.epoch ≤ epoch_of w = omega arith in low)) (λ a. votes_ask_nothing m.body k.elects (subst AsksIn is a))
              (λ n same. (let two : input.Deliver m ≡ input.Deliver n = sym is ∙ same in let one : m ≡ n = cc in subst (λ (z : Message). has q z.from ≡ true) one among))

      proposes : H.came ≡ input.Timer timer.Propose → Calm i H.state → IsAsked ms q pace x next
      proposes is K = calmly (taken_from me w H.state (input.Timer timer.Propose)) NobodyAsks BringsNone K
          (subst (λ (c : Input). Then (Outcome me sh now w H.state (taken_from me w H.state (input.Timer timer.Propose)) NobodyAsks BringsNone) (react me sh now w H.state c)) (sym is)
          (propose_row me sh now w H.state (λ a. absurd (false≢true (sym K.idle ∙ a))) K.awake))

      -- no timer is due but that of commands that wait, and that of the election
      rings : (kind : Timer) (end : ℕ) → end_of kind (H.state).timers ≡ Some end → end ≤ u + pace.clock i → H.came ≡ input.Timer kind → IsAsked ms q pace x next
      rings kind end on due is = by (role i H.member H.state H.up)
        where
          by : Calm i H.state ⊎ Elects i H.state → IsAsked ms q pace x next
          by (inl K) = elim (K.only kind end on) [
            | inl same ↦ proposes (is ∙ ap (λ (z : Timer). input.Timer z) same) K
            | inr k ↦ (let z = over ms q pace x t X u M in let y = quick.leases in absurd (omega arith))
          ]
          by (inr E) = electing E (subst (IsLow (epoch_of w)) (sym is) tt) (λ a. subst AsksIn is a) (λ n same. (let clash : input.Timer kind ≡ input.Deliver n = sym is ∙ same in absurd cc))

      wanted : (session : Session) (r : Request) → H.came ≡ input.Client session r → IsAsked ms q pace x next
      wanted session r is = by (role i H.member H.state H.up)
        where
          by : Calm i H.state ⊎ Elects i H.state → IsAsked ms q pace x next
          by (inl K) = calmly (taken_from me w H.state (input.Client session r)) (AsksAs session r) BringsNone K
              (subst (λ (c : Input). Then (Outcome me sh now w H.state (taken_from me w H.state (input.Client session r)) (AsksAs session r) BringsNone) (react me sh now w H.state c)) (sym is)
              (client_row me sh now w H.state (λ a. absurd (false≢true (sym K.idle ∙ a))) K.awake session r))
          by (inr E) = electing E (subst (IsLow (epoch_of w)) (sym is) tt) (λ a. subst AsksIn is a) (λ n same. (let clash : input.Client session r ≡ input.Deliver n = sym is ∙ same in absurd cc))

    -- ---- the first message from f to i

    record First (f i : ℕ) : Type 0 where
      pub event : At i
      pub sender : has q f ≡ true
      pub o : Owed
      pub others : List Owed
      pub message : Message
      pub list : t.under_way f i ≡ o ∷ others
      pub there : message_at t.world.messages o.number ≡ Some (record { to = i; message = message })
      pub from : message.from ≡ f
      pub came_is : event.came ≡ input.Deliver message
      pub rest : event.left ≡ without_first f i others t.under_way

    -- it is of no round
    comes_aside : (f i : ℕ) (F : First f i) → IsAsked ms q pace x (record t { under_way = without_first f i F.others t.under_way }) → IsAside (suc x.election.epoch) t.world.messages f i F.o → After u next
    comes_aside f i F Y A = inl (aside i F.event (subst (λ (z : ℕ → ℕ → List Owed). IsAsked ms q pace x (record t { under_way = z })) (sym F.rest) Y) F.message F.came_is (subst (λ (z : ℕ). has q z ≡ true) (sym F.from) F.sender)
        (subst (λ (z : ℕ). IsOfClients (F.message).body ⊎ IsOfEarlier (suc x.election.epoch) z F.message) (sym F.from) (subst (λ (z : Message). IsOfClients z.body ⊎ IsOfEarlier (suc x.election.epoch) f z) same A.aside)))
      where
        same : (A.envelope).message ≡ F.message
        same = let two : Some A.envelope ≡ Some (record { to = i; message = F.message }) = sym A.there ∙ F.there in let one : A.envelope ≡ record { to = i; message = F.message } = cc in ap (λ (z : Envelope). z.message) one

    -- it is an item of the round
    message_is : (f i : ℕ) (F : First f i) (y : Item) (b : Body) → IsItem ms (R ms q pace x) t.world.messages f i (t.time + pace.delay) y F.o → y.body ≡ b → (F.event).came ≡ input.Deliver ((in_reign ms (R ms q pace x) f i b).message)
    message_is f i F y b it is = F.came_is ∙ ap (λ (m : Message). input.Deliver m) same
      where
        same : F.message ≡ (in_reign ms (R ms q pace x) f i b).message
        same =
            let two : Some (in_reign ms (R ms q pace x) f i y.body) ≡ Some (record { to = i; message = F.message }) = sym it.there ∙ F.there in
            let one : in_reign ms (R ms q pace x) f i y.body ≡ record { to = i; message = F.message } = cc in
            sym (ap (λ (z : Envelope). z.message) one) ∙ ap (λ (z : Body). (in_reign ms (R ms q pace x) f i z).message) is

    down : (i : ℕ) → (i ≡ best → ⊥) → First best i → After u next
    down i ni F = by (X.others i (F.event).member ni)
      where
        H : At i
        H = F.event

        went : Went ms q pace (at_time ms q pace u t) e (without_first best i F.others t.under_way) next
        went = subst (λ (z : ℕ → ℕ → List Owed). Went ms q pace (at_time ms q pace u t) e z next) F.rest (F.event).went

        how : How ms q pace t u i (F.event).came e (without_first best i F.others t.under_way) (F.event).state
        how = subst (λ (z : ℕ → ℕ → List Owed). How ms q pace t u i (F.event).came e z (F.event).state) F.rest (F.event).how

        w : Readings
        w = readings_of (t.world.store i)

        parts : (a b y : Item) (c rest : List Item) → a ∷ c ≡ y ∷ rest → (a ≡ y) × (c ≡ rest)
        parts a b y c rest e = (cc, cc)

        item_comes : (G : MemberAt ms q pace x t i t.under_way) (p : Progress) → IsSomeAnd (t.world.state i) (IsAs ms.count pace x q i p) → KeepsAs ms.count pace x p (readings_of (t.world.store i))
            → IsSomeAnd (t.world.state best) (IsNoted ms.count pace x i (readings_of (t.world.store best)) (readings_of (t.world.store i)) p)
            → Carries ms (R ms q pace x) t.world.messages best i (t.time + pace.delay) (to_such ms.count pace x q p) (t.under_way best i)
            → Carries ms (R ms q pace x) t.world.messages i best (t.time + pace.delay) (from_such ms.count pace x p (readings_of (t.world.store i))) (t.under_way i best)
            → (y : Item) (rest : List Item) → to_such ms.count pace x q p ≡ y ∷ rest → IsItem ms (R ms q pace x) t.world.messages best i (t.time + pace.delay) y F.o
            → Carries ms (R ms q pace x) t.world.messages best i (t.time + pace.delay) rest F.others → IsAsked ms q pace x next
        item_comes G Electing is_as keeps noted come upward y rest same it more =
            let p = parts (item (body.Victory q) (x.won + pace.delay)) y y (item (body.Collect x.pn x.first x.last) (x.won + pace.delay) ∷ []) rest same in
            hears_victory ms q pace x t X u M.later next e i H.member ni F.others went H.came H.state H.up H.course how H.did (lt-ltb i ms.count (within i H.member)) (room i H.member) H.reacts
            (message_is best i F y (body.Victory q) it (sym (ap (λ (z : Item). z.body) p.0))) is_as keeps G.stocked G.whole noted
            (subst (λ (z : List Item). Carries ms (R ms q pace x) t.world.messages best i (t.time + pace.delay) z F.others) (sym p.1) more) upward
        item_comes G Following is_as keeps noted come upward y rest same it more =
            let p = parts (item (body.Collect x.pn x.first x.last) (x.won + pace.delay)) y y [] rest same in
            hears_collect ms q pace x t X u M.later next e i H.member ni F.others went H.came H.state H.up H.course how H.did (lt-ltb i ms.count (within i H.member)) (room i H.member) H.reacts
            (message_is best i F y (body.Collect x.pn x.first x.last) it (sym (ap (λ (z : Item). z.body) p.0))) (le-ltb (suc w.last) x.first first_low) fits is_as keeps G.stocked G.whole noted
            (collect_due ms q pace x t X u M i H.member come)
            (subst (λ (z : List Item). Carries ms (R ms q pace x) t.world.messages best i (t.time + pace.delay) z F.others) (sym p.1) more) upward
          where
            near_own : (suc w.last ≡ x.version) ⊎ (w.last ≡ x.version)
            near_own = let S = G.stocked in elim S.near [ inl k ↦ inr k.0 | inr k ↦ inl k.0 ]

            near_lead : x.last ≤ x.version
            near_lead = let g = X.grown in elim X.near [ inl k ↦ (let z = k.0 in omega arith) | inr k ↦ (let z = k.0 in omega arith) ]

            first_low : x.first ≤ suc w.last
            first_low = let n = near_lead in elim near_own [
              | inl k ↦ elim X.early [ inl z ↦ omega arith | inr z ↦ omega arith ]
              | inr k ↦ elim X.early [ inl z ↦ omega arith | inr z ↦ omega arith ]
            ]

            fits : suc x.last ≤ 2 ^ 62
            fits = let n = near_lead in let f = X.fits in omega arith
        item_comes G Promised is_as keeps noted come upward y rest same it more = absurd cc
        item_comes G Noted is_as keeps noted come upward y rest same it more = absurd cc

        by : MemberAt ms q pace x t i t.under_way → After u next
        by G = of (subst (Carries ms (R ms q pace x) t.world.messages best i (t.time + pace.delay) (to_such ms.count pace x q G.progress)) F.list G.to_come)
          where
            of : Carries ms (R ms q pace x) t.world.messages best i (t.time + pace.delay) (to_such ms.count pace x q G.progress) (F.o ∷ F.others) → After u next
            of (le, inl k) = comes_aside best i F (pop_down ms q pace x t X i ni G F.others k.2) k.0
            of (le, inr k) = inl (item_comes G G.progress G.is_as G.keeps G.noted G.to_come G.to_take k.0 k.1 k.2 k.3 k.4)

    up : (f : ℕ) → (f ≡ best → ⊥) → First f best → After u next
    up f nf F = by (X.others f F.sender nf)
      where
        H : At best
        H = F.event

        went : Went ms q pace (at_time ms q pace u t) e (without_first f best F.others t.under_way) next
        went = subst (λ (z : ℕ → ℕ → List Owed). Went ms q pace (at_time ms q pace u t) e z next) F.rest (F.event).went

        how : How ms q pace t u best (F.event).came e (without_first f best F.others t.under_way) (F.event).state
        how = subst (λ (z : ℕ → ℕ → List Owed). How ms q pace t u best (F.event).came e z (F.event).state) F.rest (F.event).how

        parts : (a y : Item) (c rest : List Item) → a ∷ c ≡ y ∷ rest → (a ≡ y) × (c ≡ rest)
        parts a y c rest e = (cc, cc)

        item_comes : (G : MemberAt ms q pace x t f t.under_way) (p : Progress) → IsSomeAnd (t.world.state f) (IsAs ms.count pace x q f p) → KeepsAs ms.count pace x p (readings_of (t.world.store f))
            → IsSomeAnd (t.world.state best) (IsNoted ms.count pace x f (readings_of (t.world.store best)) (readings_of (t.world.store f)) p)
            → Carries ms (R ms q pace x) t.world.messages best f (t.time + pace.delay) (to_such ms.count pace x q p) (t.under_way best f)
            → (y : Item) (rest : List Item) → from_such ms.count pace x p (readings_of (t.world.store f)) ≡ y ∷ rest → IsItem ms (R ms q pace x) t.world.messages f best (t.time + pace.delay) y F.o
            → Carries ms (R ms q pace x) t.world.messages f best (t.time + pace.delay) rest F.others → After u next
        item_comes G Electing is_as keeps noted come y rest same it more = absurd cc
        item_comes G Following is_as keeps noted come y rest same it more = absurd cc
        item_comes G Noted is_as keeps noted come y rest same it more = absurd cc
        item_comes G Promised is_as keeps noted come y rest same it more = left_so
            (last_taken ms q pace x t X u M.later next e f F.sender nf F.others went H.came H.state H.up H.course how H.did (lt-ltb best ms.count (within best H.member)) H.reacts
            (message_is f best F y (answer_to ms.count x.pn x.last (readings_of (t.world.store f))) it (sym (ap (λ (z : Item). z.body) p.0))) is_as keeps G.stocked G.whole noted come
            (subst (λ (z : List Item). Carries ms (R ms q pace x) t.world.messages f best (t.time + pace.delay) z F.others) (sym p.1) more)
            (room best H.member) (several ms q best C) (over ms q pace x t X u M))
          where
            p : (item (answer_to ms.count x.pn x.last (readings_of (t.world.store f))) (x.won + 2 * pace.delay) ≡ y) × ([] ≡ rest)
            p = parts (item (answer_to ms.count x.pn x.last (readings_of (t.world.store f))) (x.won + 2 * pace.delay)) y [] rest same

            left_so : Left ms q pace x t X u M.later next e f F.sender nf F.others went H.came H.state H.up H.course how H.did (lt-ltb best ms.count (within best H.member)) H.reacts (message_is f best F y (answer_to ms.count x.pn x.last (readings_of (t.world.store f))) it (sym (ap (λ (z : Item). z.body) p.0))) is_as keeps G.stocked G.whole noted come (subst (λ (z : List Item). Carries ms (R ms q pace x) t.world.messages f best (t.time + pace.delay) z F.others) (sym p.1) more) → After u next
            left_so (taken.asks k) = inl k
            left_so (taken.serves_now version k) = inr (version, inl k)
            left_so (taken.proposes_now version g k) = inr (version, inr (g.value, k))

        by : MemberAt ms q pace x t f t.under_way → After u next
        by G = of (subst (Carries ms (R ms q pace x) t.world.messages f best (t.time + pace.delay) (from_such ms.count pace x G.progress (readings_of (t.world.store f)))) F.list G.to_take)
          where
            of : Carries ms (R ms q pace x) t.world.messages f best (t.time + pace.delay) (from_such ms.count pace x G.progress (readings_of (t.world.store f))) (F.o ∷ F.others) → After u next
            of (le, inl k) = comes_aside f best F (pop_up ms q pace x t X f nf G F.others k.2) k.0
            of (le, inr k) = item_comes G G.progress G.is_as G.keeps G.noted G.to_come k.0 k.1 k.2 k.3 k.4

    apart : (f i : ℕ) → AreApart best f i → First f i → After u next
    apart f i a F = of (subst (Carries ms (R ms q pace x) t.world.messages f i (t.time + pace.delay) []) F.list (X.apart f i F.sender (F.event).member a))
      where
        of : Carries ms (R ms q pace x) t.world.messages f i (t.time + pace.delay) [] (F.o ∷ F.others) → After u next
        of (le, inl k) = comes_aside f i F (pop_other ms q pace x t X f i a F.others k.2) k.0
        of (le, inr k) = absurd (no_item k.0 k.1 k.2)
          where
            no_item : (y : Item) (rest : List Item) → [] ≡ y ∷ rest → ⊥
            no_item y rest e = absurd cc

    arrives : (f i : ℕ) → First f i → After u next
    arrives f i F = by (cases_eq f best) (cases_eq i best)
      where
        by : (f ≡ best) ⊎ (f ≡ best → ⊥) → (i ≡ best) ⊎ (i ≡ best → ⊥) → After u next
        by (inl a) (inl b) = apart f i ((λ _. b), (λ _. a)) F
        by (inr a) (inr b) = apart f i ((λ z. absurd (a z)), (λ z. absurd (b z))) F
        by (inl a) (inr b) = down i b (subst (λ (z : ℕ). First z i) a F)
        by (inr a) (inl b) = up f a (subst (First f) b F)

    -- ---- a call comes again

    calls_again : (i : ℕ) (H : At i) → H.left ≡ t.under_way → (m : Message) → H.came ≡ input.Deliver m → has q m.from ≡ true → IsCall m.body → IsCandidate t.world m.from m.epoch → After u next
    calls_again i H rest m is among call cand = by (role m.from among cand.state cand.up)
      where
        by : Calm m.from cand.state ⊎ Elects m.from cand.state → After u next
        by (inl K) = elim (cases_eq m.from best) [
          | inl lead ↦ (let l = unpack (Collects ms.count q x (x.won + pace.clock best) (readings_of (t.world.store best))) (t.world.state best) X.lead in
              let c : l.0 ≡ cand.state = one_state (t.world.state best) l.0 cand.state l.1 (subst (λ (z : ℕ). t.world.state z ≡ Some cand.state) lead cand.up) in
              let P = l.2 in
              let clash : phase.Collecting ≡ phase.Electing = sym P.collects ∙ ap (λ (z : State). z.phase) c ∙ cand.elects in absurd cc)
          | inr ne ↦ (let clash : phase.Peon ≡ phase.Electing = sym (K.peon ne) ∙ cand.elects in absurd cc)
        ]
        by (inr E) = inl (aside i H (subst (λ (z : ℕ → ℕ → List Owed). IsAsked ms q pace x (record t { under_way = z })) (sym rest) X) m is among
            (inr (record { sender = refl; before = (let a = cand.epoch_is in let b = E.epoch in omega arith); elects = call_votes m.body call })))

    -- ---- each event

    pub stepped : Handled ms q pace within t u next e → After u next
    stepped G = by G.how
      where
        H : At G.i
        H = record { member = G.member; came = G.came; left = G.left; went = G.went; state = G.state; up = G.up; how = G.how; course = G.course; reacts = G.reacts; did = G.did }

        same : H.left ≡ t.under_way → IsAsked ms q pace x (record t { under_way = H.left })
        same rest = subst (λ (z : ℕ → ℕ → List Owed). IsAsked ms q pace x (record t { under_way = z })) (sym rest) X

        by : How ms q pace t u G.i G.came e G.left G.state → After u next
        by (first f qf o others m list there from is _ rest) = arrives f G.i (record { event = H; sender = qf; o = o; others = others; message = m; list = list; there = there; from = from; came_is = is; rest = rest })
        by (again k m there from call cand is _ rest) = calls_again G.i H rest m is from call cand
        by (fires kind end on due is _ rest) = inl (rings G.i H (same rest) kind end on due is)
        by (asks session r is _ rest) = inl (wanted G.i H (same rest) session r is)

  -- ---- the run

  -- what was sent is of its sender
  still_between : (t : Timed) (u : ℕ) (next : Timed) (e : Event) → AreBetween q t → Handled ms q pace within t u next e → AreBetween q next
  still_between t u next e B H f j qf qj = next_all ms q pace t u next e H.left H.went H.i H.came H.state H.course H.how H.did (λ o. IsBetween next.world f j o.number) f j
      (left_all ms q pace t u next e H.left H.went H.i H.came H.state H.course H.how H.did (λ o. IsBetween next.world f j o.number) f j
      (all_map (λ o. IsBetween t.world f j o.number) (λ o. IsBetween next.world f j o.number) (λ o h. kept o h) (t.under_way f j) (B f j qf qj)))
      (λ d m there from to at. closed (λ (z : Envelope). (z.message.from ≡ f) × (z.to ≡ j)) (message_at next.world.messages (suc (length t.world.messages) + d)) m at (from, to))
    where
      kept : (o : Owed) → IsBetween t.world f j o.number → IsBetween next.world f j o.number
      kept o h = let m = opened (λ (z : Envelope). (z.message.from ≡ f) × (z.to ≡ j)) (message_at t.world.messages o.number) h in
          closed (λ (z : Envelope). (z.message.from ≡ f) × (z.to ≡ j)) (message_at next.world.messages o.number) m.0
          (still ms q pace t u next e H.left H.went H.i H.came H.state H.course H.how H.did o.number m.0 m.1) m.2

  all_up : (t : Timed) → IsAsked ms q pace x t → (i : ℕ) → has q i ≡ true → IsSomeAnd (t.world.state i) (λ s. Unit {0})
  all_up t X i qi = elim (cases_eq i best) [
    | inl is ↦ (let l = unpack (Collects ms.count q x (x.won + pace.clock best) (readings_of (t.world.store best))) (t.world.state best) X.lead in
        subst (λ (z : ℕ). IsSomeAnd (t.world.state z) (λ s. Unit {0})) (sym is) (closed (λ (s : State). Unit {0}) (t.world.state best) l.0 l.1 tt))
    | inr ni ↦ (let F = X.others i qi ni in let o = unpack (IsAs ms.count pace x q i F.progress) (t.world.state i) F.is_as in closed (λ (s : State). Unit {0}) (t.world.state i) o.0 o.1 tt)
  ]

  pub heard_all : (t last : Timed) (more : List (ℕ × Event)) → IsAsked ms q pace x t → AreBetween q t → Leads ms q pace t more last → ClocksGoOn q pace last.time → x.won + 2 * pace.delay < last.time
      → IsHeardBy ms q pace x t last more (x.won + 2 * pace.delay)
  heard_all t last [] X B L room late = let k = over ms q pace x t X last.time L.0 in absurd (omega arith)
  heard_all t last ((u, e) ∷ more) X B L room late = by (stepped t X u L.0 room_now next e H) (λ Y. heard_all L.1.0 last more Y (still_between t u L.1.0 e B H) L.1.2 room late)
    where
      M : MayBe ms q pace t u
      M = L.0

      next : Timed
      next = L.1.0

      H : Handled ms q pace within t u next e
      H = handled ms q pace within t u B (all_up t X) L.1.0 e L.1.1

      time_is : next.time ≡ u
      time_is = time_of_next ms q pace (R ms q pace x) quick (at_time ms q pace u t) next e L.1.1

      room_now : ClocksGoOn q pace u
      room_now i qi = let k = room i qi in let a = time_is in let c = goes_on ms q pace (R ms q pace x) quick more next last L.1.2 in omega arith

      by : After u next → (IsAsked ms q pace x next → IsHeardBy ms q pace x next last more (x.won + 2 * pace.delay)) → IsHeardBy ms q pace x t last ((u, e) ∷ more) (x.won + 2 * pace.delay)
      by (inl Y) rest = (let W = rest Y in record {
        before = (u, e) ∷ W.before;
        after = W.after;
        parts = ap (λ (z : List (ℕ × Event)). (u, e) ∷ z) W.parts;
        reached = W.reached;
        run = (M, (next, L.1.1, W.run));
        rest = W.rest;
        by = W.by;
        version = W.version;
        heard = W.heard;
      })
      by (inr Y) rest = record {
        before = (u, e) ∷ [];
        after = more;
        parts = refl;
        reached = next;
        run = (M, (next, L.1.1, (here ms q pace next last more L.1.2, refl)));
        rest = L.1.2;
        by = (let k = over ms q pace x t X u M in let z = time_is in omega arith);
        version = Y.0;
        heard = elim Y.1 [
          | inl k ↦ inl k
          | inr k ↦ inr (k.0, subst (λ (at : ℕ). Settles ms q pace (R ms q pace x) (record { version = Y.0; value = x.value; won = x.won; found = record { value = k.0; at = at } }) next) (sym time_is) k.1)
        ];
      }
