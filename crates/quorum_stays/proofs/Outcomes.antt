-- What a monitor in a quorum does about clients' commands. It remembers and answers them, or it begins a value.
use Rattle.law_names.proofs.Runs.{Envelope, messages_of}
use Rattle.law_names.proofs.Table.{AllByRecursion, Asked, Body, Clients, Command, CommandRefused, Course, Entry, MOST_WAITING, Me, Message, Op, Origin, Phase, Readings, Reply, Request, Sent, Session, State, Waiting, answer_to, ask, asked_of, at_leader, at_peon, at_rest, begin, begin_made, begin_with, disarmed, end_of, epoch_of, has, has_queue, hear, hear_ack, hear_client, hear_forward, hear_propose, hear_route, is_alone, is_armed, is_empty, is_even, is_heard, is_leading, is_member, is_peon, is_standing, is_too_long, lease_of, may_propose, message_to, of_leader, propose, propose_due, propose_first, propose_next, quorum_of, react, read, readable, refusal, same_phase, service_last, service_of, shown, since, too_long, value, votes}
use Rattle.mon_bytes.specs.declared.command.Command.TheVariants as command
use Rattle.mon_msg.specs.declared.input.Input.TheVariants as input
use Rattle.mon_msg.specs.declared.paxos.LeaderStage.TheVariants as stage
use Rattle.mon_msg.specs.declared.plan.Origin.TheVariants as origin
use Rattle.mon_msg.specs.declared.plan.Sent.TheVariants as sent
use Rattle.mon_types.specs.declared.names.Which.TheVariants as which
use Rattle.mon_wire.specs.declared.body.Body.TheVariants as body
use Rattle.mon_wire.specs.declared.phase.Phase.TheVariants as phase
use Rattle.mon_wire.specs.declared.phase.Timer.TheVariants as timer
use Rattle.mon_wire.specs.declared.reply.Reply.TheVariants as reply
use Rattle.mon_wire.specs.declared.request.Request.TheVariants as request
use Rattle.quorum_stays.proofs.Taking.{taken_body, taken_from, taken_request, takes_seq}
use Rattle.quorum_stays.proofs.Timers.{Tidy, maybe_armed, maybe_propose, unchanged, without_propose}
use Rattle.quorum_stays.specs.Reading.{Reads}
use Rattle.quorum_stays.specs.Serving.{CarriesAnswer, IsAnswer, IsForward, is_busy, is_long, is_refused}
use Rattle.quorum_stays.specs.Steady.{IsOfClients, IsOfCommand, IsOfEarlier, IsOfElections}
use Rattle.quorum_timed.proofs.Armed.{Timers}
use Rattle.quorum_walk.proofs.Walk.{Then, by_test, done, where_fits}
use Rattle.std.proofs.Common.{Bool, Err, List, None, Ok, Option, Result, Some, [], ap, arith, cond, false, filter, inl, inr, length, map, nat_le, nat_lt, not, refl, slice_set, subst, suc, sym, true, ℕ, ◌&&◌, ◌++◌, ◌<◌, ◌==◌, ◌^◌, ◌||◌, ◌∙◌, ◌∷◌, ◌≡◌, ◌≤◌, ◌⊎◌}
use Rattle.std.proofs.lemmas.Bool.{and_parts, false≢true, leb-false, lt-ltb, not-false, not-true, or_right}

-- what is sent about a client's command, or to a client
abbrev pub ForAClient : Sent → Type 0
ForAClient (sent.Message to m) = IsOfClients m.body
ForAClient (sent.Reply to r) = Unit {0}

pub messages_for_clients : (out : List Sent) → AllByRecursion ForAClient out → AllByRecursion (λ (m : Envelope). IsOfClients m.message.body) (messages_of out)
messages_for_clients [] all = tt
messages_for_clients (sent.Message to m ∷ out) all = (all.0, messages_for_clients out all.1)
messages_for_clients (sent.Reply to r ∷ out) all = messages_for_clients out all.1

pub an_answer : (me : Me) (e : ℕ) (o : Origin) (r : Reply) → AllByRecursion ForAClient (answer_to me e o r ∷ [])
an_answer me e (origin.Session session) r = (tt, tt)
an_answer me e (origin.Forwarded rank seq) r = (tt, tt)

some_replies : (asked : List Asked) (r : Reply) → AllByRecursion ForAClient (map (λ (a : Asked). sent.Reply a.session r) asked)
some_replies [] r = tt
some_replies (a ∷ asked) r = (tt, some_replies asked r)

-- what is sent hands on no command
abbrev pub HandsOnNone : Sent → Type 0
HandsOnNone (sent.Message to m) = IsForward m.body → ⊥
HandsOnNone (sent.Reply to r) = Unit {0}

pub an_answer_hands_on_none : (me : Me) (e : ℕ) (o : Origin) (r : Reply) → AllByRecursion HandsOnNone (answer_to me e o r ∷ [])
an_answer_hands_on_none me e (origin.Session session) r = (tt, tt)
an_answer_hands_on_none me e (origin.Forwarded rank seq) r = ((λ k. k), tt)

pub replies_hand_on_none : (asked : List Asked) (r : Reply) → AllByRecursion HandsOnNone (map (λ (a : Asked). sent.Reply a.session r) asked)
replies_hand_on_none [] r = tt
replies_hand_on_none (a ∷ asked) r = (tt, replies_hand_on_none asked r)

-- what is sent to a peon about its command is an answer
abbrev pub RoutesAnswer : Sent → Type 0
RoutesAnswer (sent.Message to m) = CarriesAnswer m.body
RoutesAnswer (sent.Reply to r) = Unit {0}

pub an_answer_is_routed : (me : Me) (e : ℕ) (o : Origin) (r : Reply) → IsAnswer r → AllByRecursion RoutesAnswer (answer_to me e o r ∷ [])
an_answer_is_routed me e (origin.Session session) r k = (tt, tt)
an_answer_is_routed me e (origin.Forwarded rank seq) r k = (k, tt)

replies_route_none : (asked : List Asked) (r : Reply) → AllByRecursion RoutesAnswer (map (λ (a : Asked). sent.Reply a.session r) asked)
replies_route_none [] r = tt
replies_route_none (a ∷ asked) r = (tt, replies_route_none asked r)

-- no peon leads
leads_alone : (p : Phase) → is_leading p ≡ true → is_peon p ≡ false
leads_alone phase.Peon t = absurd cc
leads_alone other t = refl

none_waits : (xs : List Waiting) → not (not (is_empty xs)) ≡ true → xs ≡ []
none_waits [] t = refl
none_waits (x ∷ xs) t = absurd cc

-- a client asks for a command under this session
abbrev pub AsksAs : Session → Request → Session → Type 0
AsksAs session r z = (z ≡ session) × (Reads r → ⊥)

-- no client asks
abbrev pub NobodyAsks : Session → Type 0
NobodyAsks z = ⊥

abbrev pub BringsNone : ℕ → Reply → Type 0
BringsNone seq r = ⊥

-- the message is a ROUTE of the leader, and is heard
abbrev pub BringsRoute : Me → Readings → State → Message → Body → ℕ → Reply → Type 0
BringsRoute me w s m b seq r = (b ≡ body.Route seq r) × (is_heard me m ≡ true) × (of_leader m.from m.epoch (at_rest w s) ≡ true)

module _ (me : Me) (sh : List Entry) (now : ℕ) (w : Readings) (s : State) where
  abbrev pub holding : Clients → Timers → State
  holding clients timers = record s { clients = clients; timers = timers }

  -- if commands wait, their timer ends when it did before
  abbrev pub SameEnd : Clients → Timers → Type 0
  SameEnd clients timers = (clients.queue ≡ [] → ⊥) → end_of timer.Propose timers ≡ end_of timer.Propose s.timers

  -- a leader may propose a value
  abbrev pub may : Bool
  may = same_phase s.phase phase.Active && is_standing me now s

  -- What becomes of a leader's queue. `taken` says who asks the command that it takes.
  pub data Fate (taken : Option Origin) (clients : Clients) (timers : Timers) (out : List Sent) : Type 0 where
    Kept : taken ≡ None → clients.queue ≡ s.clients.queue → SameEnd clients timers → Fate taken clients timers out
    -- the timer fired, and nothing may be proposed
    Lapsed : taken ≡ None → clients.queue ≡ s.clients.queue → may ≡ false → Fate taken clients timers out
    Answered : (o : Origin) (r : Reply) → taken ≡ Some o → IsAnswer r → out ≡ answer_to me (epoch_of w) o r ∷ [] → clients.queue ≡ s.clients.queue → SameEnd clients timers → Fate taken clients timers out
    Queued : (one : Waiting) → taken ≡ Some one.origin → clients.queue ≡ s.clients.queue ++ one ∷ [] → length s.clients.queue < 64 → (may && not (not (is_empty s.clients.queue))) ≡ false
        → end_of timer.Propose timers ≡ end_of timer.Propose s.timers → Fate taken clients timers out
    -- the first one that waited is refused
    Refused : (one : Waiting) (r : Reply) → taken ≡ None → s.clients.queue ≡ one ∷ clients.queue → IsAnswer r → out ≡ answer_to me (epoch_of w) one.origin r ∷ [] → same_phase s.phase phase.Active ≡ true
        → timers ≡ maybe_armed (not (is_empty clients.queue)) now (disarmed timer.Propose s.timers) → Fate taken clients timers out

  -- whose command is begun
  pub data Start (taken : Option Origin) (from : Origin) (clients : Clients) : Type 0 where
    AtOnce : taken ≡ Some from → s.clients.queue ≡ [] → clients.queue ≡ [] → Start taken from clients
    Next : (one : Waiting) → taken ≡ None → s.clients.queue ≡ one ∷ clients.queue → one.origin ≡ from → Start taken from clients

  -- the numbers of the commands that a leader took from peons
  pub data Marks (taken : Option Origin) (clients : Clients) : Type 0 where
    Unmarked : clients.taken ≡ s.clients.taken → Marks taken clients
    Marked : (f seq : ℕ) → taken ≡ Some (origin.Forwarded f seq) → clients.taken ≡ slice_set s.clients.taken f seq → Marks taken clients

  -- What becomes of the sessions that wait at a peon. `Asks` says which session asks for a command, and `Brings` what a
  -- ROUTE brings.
  pub data Hand (Asks : Session → Type 0) (Brings : ℕ → Reply → Type 0) (clients : Clients) (out : List Sent) : Type 0 where
    Aside : ((session : Session) → Asks session → is_peon s.phase ≡ false) → ((seq : ℕ) (r : Reply) → Brings seq r → ⊥) → clients.sessions ≡ s.clients.sessions → clients.next_seq ≡ s.clients.next_seq → AllByRecursion HandsOnNone out → Hand Asks Brings clients out
    Replied : (session : Session) (r : Reply) → Asks session → IsAnswer r → clients.sessions ≡ s.clients.sessions → clients.next_seq ≡ s.clients.next_seq → out ≡ sent.Reply session r ∷ [] → Hand Asks Brings clients out
    Passed : (session : Session) (c : Command) → Asks session → clients.sessions ≡ s.clients.sessions ++ record { seq = s.clients.next_seq; session = session } ∷ [] → clients.next_seq ≡ suc s.clients.next_seq
        → out ≡ message_to me (epoch_of w) (body.Forward s.clients.next_seq c) s.peon.leader ∷ [] → Hand Asks Brings clients out
    Routed : (seq : ℕ) (r : Reply) → Brings seq r → clients.sessions ≡ filter (λ (a : Asked). not (a.seq == seq)) s.clients.sessions → clients.next_seq ≡ s.clients.next_seq
        → out ≡ map (λ (a : Asked). sent.Reply a.session r) (filter (λ (a : Asked). a.seq == seq) s.clients.sessions) → Hand Asks Brings clients out

  -- nothing is written, and all goes on as before
  pub record Quiet (taken : Option Origin) (Asks : Session → Type 0) (Brings : ℕ → Reply → Type 0) (y : Course) : Type 0 where
    pub unwritten : y.changes ≡ []
    pub clients : Clients
    pub timers : Timers
    pub state : y.state ≡ holding clients timers
    pub tidy : Tidy s.timers timers
    pub about : AllByRecursion ForAClient y.out
    pub fate : Fate taken clients timers y.out
    pub marks : Marks taken clients
    pub routes : AllByRecursion RoutesAnswer y.out
    pub hand : Hand Asks Brings clients y.out

  -- the leader begins the value of a command
  pub record Begins (taken : Option Origin) (y : Course) : Type 0 where
    pub active : same_phase s.phase phase.Active ≡ true
    pub clients : Clients
    pub timers : Timers
    pub tidy : Tidy s.timers timers
    pub proposed : List Op
    pub from : Origin
    pub start : Start taken from clients
    pub marks : Marks taken clients
    pub made : IsOfCommand proposed
    pub fits : suc w.last ≤ 2 ^ 62
    pub is : y ≡ begin_with me now stage.Updating (suc w.last) proposed (Some from) (at_rest w (holding clients timers))

  abbrev pub Outcome : Option Origin → (Session → Type 0) → (ℕ → Reply → Type 0) → Course → Type 0
  Outcome taken Asks Brings y = Quiet taken Asks Brings y ⊎ Begins taken y

  module _ (several : same_phase s.phase phase.Active ≡ true → is_alone me s.leader.quorum ≡ false) (taken : Option Origin) (Asks : Session → Type 0) (Brings : ℕ → Reply → Type 0) where
    abbrev held : Clients → Timers → Course
    held clients timers = at_rest w (holding clients timers)

    quiet : (clients : Clients) (timers : Timers) (out : List Sent) → Tidy s.timers timers → AllByRecursion ForAClient out → Fate taken clients timers out → Marks taken clients → AllByRecursion RoutesAnswer out → Hand Asks Brings clients out
        → Then (Outcome taken Asks Brings) (Ok (record { readings = w; changes = []; state = holding clients timers; out = out }))
    quiet clients timers out tidy about fate marks routes hand = done (inl (record { unwritten = refl; clients = clients; timers = timers; state = refl; tidy = tidy; about = about; fate = fate; marks = marks; routes = routes; hand = hand }))

    -- neither queue nor sessions change
    idle : (out : List Sent) → AllByRecursion ForAClient out → AllByRecursion HandsOnNone out → AllByRecursion RoutesAnswer out → taken ≡ None → ((session : Session) → Asks session → is_peon s.phase ≡ false) → ((seq : ℕ) (r : Reply) → Brings seq r → ⊥)
        → Then (Outcome taken Asks Brings) (Ok (record { readings = w; changes = []; state = s; out = out }))
    idle out about none routes nil apart other = quiet s.clients s.timers out (unchanged s.timers) about (Kept nil refl (λ _. refl)) (Unmarked refl) routes (Aside apart other refl refl none)

    module _ (c : Command) (o : Origin) (clients : Clients) (timers : Timers) (tidy : Tidy s.timers timers) (start : Start taken o clients) (marks : Marks taken clients) (apart : (session : Session) → Asks session → is_peon s.phase ≡ false) (other : (seq : ℕ) (r : Reply) → Brings seq r → ⊥) (sessions : clients.sessions ≡ s.clients.sessions) (seqs : clients.next_seq ≡ s.clients.next_seq)
        (refuses : (r : Reply) → IsAnswer r → Fate taken clients (maybe_armed (has_queue (held clients timers)) now timers) (answer_to me (epoch_of w) o r ∷ [])) where
      begins : (proposed : List Op) → IsOfCommand proposed → same_phase s.phase phase.Active ≡ true
          → Then (Outcome taken Asks Brings) (begin me now stage.Updating proposed (Some o) (held clients timers))
      unfolding begin
      begins proposed made active = where_fits (Outcome taken Asks Brings) which.Version (suc w.last) _ (λ fits.
          by_test (is_alone me s.leader.quorum) (λ t. absurd (false≢true (sym (several active) ∙ t)))
          (λ _. done (inr (record { active = active; clients = clients; timers = timers; tidy = tidy; proposed = proposed; from = o; start = start; marks = marks; made = made; fits = fits; is = refl }))))

      proposes : same_phase s.phase phase.Active ≡ true → Then (Outcome taken Asks Brings) (propose me now c o (held clients timers))
      unfolding propose
      proposes active = where_fits (Outcome taken Asks Brings) which.Version (suc (service_last w (service_of c))) (λ _. begin_made me now o (value w c (asked_of me o)) (held clients timers)) (λ _. by (value w c (asked_of me o)) refl)
        where
          by : (r : Result (List Op) CommandRefused) → value w c (asked_of me o) ≡ r → Then (Outcome taken Asks Brings) (begin_made me now o r (held clients timers))
          by (Ok proposed) is = begins proposed (record { readings = w; command = c; asked = asked_of me o; made = is }) active
          by (Err e) is = quiet clients (maybe_armed (has_queue (held clients timers)) now timers) _ (maybe_propose (has_queue (held clients timers)) now s.timers timers tidy) (an_answer me _ o _)
              (refuses (refusal e) (is_refused w c (asked_of me o) e is)) marks (an_answer_is_routed me _ o _ (is_refused w c (asked_of me o) e is)) (Aside apart other sessions seqs (an_answer_hands_on_none me _ o _))

    -- a command at the leader
    at_leader_does : (c : Command) (o : Origin) (clients : Clients) → taken ≡ Some o → Marks taken clients → ((session : Session) → Asks session → is_peon s.phase ≡ false) → ((seq : ℕ) (r : Reply) → Brings seq r → ⊥)
        → clients.queue ≡ s.clients.queue → clients.sessions ≡ s.clients.sessions → clients.next_seq ≡ s.clients.next_seq → Then (Outcome taken Asks Brings) (at_leader me now c o (held clients s.timers))
    at_leader_does c o clients took marks apart other queue sessions seqs =
        by_test (is_too_long c) (λ _. answers (too_long c) (is_long c)) (λ _.
        by_test (may_propose me now (held clients s.timers) && not (has_queue (held clients s.timers)))
        (λ t. goes t (none_waits clients.queue (and_parts (may_propose me now (held clients s.timers)) _ t).1)) (λ f.
        by_test (nat_le MOST_WAITING (length clients.queue)) (λ _. answers (reply.Busy MOST_WAITING) is_busy)
        (λ few. quiet _ s.timers [] (unchanged s.timers) tt
        (Queued (record { command = c; origin = o }) took (ap (λ (z : List Waiting). z ++ record { command = c; origin = o } ∷ []) queue) (fewer few)
        (subst (λ (z : List Waiting). (may && not (not (is_empty z))) ≡ false) queue f) refl) (marks_of marks) tt (Aside apart other sessions seqs tt))))
      where
        fewer : nat_le MOST_WAITING (length clients.queue) ≡ false → length s.clients.queue < 64
        fewer f = subst (λ (z : List Waiting). length z < 64) queue (leb-false MOST_WAITING (length clients.queue) f)

        marks_of : Marks taken clients → Marks taken (record clients { queue = clients.queue ++ record { command = c; origin = o } ∷ [] })
        marks_of (Unmarked is) = Unmarked is
        marks_of (Marked f seq is set) = Marked f seq is set

        answers : (r : Reply) → IsAnswer r → Then (Outcome taken Asks Brings) (Ok (record { readings = w; changes = []; state = holding clients s.timers; out = answer_to me (epoch_of w) o r ∷ [] }))
        answers r k = quiet clients s.timers _ (unchanged s.timers) (an_answer me _ o r) (Answered o r took k refl queue (λ _. refl)) marks (an_answer_is_routed me _ o r k) (Aside apart other sessions seqs (an_answer_hands_on_none me _ o r))

        goes : (may_propose me now (held clients s.timers) && not (has_queue (held clients s.timers))) ≡ true → clients.queue ≡ [] → Then (Outcome taken Asks Brings) (propose me now c o (held clients s.timers))
        goes t none = proposes c o clients s.timers (unchanged s.timers) (AtOnce took (sym queue ∙ none) none) marks apart other sessions seqs
            (λ r k. Answered o r took k refl queue (λ some. absurd (some none)))
            (and_parts (same_phase s.phase phase.Active) _ (and_parts (may_propose me now (held clients s.timers)) _ t).0).0

    -- ---- a client asks

    at_peon_does : (c : Command) (session : Session) → Asks session → taken ≡ None → ((seq : ℕ) (r : Reply) → Brings seq r → ⊥) → Then (Outcome taken Asks Brings) (at_peon me c session (at_rest w s))
    at_peon_does c session asks nil other =
        by_test (is_too_long c) (λ _. replied (too_long c) (is_long c)) (λ _.
        by_test (nat_le MOST_WAITING (length s.clients.sessions)) (λ _. replied (reply.Busy MOST_WAITING) is_busy) (λ _.
        where_fits (Outcome taken Asks Brings) which.Seq s.clients.next_seq _ (λ _. quiet _ s.timers _ (unchanged s.timers) (tt, tt) (Kept nil refl (λ _. refl)) (Unmarked refl) (tt, tt) (Passed session c asks refl refl refl))))
      where
        replied : (r : Reply) → IsAnswer r → Then (Outcome taken Asks Brings) (Ok (record { readings = w; changes = []; state = s; out = sent.Reply session r ∷ [] }))
        replied r k = quiet s.clients s.timers _ (unchanged s.timers) (tt, tt) (Kept nil refl (λ _. refl)) (Unmarked refl) (tt, tt) (Replied session r asks k refl refl refl)

    asks_command : (session : Session) (c : Command) → Asks session → (is_leading s.phase ≡ true → taken ≡ Some (origin.Session session)) → (is_leading s.phase ≡ false → taken ≡ None) → ((seq : ℕ) (r : Reply) → Brings seq r → ⊥)
        → Then (Outcome taken Asks Brings) (ask me now session c (at_rest w s))
    unfolding ask
    asks_command session c asks leads follows other =
        by_test (is_leading s.phase) (λ t. at_leader_does c (origin.Session session) s.clients (leads t) (Unmarked refl) (λ _ _. leads_alone s.phase t) other refl refl refl) (λ f.
        by_test (is_peon s.phase) (λ _. at_peon_does c session asks (follows f) other) (λ n. idle _ (tt, tt) (tt, tt) (tt, tt) (follows f) (λ _ _. n) other))

    reads : (session : Session) (reading : Readings → Reply) → taken ≡ None → ((session : Session) → Asks session → is_peon s.phase ≡ false) → ((seq : ℕ) (r : Reply) → Brings seq r → ⊥) → Then (Outcome taken Asks Brings) (read me now session reading (at_rest w s))
    reads session reading nil apart other =
        by_test (not (is_member s.phase)) (λ _. idle _ (tt, tt) (tt, tt) (tt, tt) nil apart other) (λ _.
        by_test (not (readable w.last me.member.monitors (lease_of s) now)) (λ _. idle _ (tt, tt) (tt, tt) (tt, tt) nil apart other)
        (λ _. idle _ (tt, tt) (tt, tt) (tt, tt) nil apart other))

    -- ---- a message about a client's command

    forward_comes : (m : Message) (seq : ℕ) (c : Command) → (takes_seq w s m seq ≡ true → taken ≡ Some (origin.Forwarded m.from seq)) → (takes_seq w s m seq ≡ false → taken ≡ None)
        → ((session : Session) → Asks session → is_peon s.phase ≡ false) → ((seq : ℕ) (r : Reply) → Brings seq r → ⊥) → Then (Outcome taken Asks Brings) (hear_forward me now m.from m.epoch seq c (at_rest w s))
    unfolding hear_forward
    forward_comes m seq c takes drops apart other =
        by_test (not (takes_seq w s m seq))
        (λ t. idle [] tt tt tt (drops (not-true (takes_seq w s m seq) t)) apart other)
        (λ f. at_leader_does c (origin.Forwarded m.from seq) _ (takes (not-false (takes_seq w s m seq) f)) (Marked m.from seq (takes (not-false (takes_seq w s m seq) f)) refl) apart other refl refl refl)

    route_comes : (f e seq : ℕ) (r : Reply) → taken ≡ None → ((session : Session) → Asks session → is_peon s.phase ≡ false) → (of_leader f e (at_rest w s) ≡ true → Brings seq r) → (of_leader f e (at_rest w s) ≡ false → (seq : ℕ) (r : Reply) → Brings seq r → ⊥)
        → Then (Outcome taken Asks Brings) (hear_route f e seq r (at_rest w s))
    unfolding hear_route
    route_comes f e seq r nil apart brings other =
        by_test (not (of_leader f e (at_rest w s))) (λ t. idle [] tt tt tt nil apart (other (not-true (of_leader f e (at_rest w s)) t)))
        (λ t. quiet _ s.timers _ (unchanged s.timers) (some_replies (filter (λ (a : Asked). a.seq == seq) s.clients.sessions) r) (Kept nil refl (λ _. refl)) (Unmarked refl)
        (replies_route_none (filter (λ (a : Asked). a.seq == seq) s.clients.sessions) r) (Routed seq r (brings (not-false (of_leader f e (at_rest w s)) t)) refl refl refl))

    -- ---- the timer of commands that wait

    due : taken ≡ None → ((session : Session) → Asks session → is_peon s.phase ≡ false) → ((seq : ℕ) (r : Reply) → Brings seq r → ⊥) → Then (Outcome taken Asks Brings) (propose_due me now (held s.clients (disarmed timer.Propose s.timers)))
    unfolding propose_due propose_next
    due nil apart other =
        by_test (may_propose me now (held s.clients (disarmed timer.Propose s.timers))) (λ t. first_goes s.clients.queue refl (and_parts (same_phase s.phase phase.Active) _ t).0)
        (λ f. quiet s.clients (disarmed timer.Propose s.timers) [] tidy tt (Lapsed nil refl f) (Unmarked refl) tt (Aside apart other refl refl tt))
      where
        tidy : Tidy s.timers (disarmed timer.Propose s.timers)
        tidy = without_propose s.timers s.timers (unchanged s.timers)

        first_goes : (queue : List Waiting) → s.clients.queue ≡ queue → same_phase s.phase phase.Active ≡ true → Then (Outcome taken Asks Brings) (propose_first me now queue (held s.clients (disarmed timer.Propose s.timers)))
        first_goes [] is active = quiet s.clients (disarmed timer.Propose s.timers) [] tidy tt (Kept nil refl (λ some. absurd (some is))) (Unmarked refl) tt (Aside apart other refl refl tt)
        first_goes (one ∷ more) is active = proposes one.command one.origin _ (disarmed timer.Propose s.timers) tidy (Next one nil is refl) (Unmarked refl) apart other refl refl
            (λ r k. Refused one r nil is k refl active refl) active

  module _ (several : same_phase s.phase phase.Active ≡ true → is_alone me s.leader.quorum ≡ false) where
    hears_client : (session : Session) (r : Request) → Then (Outcome (taken_request me w s session r) (AsksAs session r) BringsNone) (hear_client me now session r (at_rest w s))
    unfolding hear_client
    hears_client session (request.Set key value) = asks_command several _ _ _ session (command.Set key value) (refl, (λ k. k)) (λ t. rw t refl) (λ f. rw f refl) (λ _ _ k. k)
    hears_client session (request.Remove key) = asks_command several _ _ _ session (command.Remove key) (refl, (λ k. k)) (λ t. rw t refl) (λ f. rw f refl) (λ _ _ k. k)
    hears_client session (request.Log text) = asks_command several _ _ _ session (command.Log text) (refl, (λ k. k)) (λ t. rw t refl) (λ f. rw f refl) (λ _ _ k. k)
    hears_client session (request.Show v) = reads several None (AsksAs session (request.Show v)) BringsNone session (λ z. shown z v) refl (λ _ k. absurd (k.1 tt)) (λ _ _ k. k)
    hears_client session (request.Since v n) = reads several None (AsksAs session (request.Since v n)) BringsNone session (λ z. since z v n) refl (λ _ k. absurd (k.1 tt)) (λ _ _ k. k)

    no_route : (m : Message) (seq : ℕ) (c : Command) (z : ℕ) (r : Reply) → BringsRoute me w s m (body.Forward seq c) z r → ⊥
    no_route m seq c z r k = let e = k.0 in absurd cc

    hears : (m : Message) → is_heard me m ≡ true → (b : Body) → IsOfClients b → Then (Outcome (taken_body me w s m b) NobodyAsks (BringsRoute me w s m b)) (hear me sh now m.from m.epoch b (at_rest w s))
    hears m t (body.Forward seq c) k = forward_comes several _ NobodyAsks (BringsRoute me w s m (body.Forward seq c)) m seq c (λ t. rw t refl) (λ f. rw f refl) (λ _ k. absurd k) (no_route m seq c)
    hears m t (body.Route seq r) k = route_comes several None NobodyAsks (BringsRoute me w s m (body.Route seq r)) m.from m.epoch seq r refl (λ _ k. absurd k) (λ l. (refl, t, l)) (λ f z x k. false≢true (sym f ∙ k.2))
    hears m t other k = absurd k

    -- a message of an earlier election
    earlier : (m : Message) → has (quorum_of s) m.from ≡ true → m.epoch < epoch_of w → (b : Body) → IsOfElections b → Then (Outcome (taken_body me w s m b) NobodyAsks (BringsRoute me w s m b)) (hear me sh now m.from m.epoch b (at_rest w s))
    unfolding hear_propose hear_ack
    earlier m among before (body.Propose table) k =
        by_test (not (votes s.phase) || is_even m.epoch) (λ _. drops) (λ _.
        by_test (nat_lt m.epoch (epoch_of w))
        (λ _. by_test (is_even (epoch_of w) && not (has (quorum_of s) m.from)) (λ t. absurd (false≢true (sym (not-true (has (quorum_of s) m.from) (and_parts (is_even (epoch_of w)) _ t).1) ∙ among))) (λ _. drops))
        (λ f. absurd (false≢true (sym f ∙ lt-ltb m.epoch (epoch_of w) before))))
      where
        drops : Then (Outcome None NobodyAsks (BringsRoute me w s m (body.Propose table))) (Ok (at_rest w s))
        drops = idle several None NobodyAsks (BringsRoute me w s m (body.Propose table)) [] tt tt tt refl (λ _ x. absurd x) (λ z r x. (let e = x.0 in absurd cc))
    earlier m among before body.Ack k =
        by_test (not (votes s.phase) || is_even m.epoch || nat_lt m.epoch (epoch_of w)) (λ _. drops)
        (λ f. absurd (false≢true (sym f ∙ or_right (not (votes s.phase) || is_even m.epoch) (nat_lt m.epoch (epoch_of w)) (lt-ltb m.epoch (epoch_of w) before))))
      where
        drops : Then (Outcome None NobodyAsks (BringsRoute me w s m body.Ack)) (Ok (at_rest w s))
        drops = idle several None NobodyAsks (BringsRoute me w s m body.Ack) [] tt tt tt refl (λ _ x. absurd x) (λ z r x. (let e = x.0 in absurd cc))
    earlier m among before other k = absurd k

    -- ---- the rows

    module _ (up : same_phase s.phase phase.Booting ≡ false) where
      pub client_row : (session : Session) (r : Request) → Then (Outcome (taken_from me w s (input.Client session r)) (AsksAs session r) BringsNone) (react me sh now w s (input.Client session r))
      unfolding react
      client_row session r = rw up (hears_client session r)

      -- a message is heard as this says, or dropped
      message_row : (m : Message) → (is_heard me m ≡ true → Then (Outcome (taken_body me w s m m.body) NobodyAsks (BringsRoute me w s m m.body)) (hear me sh now m.from m.epoch m.body (at_rest w s)))
          → Then (Outcome (taken_from me w s (input.Deliver m)) NobodyAsks (BringsRoute me w s m m.body)) (react me sh now w s (input.Deliver m))
      unfolding react
      message_row m heard = rw up (by_test (is_heard me m) (λ t. subst (λ (z : Bool). Then (Outcome (cond z (taken_body me w s m m.body) None) NobodyAsks (BringsRoute me w s m m.body)) (hear me sh now m.from m.epoch m.body (at_rest w s))) (sym t) (heard t))
          (λ f. subst (λ (z : Bool). Then (Outcome (cond z (taken_body me w s m m.body) None) NobodyAsks (BringsRoute me w s m m.body)) (Ok (at_rest w s))) (sym f) (idle several None NobodyAsks (BringsRoute me w s m m.body) [] tt tt tt refl (λ _ k. absurd k) (λ z x k. false≢true (sym f ∙ k.1)))))

      -- a message of no round
      pub aside_row : (e f : ℕ) (m : Message) → epoch_of w ≡ e → has (quorum_of s) f ≡ true → IsOfClients m.body ⊎ IsOfEarlier e f m
          → Then (Outcome (taken_from me w s (input.Deliver m)) NobodyAsks (BringsRoute me w s m m.body)) (react me sh now w s (input.Deliver m))
      aside_row e f m epoch among (inl k) = message_row m (λ t. hears m t m.body k)
      aside_row e f m epoch among (inr k) = message_row m (λ _. earlier m (subst (λ (z : ℕ). has (quorum_of s) z ≡ true) (sym k.sender) among) (let a = k.before in omega arith) m.body k.elects)

      pub propose_row : Then (Outcome (taken_from me w s (input.Timer timer.Propose)) NobodyAsks BringsNone) (react me sh now w s (input.Timer timer.Propose))
      unfolding react
      propose_row = rw up (by_test (is_armed timer.Propose s.timers) (λ _. due several None NobodyAsks BringsNone refl (λ _ k. absurd k) (λ _ _ k. k)) (λ _. idle several None NobodyAsks BringsNone [] tt tt tt refl (λ _ k. absurd k) (λ _ _ k. k)))
