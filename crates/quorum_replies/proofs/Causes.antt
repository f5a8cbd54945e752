-- Each event replies that it doesn't serve only for a cause, or hands on a ROUTE.
use Rattle.law_names.proofs.Table.{AllByRecursion, Asked, Body, Command, CommandRefused, Course, Entry, Input, Me, Message, Op, Origin, Readings, Reply, Sent, Service, Session, ShownMap, State, Vote, answer_to, answers_to, asked_of, at_rest, begin_with, cancel, change, changes_after, clients_are, epoch_of, full_sync, insert, kept_from, made, members, message_to, queue_up, react, read_map, refusal, send, service_first, service_last, service_of, shown, since, value, value_if_made, wait_under, ◌▸◌}
use Rattle.map_kv.specs.Text as kv_text
use Rattle.map_kv.specs.declared.inc.KvInc.TheVariants as inc
use Rattle.mon_bytes.specs.declared.command.Command.TheVariants as command
use Rattle.mon_bytes.specs.declared.command.CommandRefused.TheVariants as refused_as
use Rattle.mon_msg.specs.Protocol.Value.{made_kv, made_log}
use Rattle.mon_msg.specs.declared.input.Input.TheVariants as input
use Rattle.mon_msg.specs.declared.plan.Origin.TheVariants as origin
use Rattle.mon_msg.specs.declared.plan.Sent.TheVariants as sent
use Rattle.mon_wire.specs.declared.body.Body.TheVariants as body
use Rattle.mon_wire.specs.declared.reply.Reply.TheVariants as reply
use Rattle.mon_wire.specs.declared.reply.ShownMap.TheVariants as map
use Rattle.quorum_replies.specs.Causes.{HasCause, HasCauseToRoute}
use Rattle.quorum_replies.specs.Kinds.{IsServing, kind_of}
use Rattle.quorum_walk.proofs.Lists.{all_append, all_map, all_of}
use Rattle.std.proofs.Common.{Bool, Err, List, None, Ok, Option, Result, Some, [], cond, eqb, false, filter, inl, inr, leb, length, ltb, map, not, refl, subst, suc, true, ℕ, ◌++◌, ◌-◌, ◌∷◌, ◌≡◌, ◌⊎◌}
use Rattle.std.proofs.lemmas.Bool.{cond_both}
use Rattle.std.specs.FinMap.{contains_key}
use Rattle.table_walk.proofs.Acts.{acts_of}
use Rattle.table_walk.proofs.Steps.{ActSteps, CommandOf, FoundOf, InHand, IsOwn, MayAnswer, MaySay, MaySend, MayTell, Nothing, ReadOf, Steps, ValueOf, busy_queue, busy_sessions, not_readable, origin_of, refused, shows_map, shows_since, too_much, unread, unserved}
use Rattle.table_walk.proofs.Table.{walked}
use Rattle.table_walk.proofs.Walk.{Then}

-- ---- out of memory is no cause of a refusal

abbrev IsOfService : {A : Type 0} → Result A CommandRefused → Type 0
IsOfService (Ok x) = Unit {0}
IsOfService (Err refused_as.OutOfMemory) = ⊥
IsOfService (Err other) = Unit {0}

of_service : (m : ShownMap) (asked : ℕ) (c : Command) → IsOfService (made m asked c)
of_service (map.Kv m) asked (command.Set k v) = by (ltb 65536 (length v)) (ltb 393216 (length (kv_text.map_text (insert m k v))))
  where
    by : (a b : Bool) → IsOfService (made_kv m (cond a (Err (refused_as.TooLong (length v) 65536)) (cond b (Err (refused_as.MapFull (length (kv_text.map_text (insert m k v))))) (Ok (inc.Set k v)))))
    by true b = tt
    by false true = tt
    by false false = tt
of_service (map.Kv m) asked (command.Remove k) = by (contains_key m k)
  where
    by : (b : Bool) → IsOfService (made_kv m (cond b (Ok (inc.Remove k)) (Err refused_as.NoSuch)))
    by true = tt
    by false = tt
of_service (map.Kv m) asked (command.Log t) = tt
of_service (map.Log es) asked (command.Set k v) = tt
of_service (map.Log es) asked (command.Remove k) = tt
of_service (map.Log es) asked (command.Log t) = by (ltb 1024 (length t))
  where
    by : (b : Bool) → IsOfService (made_log es (cond b (Err (refused_as.TooLong (length t) 1024)) (Ok (record { rank = asked; text = t }))))
    by true = tt
    by false = tt

no_memory : (w : Readings) (c : Command) (asked : ℕ) → value w c asked ≡ Err refused_as.OutOfMemory → ⊥
unfolding value
no_memory w c asked h = by (made (read_map w (service_of c)) asked c) (of_service (read_map w (service_of c)) asked c) h
  where
    by : (r : Result (List ℕ × ShownMap) CommandRefused) → IsOfService r → ◌≡◌ {A = Result (List Op) CommandRefused} (value_if_made w (service_of c) r) (Err refused_as.OutOfMemory) → ⊥
    by (Ok p) k q = absurd cc
    by (Err f) k q = let same : f ≡ refused_as.OutOfMemory = cc in subst (λ (e : CommandRefused). IsOfService {A = List ℕ × ShownMap} (Err e)) same k

-- ---- what says nothing of the kind

abbrev Serves : Reply → Type 0
Serves r = IsServing (kind_of r)

abbrev ServesBody : Body → Type 0
ServesBody (body.Route seq r) = Serves r
ServesBody other = Unit {0}

abbrev ServesSent : Sent → Type 0
ServesSent (sent.Message to m) = ServesBody m.body
ServesSent (sent.Reply t r) = Serves r

-- ---- causes

-- the input is a ROUTE with this reply
pub record IsRouted (came : Input) (r : Reply) : Type 0 where
  pub message : Message
  pub is : came ≡ input.Deliver message
  pub seq : ℕ
  pub says : message.body ≡ body.Route seq r

abbrev pub RoutesForCause : State → Body → Type 0
RoutesForCause s (body.Route seq r) = HasCauseToRoute s r
RoutesForCause s other = Unit {0}

-- what is sent has its cause in what the monitor then keeps and remembers
abbrev pub IsForCause : (n now : ℕ) → Input → Readings → State → Sent → Type 0
IsForCause n now came w s (sent.Message to m) = RoutesForCause s m.body
IsForCause n now came w s (sent.Reply t r) = HasCause n now w s r ⊎ IsRouted came r

serves_caused : (n now : ℕ) (w : Readings) (s : State) (r : Reply) → Serves r → HasCause n now w s r
serves_caused n now w s reply.Unavailable k = absurd k
serves_caused n now w s (reply.NotReadable has lease) k = absurd k
serves_caused n now w s (reply.Busy waiting) k = absurd k
serves_caused n now w s other k = k

serves_routed : (s : State) (r : Reply) → Serves r → HasCauseToRoute s r
serves_routed s (reply.Busy waiting) k = absurd k
serves_routed s other k = k

refusal_serves : (e : CommandRefused) → (e ≡ refused_as.OutOfMemory → ⊥) → Serves (refusal e)
refusal_serves refused_as.NoSuch k = tt
refusal_serves (refused_as.TooLong len most) k = tt
refusal_serves (refused_as.MapFull would_be) k = tt
refusal_serves refused_as.OutOfMemory k = absurd (k refl)

-- ---- each step

module _ (me : Me) (now : ℕ) (shared : List Entry) (w : Readings) (s : State) (came : Input) where
  -- so far nothing of the kind is said
  abbrev Silent : InHand → Course → Type 0
  Silent h x = AllByRecursion ServesSent x.out

  abbrev pub Caused : Course → Type 0
  Caused y = AllByRecursion (IsForCause me.member.monitors now came y.readings y.state) y.out

  serves_body : (z : State) (b : Body) → ServesBody b → RoutesForCause z b
  serves_body z (body.Route seq r) k = serves_routed z r k
  serves_body z other k = tt

  serves_sent : (r : Readings) (z : State) (x : Sent) → ServesSent x → IsForCause me.member.monitors now came r z x
  serves_sent r z (sent.Message to m) k = serves_body z m.body k
  serves_sent r z (sent.Reply t y) k = inl (serves_caused me.member.monitors now r z y k)

  all_serve : (r : Readings) (z : State) (out : List Sent) → AllByRecursion ServesSent out → AllByRecursion (IsForCause me.member.monitors now came r z) out
  all_serve r z out k = all_map ServesSent (IsForCause me.member.monitors now came r z) (serves_sent r z) out k

  -- a course that said nothing of the kind
  ends : (y : Course) → AllByRecursion ServesSent y.out → Caused y
  ends y A = all_serve y.readings y.state y.out A

  said_body : (x : Course) (b : Body) → MaySay me shared x b → ServesBody b
  said_body x (body.Route seq r) k = absurd k
  said_body x other k = tt

  told_body : (h : InHand) (x : Course) (b : Body) → MayTell me h x b → ServesBody b
  told_body h x (body.Route seq r) k = absurd k
  told_body h x other k = tt

  said : (May : Body → Type 0) → ((b : Body) → May b → ServesBody b) → (x : Course) (m : Sent) → IsOwn me x May m → ServesSent m
  said May serves x (sent.Message to m) k = serves m.body k.2
  said May serves x (sent.Reply to r) k = absurd k

  one_served : (e : ℕ) (r : Readings) (z : State) (o : Origin) (y : Reply) → Serves y → IsForCause me.member.monitors now came r z (answer_to me e o y)
  one_served e r z (origin.Session u) y k = inl (serves_caused me.member.monitors now r z y k)
  one_served e r z (origin.Forwarded f seq) y k = serves_routed z y k

  -- an answer to what is in hand
  answered : (e : ℕ) (x : Course) (h : InHand) (r : Reply) → MayAnswer me now w s x h r → AllByRecursion (IsForCause me.member.monitors now came x.readings x.state) (answers_to me e (origin_of h) r)
  unfolding since
  answered e x (CommandOf c (origin.Session u)) r (unserved out) = (inl out, tt)
  answered e x (ReadOf u q) r (unread out) = (inl out, tt)
  answered e x (CommandOf c o) r (too_much long) = (one_served e x.readings x.state o r tt, tt)
  answered e x (CommandOf c (origin.Session u)) r (busy_queue leads full) = (inl (refl, inl (leads, full)), tt)
  answered e x (CommandOf c (origin.Forwarded f seq)) r (busy_queue leads full) = ((refl, (leads, full)), tt)
  answered e x (CommandOf c (origin.Session u)) r (busy_sessions peon full) = (inl (refl, inr (peon, full)), tt)
  answered e x (CommandOf c o) r (refused why active short is) = (one_served e x.readings x.state o r (refusal_serves why (λ z. no_memory x.readings c (asked_of me o) (subst (λ (q : CommandRefused). value x.readings c (asked_of me o) ≡ Err q) z is))), tt)
  answered e x (ReadOf u q) r (not_readable member out) = (inl (member, refl, refl, out), tt)
  answered e x (ReadOf u q) r (shows_map v first member may) = (inl tt, tt)
  answered e x (ReadOf u q) r (shows_since v n first member may) = (cond_both (leb (service_first x.readings v) (suc n)) (changes_after x.readings v n (kept_from x.readings v (service_last x.readings v - n) (suc n))) (shown x.readings v) (λ y. IsForCause me.member.monitors now came x.readings x.state (sent.Reply u y)) (λ t. inl tt) (λ t. inl tt), tt)
  answered e x Nothing r k = elim k [ ]
  answered e x (FoundOf found) r k = elim k [ ]
  answered e x (ValueOf ops o) r k = elim k [ ]

  -- a version is acknowledged
  done_served : (e : ℕ) (r : Readings) (z : State) (o : Option Origin) (v : ℕ) → AllByRecursion (IsForCause me.member.monitors now came r z) (answers_to me e o (reply.Done v))
  done_served e r z None v = tt
  done_served e r z (Some o) v = (one_served e r z o (reply.Done v) tt, tt)

  causes : Steps me now shared w s came Silent Caused
  unfolding full_sync
  causes = record {
    before = λ no. tt;
    after = λ {x = x} A. ends x A;
    marks = λ f C why A. (tt, tt);
    answers_probe = λ f e A. (tt, tt);
    votes = λ {x = x} f e pn v value C k A. ends (x ▸ change (Vote v pn value) ▸ cancel ▸ send me f (body.Accept pn v)) (all_append ServesSent x.out (message_to me (epoch_of x.readings) (body.Accept pn v) f ∷ []) A (tt, tt));
    writes = λ c k A. A;
    replays = λ left v end values t z e A. A;
    copies = λ v values entries t k A. A;
    sends = λ {x = x} sends k A. all_append ServesSent x.out sends A (all_map (MaySend me shared x) ServesSent (said (MaySay me shared x) (said_body x) x) sends k);
    timers = λ ts A. A;
    elector = λ e A. A;
    prober = λ p A. A;
    peon = λ p k A. A;
    provider = λ p A. A;
    requester = λ q k A. A;
    leader = λ l A. A;
    finds = λ l k A. A;
    takes_queued = λ q qs e is due A. A;
    takes_forwarded = λ f e seq c C new A. A;
    makes_value = λ c o ops short e active A. A;
    queues = λ {x = x} c o short A. ends (queue_up c o x) A;
    forwards = λ {x = x} c u peon short fits A. ends (x ▸ wait_under x.state.clients.next_seq u ▸ send me x.state.peon.leader (body.Forward x.state.clients.next_seq c)) (all_append ServesSent x.out (message_to me (epoch_of x.readings) (body.Forward x.state.clients.next_seq c) x.state.peon.leader ∷ []) A (tt, tt));
    routes = λ f e seq r C k A. all_of (IsForCause me.member.monitors now came w (clients_are (record s.clients { sessions = filter (λ (a : Asked). not (eqb a.seq seq)) s.clients.sessions }) (at_rest w s)).state) (λ (a : Asked). sent.Reply a.session r) (λ a. inr (record { message = C.message; is = C.is; seq = seq; says = C.says })) (filter (λ (a : Asked). eqb a.seq seq) s.clients.sessions);
    answers = λ {x = x} h r k A. all_append (IsForCause me.member.monitors now came x.readings x.state) x.out (answers_to me (epoch_of x.readings) (origin_of h) r) (all_serve x.readings x.state x.out A) (answered (epoch_of x.readings) x h r k);
  }

  causes_within : ActSteps me now shared w s came Silent Caused
  unfolding begin_with
  causes_within = record {
    boots = λ is boots short. tt;
    raises = λ c k A. A;
    learns = λ v value values k short A. A;
    proposes = λ {x = x} z value o short leads A. ends (begin_with me now z (suc x.readings.last) value o x) (all_append ServesSent x.out _ A (all_of ServesSent (message_to me (epoch_of x.readings) (body.Begin x.state.leader.pn (suc x.readings.last) value)) (λ to. tt) (members me x.state.leader.quorum)));
    tells = λ {h = h} {x = x} sends k A. all_append ServesSent x.out sends A (all_map (IsOwn me x (MayTell me h x)) ServesSent (said (MayTell me h x) (told_body h x) x) sends k);
    leads = λ l A. A;
    enters = λ p k A. A;
    collects = λ q pn short A. A;
    forgets = λ k A. A;
    takes_found = λ how A. A;
    takes_value = λ value C e A. A;
    proposes_found = λ found A. A;
    drops_found = λ found A. A;
    acknowledges = λ {x = x} v value o A. all_append (IsForCause me.member.monitors now came x.readings x.state) x.out (answers_to me (epoch_of x.readings) o (reply.Done v)) (all_serve x.readings x.state x.out A) (done_served (epoch_of x.readings) x.readings x.state o v);
  }

  -- whatever comes
  pub says_for_cause : Then Caused (react me shared now w s came)
  says_for_cause = walked causes (acts_of causes causes_within)
