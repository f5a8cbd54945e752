-- No event replies to a session more often than its monitor has requests of it.
use Rattle.law_names.proofs.Table.{AllByRecursion, Asked, Body, Course, Entry, Input, Me, Origin, Readings, Reply, Sent, Session, State, answers_to, begin_with, epoch_of, full_sync, members, message_to, react, value}
use Rattle.mon_msg.specs.declared.input.Input.TheVariants as input
use Rattle.mon_msg.specs.declared.plan.Origin.TheVariants as origin
use Rattle.mon_msg.specs.declared.plan.Sent.TheVariants as sent
use Rattle.mon_wire.specs.declared.body.Body.TheVariants as body
use Rattle.mon_wire.specs.declared.reply.Reply.TheVariants as reply
use Rattle.mon_wire.specs.declared.request.Request.TheVariants as request
use Rattle.quorum_replies.proofs.Spending.{held, of_any, of_session, queued, queued_append, replies, replies_append, spent, split, waiting_append}
use Rattle.std.proofs.Common.{List, None, Option, Some, [], ap, arith, eqb, filter, map, refl, suc, ℕ, ◌+◌, ◌∷◌, ◌≡◌, ◌≤◌}
use Rattle.table_walk.proofs.Acts.{acts_of}
use Rattle.table_walk.proofs.Steps.{ActSteps, InHand, IsOwn, MaySay, MayTell, Steps, brought, origin_of}
use Rattle.table_walk.proofs.Table.{walked}
use Rattle.table_walk.proofs.Walk.{Then}

-- what a client asks now
abbrev pub asks_now : Session → Input → ℕ
asks_now t (input.Client u r) = of_session t u
asks_now t other = 0

asked_now : (t : Session) (c : Input) → of_any t (origin_of (brought c)) ≡ asks_now t c
asked_now t (input.Client u (request.Set key value)) = refl
asked_now t (input.Client u (request.Remove key)) = refl
asked_now t (input.Client u (request.Log text)) = refl
asked_now t (input.Client u (request.Show v)) = refl
asked_now t (input.Client u (request.Since v n)) = refl
asked_now t input.Start = refl
asked_now t (input.Deliver m) = refl
asked_now t (input.Timer z) = refl

-- ---- each step

module _ (me : Me) (now : ℕ) (shared : List Entry) (t : Session) (w : Readings) (s : State) (came : Input) where
  -- what is held before the event, and what the event's client asks
  abbrev most : ℕ
  most = held t s + asks_now t came

  -- what is replied and held so far, with what is in hand
  abbrev Fits : InHand → Course → Type 0
  Fits h x = spent t x + of_any t (origin_of h) ≤ most

  abbrev Spends : Course → Type 0
  Spends x = spent t x ≤ most

  unsaid : (May : Body → Type 0) (x : Course) (xs : List Sent) → AllByRecursion (IsOwn me x May) xs → replies t xs ≡ 0
  unsaid May x [] k = refl
  unsaid May x (sent.Reply u r ∷ xs) k = absurd k.0
  unsaid May x (sent.Message to m ∷ xs) k = unsaid May x xs k.1

  messages : (e : ℕ) (m : Body) (tos : List ℕ) → replies t (map (message_to me e m) tos) ≡ 0
  messages e m [] = refl
  messages e m (to ∷ tos) = messages e m tos

  answered : (e : ℕ) (o : Option Origin) (r : Reply) → replies t (answers_to me e o r) ≡ of_any t o
  answered e None r = refl
  answered e (Some (origin.Session u)) r = omega arith
  answered e (Some (origin.Forwarded f seq)) r = refl

  spending : Steps me now shared w s came Fits Spends
  unfolding full_sync
  spending = record {
    before = λ no. let e = asked_now t came in omega arith;
    after = λ A. omega arith;
    marks = λ f C why A. omega arith;
    answers_probe = λ f e A. omega arith;
    votes = λ {x = x} f e pn v value C k A. omega (arith, replies_append t x.out (message_to me (epoch_of x.readings) (body.Accept pn v) f ∷ []));
    writes = λ c k A. A;
    replays = λ left v end values t z e A. A;
    copies = λ v values entries t k A. A;
    sends = λ {x = x} sends k A. omega (arith, replies_append t x.out sends, unsaid (MaySay me shared x) x sends k);
    timers = λ ts A. A;
    elector = λ e A. A;
    prober = λ p A. A;
    peon = λ p k A. A;
    provider = λ p A. A;
    requester = λ q k A. A;
    leader = λ l A. A;
    finds = λ l k A. A;
    takes_queued = λ q qs e is due A. let n = ap (queued t) e in omega arith;
    takes_forwarded = λ f e seq c C new A. A;
    makes_value = λ c o ops short e active A. A;
    queues = λ {x = x} c o short A. omega (arith, queued_append t x.state.clients.queue (record { command = c; origin = o } ∷ []));
    forwards = λ {x = x} c u peon short fits A. omega (arith, replies_append t x.out (message_to me (epoch_of x.readings) (body.Forward x.state.clients.next_seq c) x.state.peon.leader ∷ []), waiting_append t x.state.clients.sessions (record { seq = x.state.clients.next_seq; session = u } ∷ []));
    routes = λ f e seq r C k A. omega (arith, split t seq r s.clients.sessions, replies_append t [] (map (λ (a : Asked). sent.Reply a.session r) (filter (λ (a : Asked). eqb a.seq seq) s.clients.sessions)));
    answers = λ {x = x} h r k A. let o = origin_of h in omega (arith, replies_append t x.out (answers_to me (epoch_of x.readings) o r), answered (epoch_of x.readings) o r);
  }

  spending_within : ActSteps me now shared w s came Fits Spends
  unfolding begin_with
  spending_within = record {
    boots = λ is boots short. omega arith;
    raises = λ c k A. A;
    learns = λ v value values k short A. A;
    proposes = λ {x = x} z value o short leads A. let sends = map (message_to me (epoch_of x.readings) (body.Begin x.state.leader.pn (suc x.readings.last) value)) (members me x.state.leader.quorum) in
        omega (arith, replies_append t x.out sends, messages (epoch_of x.readings) (body.Begin x.state.leader.pn (suc x.readings.last) value) (members me x.state.leader.quorum));
    tells = λ {h = h} {x = x} sends k A. omega (arith, replies_append t x.out sends, unsaid (MayTell me h x) x sends k);
    leads = λ l A. A;
    enters = λ p k A. A;
    collects = λ q pn short A. omega arith;
    forgets = λ k A. omega arith;
    takes_found = λ how A. A;
    takes_value = λ value C e A. omega arith;
    proposes_found = λ found A. A;
    drops_found = λ found A. A;
    acknowledges = λ {x = x} v value o A. omega (arith, replies_append t x.out (answers_to me (epoch_of x.readings) o (reply.Done v)), answered (epoch_of x.readings) o (reply.Done v));
  }

-- what is replied and held after an event was held or asked before it
pub spends : (me : Me) (now : ℕ) (t : Session) (w : Readings) (s : State) (shared : List Entry) (c : Input) → Then (λ y. spent t y ≤ held t s + asks_now t c) (react me shared now w s c)
spends me now t w s shared c = walked (spending me now shared t w s c) (acts_of (spending me now shared t w s c) (spending_within me now shared t w s c))
