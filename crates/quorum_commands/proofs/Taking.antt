-- What a monitor does with a command that arrives at it, or that waits there: it is refused, waits, becomes the next version's
-- value, or is forwarded. Each is done once.
use Rattle.law_names.proofs.Table.{Body, Command, CommandRefused, Course, Entry, Input, Last, Learn, MOST_WAITING, Me, Message, Op, Origin, Phase, Readings, Reply, Request, Sent, Session, State, Timer, Vote, Waiting, Which, answer_any, answer_to, ask, asked_of, at_leader, at_peon, at_rest, begin, begin_alone, begin_made, begin_with, disarm, end_of, epoch_of, has, has_queue, hear, hear_client, hear_forward, is_alone, is_heard, is_leading, is_member, is_one_of, is_peon, is_standing, is_too_long, leads_in, learn, lease_of, may_propose, members, message_to, of_member, propose, propose_due, propose_first, propose_next, react, read, readable, refusal, same_phase, service_last, service_of, shown, since, timer_comes, too_long, value, ◌▸◌}
use Rattle.mon_bytes.specs.declared.command.Command.TheVariants as command
use Rattle.mon_msg.specs.declared.input.Input.TheVariants as input
use Rattle.mon_msg.specs.declared.paxos.LeaderStage.TheVariants as stage
use Rattle.mon_msg.specs.declared.plan.Origin.TheVariants as origin
use Rattle.mon_msg.specs.declared.plan.Sent.TheVariants as sent
use Rattle.mon_types.specs.declared.names.Which.TheVariants as which
use Rattle.mon_wire.specs.declared.body.Body.TheVariants as body
use Rattle.mon_wire.specs.declared.phase.Phase.TheVariants as phase
use Rattle.mon_wire.specs.declared.phase.Timer.TheVariants as timer
use Rattle.mon_wire.specs.declared.reply.Reply.TheVariants as reply
use Rattle.mon_wire.specs.declared.request.Request.TheVariants as request
use Rattle.quorum_agreement.proofs.Accepting.{then_map}
use Rattle.quorum_agreement.proofs.Lone.{active_is}
use Rattle.quorum_commands.proofs.Idle.{BodyReturns, Heard, Idle, Returns, idles, says}
use Rattle.quorum_commands.proofs.Sends.{AllFair, IsFair, Nobody}
use Rattle.quorum_history.proofs.Phases.{any_leads, no}
use Rattle.quorum_history.proofs.Rows.{body_brings, brings, timer_brings}
use Rattle.std.proofs.Common.{Bool, Err, List, Ok, Option, Result, Some, [], ap, eqb, false, inl, inr, is_some, leb, length, ltb, not, refl, slice_index_or, slice_set, subst, suc, sym, true, ℕ, ◌&&◌, ◌++◌, ◌<◌, ◌∙◌, ◌∷◌, ◌≡◌, ◌⊎◌}
use Rattle.std.proofs.lemmas.Bool.{and_parts, eqb-false, eqb-true, not-false, not-true}
use Rattle.table_walk.proofs.Learning.{LearnedOne, learns_one}
use Rattle.table_walk.proofs.Lists.{all_of}
use Rattle.table_walk.proofs.Walk.{Then, and_then, and_three, by_test, done, where_fits}

-- ---- what becomes of it

-- Source says where a command and its origin come from, with those that wait besides and those that were taken of peons;
-- Asks that a session asked it just now; and Settled that a session may be given any reply.
module _ (me : Me) (now : ℕ) (w : Readings) (s : State) (Source : Command → Origin → List Waiting → List ℕ → Type 0) (Asks : Session → Command → Type 0) (Settled : Session → Type 0) where
  pub record WritesNone (y : Course) : Type 0 where
    pub changes : y.changes ≡ []
    pub readings : y.readings ≡ w

  abbrev pub Proposes : List Op → Course → Type 0
  Proposes ops y = (pn : ℕ) × (y.changes ≡ Vote (suc w.last) pn ops ∷ []) × (y.readings.last ≡ w.last)

  abbrev pub Commits : List Op → Course → Type 0
  Commits ops y = (y.changes ≡ Learn (suc w.last) ops ∷ Last (suc w.last) ∷ []) × (y.readings.last ≡ suc w.last)

  -- it becomes the value of the next version, which the leader proposes, or commits at once
  pub record Begins (c : Command) (o : Origin) (y : Course) : Type 0 where
    pub ops : List Op
    pub made : value w c (asked_of me o) ≡ Ok ops
    pub how : Proposes ops y ⊎ Commits ops y

  -- it is refused, it waits after the others, or it begins
  pub record IsRefused (o : Origin) (others : List Waiting) (y : Course) : Type 0 where
    pub queue : y.state.clients.queue ≡ others
    pub writes : WritesNone y
    pub reply : Reply
    pub out : y.out ≡ answer_to me (epoch_of w) o reply ∷ []

  pub record IsQueued (c : Command) (o : Origin) (others : List Waiting) (y : Course) : Type 0 where
    pub queue : y.state.clients.queue ≡ others ++ record { command = c; origin = o } ∷ []
    pub writes : WritesNone y
    pub out : AllFair Nobody y.out

  pub record HasBegun (c : Command) (o : Origin) (others : List Waiting) (y : Course) : Type 0 where
    pub queue : y.state.clients.queue ≡ others
    pub begins : Begins c o y
    pub out : AllFair Nobody y.out

  abbrev pub Becomes : Command → Origin → List Waiting → Course → Type 0
  Becomes c o others y = IsRefused o others y ⊎ (IsQueued c o others y ⊎ HasBegun c o others y)

  pub record Takes (y : Course) : Type 0 where
    pub command : Command
    pub origin : Origin
    pub others : List Waiting
    pub taken : List ℕ
    pub source : Source command origin others taken
    pub leads : is_leading s.phase ≡ true
    pub counts : y.state.clients.taken ≡ taken
    pub becomes : Becomes command origin others y

  -- a peon hands it on
  pub record Hands (y : Course) : Type 0 where
    pub session : Session
    pub command : Command
    pub asked : Asks session command
    pub peon : is_peon s.phase ≡ true
    pub still : y.state.phase ≡ s.phase
    pub seq : ℕ
    pub out : y.out ≡ message_to me (epoch_of w) (body.Forward seq command) s.peon.leader ∷ []
    pub queue : y.state.clients.queue ≡ s.clients.queue
    pub taken : y.state.clients.taken ≡ s.clients.taken
    pub writes : WritesNone y

  -- or it takes none
  pub record TakesNone (came : Input) (y : Course) : Type 0 where
    pub idle : Idle me now w s Settled y
    pub stays : brings came ≡ true → y.changes ≡ []

  abbrev pub Outcome : Input → Course → Type 0
  Outcome came y = TakesNone came y ⊎ (Takes y ⊎ Hands y)

  -- ---- a leader

  abbrev x0 : Course
  x0 = at_rest w s

  done_other : (e v : ℕ) (o : Origin) → AllFair Nobody (answer_to me e o (reply.Done v) ∷ [])
  done_other e v (origin.Session t) = ((λ u. u), tt)
  done_other e v (origin.Forwarded f seq) = ((λ u. u), tt)

  -- what it remembers but for its clients is what it was
  module _ (c : Command) (o : Origin) (z : State) (F : Source c o z.clients.queue z.clients.taken) (leads : is_leading s.phase ≡ true) where
    proposes : same_phase z.phase phase.Active ≡ true → Then Takes (propose me now c o (at_rest w z))
    unfolding propose begin begin_alone begin_with
    proposes lead = where_fits Takes which.Version (suc (service_last w (service_of c))) _ (λ _. by (value w c (asked_of me o)) refl)
      where
        at_once : (ops : List Op) → value w c (asked_of me o) ≡ Ok ops → (y : Course) → LearnedOne (suc w.last) ops (at_rest w z) y → Takes (y ▸ leads_in stage.Active ▸ answer_any me (Some o) (reply.Done (suc w.last)))
        at_once ops e y K = record {
          command = c;
          origin = o;
          others = z.clients.queue;
          taken = z.clients.taken;
          source = F;
          leads = leads;
          counts = ap (λ (q : State). q.clients.taken) K.state;
          becomes = inr (inr (record {
            queue = ap (λ (q : State). q.clients.queue) K.state;
            begins = record { ops = ops; made = e; how = inr (K.changes, K.last) };
            out = subst (λ (out : List Sent). AllFair Nobody (out ++ answer_to me (epoch_of y.readings) o (reply.Done (suc w.last)) ∷ [])) (sym K.out) (done_other (epoch_of y.readings) (suc w.last) o);
          }));
        }

        by : (r : Result (List Op) CommandRefused) → value w c (asked_of me o) ≡ r → Then Takes (begin_made me now o r (at_rest w z))
        by (Ok ops) e = where_fits Takes which.Version (suc w.last) _ (λ _. by_test (is_alone me z.leader.quorum)
            (λ _. and_then (LearnedOne (suc w.last) ops (at_rest w z)) Takes (learn (suc w.last) (ops ∷ []) (at_rest w z)) _ (learns_one (suc w.last) ops (at_rest w z)) (λ y K. done (at_once ops e y K)))
            (λ _. done (record {
              command = c;
              origin = o;
              others = z.clients.queue;
              taken = z.clients.taken;
              source = F;
              leads = leads;
              counts = refl;
              becomes = inr (inr (record {
                queue = refl;
                begins = record { ops = ops; made = e; how = inl (z.leader.pn, refl, refl) };
                out = all_of (IsFair Nobody) (message_to me (epoch_of w) (body.Begin z.leader.pn (suc w.last) ops)) (λ to. tt) (members me z.leader.quorum);
              }));
            })))
        by (Err e) q = done (record {
          command = c;
          origin = o;
          others = z.clients.queue;
          taken = z.clients.taken;
          source = F;
          leads = leads;
          counts = refl;
          becomes = inl (record { queue = refl; writes = record { changes = refl; readings = refl }; reply = refusal e; out = refl });
        })

    refuses : (r : Reply) → Takes (record (at_rest w z) { out = answer_to me (epoch_of w) o r ∷ [] })
    refuses r = record {
      command = c;
      origin = o;
      others = z.clients.queue;
      taken = z.clients.taken;
      source = F;
      leads = leads;
      counts = refl;
      becomes = inl (record { queue = refl; writes = record { changes = refl; readings = refl }; reply = r; out = refl });
    }

    at_leads : Then Takes (at_leader me now c o (at_rest w z))
    at_leads =
        by_test (is_too_long c) (λ _. done (refuses (too_long c))) (λ _.
        by_test (may_propose me now (at_rest w z) && not (has_queue (at_rest w z))) (λ t. proposes (and_three (same_phase z.phase phase.Active) (is_standing me now z) (not (has_queue (at_rest w z))) t).0) (λ _.
        by_test (leb MOST_WAITING (length z.clients.queue)) (λ _. done (refuses (reply.Busy MOST_WAITING))) (λ _. done (record {
          command = c;
          origin = o;
          others = z.clients.queue;
          taken = z.clients.taken;
          source = F;
          leads = leads;
          counts = refl;
          becomes = inr (inl (record { queue = refl; writes = record { changes = refl; readings = refl }; out = tt }));
        }))))

  -- ---- what brings a command

  -- nothing is done but what is said
  resting : (came : Input) (sends : List Sent) → AllFair Settled sends → Then (Outcome came) (Ok (record x0 { out = sends }))
  resting came sends O = done (inl (record { idle = says me now w s Settled sends O; stays = λ t. refl }))

  -- what brings none takes none
  idly : (came : Input) → brings came ≡ false → (r : Result Course Which) → Then (Idle me now w s Settled) r → Then (Outcome came) r
  idly came none r = then_map (Idle me now w s Settled) (Outcome came) r (λ y I. inl (record { idle = I; stays = λ t. no (sym none ∙ t) }))

  taking : (came : Input) (r : Result Course Which) → Then Takes r → Then (Outcome came) r
  taking came r = then_map Takes (Outcome came) r (λ y T. inr (inl T))

  abbrev leading : List Phase
  leading = phase.Collecting ∷ phase.Previous ∷ phase.Active ∷ phase.Updating ∷ []

  forward_heard : (f e seq : ℕ) (c : Command) (came : Input) → (is_leading s.phase ≡ true → e ≡ epoch_of w → ltb (slice_index_or s.clients.taken f 0) seq ≡ true → Source c (origin.Forwarded f seq) s.clients.queue (slice_set s.clients.taken f seq))
      → Then (Outcome came) (hear_forward me now f e seq c x0)
  unfolding hear_forward
  forward_heard f e seq c came F =
      by_test (not (of_member leading f e x0 && ltb (slice_index_or s.clients.taken f 0) seq)) (λ _. resting came [] tt)
      (λ heard. let a = and_parts (of_member leading f e x0) (ltb (slice_index_or s.clients.taken f 0) seq) (not-false _ heard) in
      let b = and_three (is_one_of leading s.phase) (eqb e (epoch_of w)) (has s.leader.quorum f) a.0 in
      taking came _ (at_leads c (origin.Forwarded f seq) (record s { clients = record s.clients { taken = slice_set s.clients.taken f seq } }) (F (any_leads s.phase b.0) (eqb-true e (epoch_of w) b.1) a.1) (any_leads s.phase b.0)))

  due : (ts : List (Option ℕ)) → (same_phase s.phase phase.Active ≡ true → (x : Waiting) (xs : List Waiting) → s.clients.queue ≡ x ∷ xs → Source x.command x.origin xs s.clients.taken) → Then (Outcome (input.Timer timer.Propose)) (propose_due me now (at_rest w (record s { timers = ts })))
  unfolding propose_due propose_next
  due ts F = by_test (may_propose me now (at_rest w (record s { timers = ts })))
      (λ t. let a = (and_parts (same_phase s.phase phase.Active) (is_standing me now (record s { timers = ts })) t).0 in first a s.clients.queue refl) (λ _. stays)
    where
      stays : Then (Outcome (input.Timer timer.Propose)) (Ok (at_rest w (record s { timers = ts })))
      stays = let I = says me now w s Settled [] tt in done (inl (record { idle = record { out = I.out; clients = I.clients; leads = I.leads; last = I.last }; stays = λ t. refl }))

      first : same_phase s.phase phase.Active ≡ true → (ws : List Waiting) → s.clients.queue ≡ ws → Then (Outcome (input.Timer timer.Propose)) (propose_first me now ws (at_rest w (record s { timers = ts })))
      first a [] e = stays
      first a (x ∷ ws) e = taking (input.Timer timer.Propose) _ (proposes x.command x.origin (record s { timers = ts; clients = record s.clients { queue = ws } }) (F a x ws e) (ap is_leading (active_is s.phase a)) a)

  at_peons : (c : Command) (t : Session) (r : Request) → is_peon s.phase ≡ true → Asks t c → Settled t → Then (Outcome (input.Client t r)) (at_peon me c t x0)
  at_peons c t r peon A S =
      by_test (is_too_long c) (λ _. resting (input.Client t r) (sent.Reply t (too_long c) ∷ []) ((λ u. S), tt)) (λ _.
      by_test (leb MOST_WAITING (length s.clients.sessions)) (λ _. resting (input.Client t r) (sent.Reply t (reply.Busy MOST_WAITING) ∷ []) ((λ u. S), tt)) (λ _.
      where_fits (Outcome (input.Client t r)) which.Seq s.clients.next_seq _ (λ _. done (inr (inr (record {
        session = t;
        command = c;
        asked = A;
        peon = peon;
        still = refl;
        seq = s.clients.next_seq;
        out = refl;
        queue = refl;
        taken = refl;
        writes = record { changes = refl; readings = refl };
      }))))))

  asks : (t : Session) (r : Request) (c : Command) → Source c (origin.Session t) s.clients.queue s.clients.taken → Asks t c → Settled t → Then (Outcome (input.Client t r)) (ask me now t c x0)
  unfolding ask
  asks t r c F A S = by_test (is_leading s.phase) (λ leads. taking (input.Client t r) _ (at_leads c (origin.Session t) s F leads))
      (λ _. by_test (is_peon s.phase) (λ peon. at_peons c t r peon A S) (λ _. resting (input.Client t r) (sent.Reply t reply.Unavailable ∷ []) ((λ u. S), tt)))

  reads : (t : Session) (r : Request) (reading : Readings → Reply) → Settled t → Then (Outcome (input.Client t r)) (read me now t reading x0)
  reads t r reading S =
      by_test (not (is_member s.phase)) (λ _. resting (input.Client t r) (sent.Reply t reply.Unavailable ∷ []) ((λ u. S), tt)) (λ _.
      by_test (not (readable w.last me.member.monitors (lease_of s) now)) (λ _. resting (input.Client t r) (sent.Reply t (reply.NotReadable w.last (is_standing me now s)) ∷ []) ((λ u. S), tt))
      (λ _. resting (input.Client t r) (sent.Reply t (reading w) ∷ []) ((λ u. S), tt)))

  -- ---- the table

  -- what is known of what comes
  abbrev pub FromClient : Session → Command → Type 0
  FromClient t c = Source c (origin.Session t) s.clients.queue s.clients.taken × Asks t c

  abbrev pub RequestKnown : Session → Request → Type 0
  RequestKnown t (request.Set key value) = FromClient t (command.Set key value)
  RequestKnown t (request.Remove key) = FromClient t (command.Remove key)
  RequestKnown t (request.Log text) = FromClient t (command.Log text)
  RequestKnown t other = Unit {0}

  abbrev pub BodyKnown : (f e : ℕ) → Body → Type 0
  BodyKnown f e (body.Forward seq c) = (f ≡ me.member.rank → ⊥) → is_leading s.phase ≡ true → e ≡ epoch_of w → ltb (slice_index_or s.clients.taken f 0) seq ≡ true → Source c (origin.Forwarded f seq) s.clients.queue (slice_set s.clients.taken f seq)
  BodyKnown f e (body.Route seq r) = Returns me now w s Settled e seq r
  BodyKnown f e other = Unit {0}

  abbrev pub TimerKnown : Timer → Type 0
  TimerKnown timer.Propose = same_phase s.phase phase.Active ≡ true → (x : Waiting) (xs : List Waiting) → s.clients.queue ≡ x ∷ xs → Source x.command x.origin xs s.clients.taken
  TimerKnown other = Unit {0}

  abbrev pub InputKnown : Input → Type 0
  InputKnown input.Start = Unit {0}
  InputKnown (input.Deliver m) = (m.from < me.member.monitors) × BodyKnown m.from m.epoch m.body
  InputKnown (input.Timer t) = TimerKnown t
  InputKnown (input.Client t r) = RequestKnown t r × Settled t

  clients : (t : Session) (r : Request) → RequestKnown t r → Settled t → Then (Outcome (input.Client t r)) (hear_client me now t r x0)
  unfolding hear_client
  clients t (request.Set key value) k S = asks t (request.Set key value) (command.Set key value) k.0 k.1 S
  clients t (request.Remove key) k S = asks t (request.Remove key) (command.Remove key) k.0 k.1 S
  clients t (request.Log text) k S = asks t (request.Log text) (command.Log text) k.0 k.1 S
  clients t (request.Show v) k S = reads t (request.Show v) (λ z. shown z v) S
  clients t (request.Since v n) k S = reads t (request.Since v n) (λ z. since z v n) S

  module _ (shared : List Entry) where
    -- what brings no command is known as it comes
    heard_so : (came : Input) → brings came ≡ false → InputKnown came → Heard me now w s Settled came
    heard_so input.Start o k = tt
    heard_so (input.Deliver m) o k = (k.0, by m.body o k.1)
      where
        by : (b : Body) → body_brings b ≡ false → BodyKnown m.from m.epoch b → BodyReturns me now w s Settled m.epoch b
        by (body.Forward seq c) o k = no (sym o)
        by (body.Route seq r) o k = k
        by other o k = tt
    heard_so (input.Timer t) o k = tt
    heard_so (input.Client t r) o k = tt

    forward_heard_in : (m : Message) (b : Body) → body_brings b ≡ true → (m.from ≡ me.member.rank → ⊥) → BodyKnown m.from m.epoch b → Then (Outcome (input.Deliver m)) (hear me shared now m.from m.epoch b x0)
    forward_heard_in m (body.Forward seq c) t apart k = forward_heard m.from m.epoch seq c (input.Deliver m) (k apart)
    forward_heard_in m other t apart k = no t

    rung_in : (t : Timer) → timer_brings t ≡ true → TimerKnown t → Then (Outcome (input.Timer t)) (timer_comes me now t (disarm t x0))
    rung_in timer.Propose t k = due (disarm timer.Propose x0).state.timers k
    rung_in other t k = no t

    -- what may bring a command
    bringing : (came : Input) → brings came ≡ true → InputKnown came → Then (Outcome came) (react me shared now w s came)
    unfolding react
    bringing input.Start t k = no t
    bringing (input.Deliver m) t k = by_test (same_phase s.phase phase.Booting) (λ _. resting (input.Deliver m) [] tt) (λ _. by_test (is_heard me m)
        (λ heard. forward_heard_in m m.body t (eqb-false m.from me.member.rank (not-true _ (and_three (not (eqb m.from me.member.rank)) _ _ heard).0)) k.1) (λ _. resting (input.Deliver m) [] tt))
    bringing (input.Timer z) t k = by_test (same_phase s.phase phase.Booting) (λ _. resting (input.Timer z) [] tt) (λ _. by_test (is_some (end_of z s.timers)) (λ _. rung_in z t k) (λ _. resting (input.Timer z) [] tt))
    bringing (input.Client u r) t k = by_test (same_phase s.phase phase.Booting) (λ _. resting (input.Client u r) (sent.Reply u reply.Unavailable ∷ []) ((λ z. k.1), tt)) (λ _. clients u r k.0 k.1)

    pub takes : (came : Input) → InputKnown came → Then (Outcome came) (react me shared now w s came)
    takes came k = by (brings came) refl
      where
        by : (b : Bool) → brings came ≡ b → Then (Outcome came) (react me shared now w s came)
        by true t = bringing came t k
        by false o = idly came o _ (idles me now w s Settled shared came o (heard_so came o k))
