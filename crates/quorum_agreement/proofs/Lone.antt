-- A monitor that is alone in its map changes its own numbers, or commits the value of a command that was asked. It
-- never hears a message, and says nothing of the log.
use Rattle.law_names.proofs.Table.{AllByRecursion, Body, Boot, Change, Command, CommandRefused, Course, Entry, Epoch, Found, Input, Last, Learn, MOST_WAITING, Me, Message, Numbers, Op, Origin, Phase, Readings, Reply, Request, Sent, Session, State, SyncStage, Timer, Waiting, allows, answer, answer_any, answers_to, arm_if, ask, asked_of, at_leader, at_peon, at_rest, be_active, before_start, begin, begin_alone, begin_found, begin_made, bootstrap, catch_up, change, change_if, collect, collect_with, commits_to, deliver, disarm, elect, election_ends, elector_is, end_of, epoch_of, extend, first_elector, flat_map, forget_clients, found_as, has, has_queue, hear_client, in_next_epoch, in_odd_epoch, in_phase, is_allowed, is_alone, is_empty, is_even, is_heard, is_leading, is_majority, is_member, is_peon, is_standing, is_too_long, leader_is, leads_in, learn, lease_of, may_propose, measure, members, message_to, next_even, next_number, only, or_zero, others, own_table, pending, pending_of, ping, prober_is, promise_of, propose, propose_due, propose_first, propose_next, queue_up, range_with_len, react, read, readable, record_at, refusal, reign, renew, replay_step, reply_to, running, same_phase, scores_count, service_last, service_of, settle, shown, since, start, step_in, timer_comes, too_long, value, wait_under, win, ◌▸◌}
use Rattle.log_copies.proofs.Sending.{BodyMatches}
use Rattle.log_copies.specs.Versions.{IsOwnChange}
use Rattle.mon_bytes.specs.declared.command.Command.TheVariants as command
use Rattle.mon_bytes.specs.declared.command.CommandRefused.TheVariants as refused
use Rattle.mon_msg.specs.Protocol.Hearing.{has_fitting_table}
use Rattle.mon_msg.specs.declared.input.Input.TheVariants as input
use Rattle.mon_msg.specs.declared.paxos.LeaderStage.TheVariants as stage
use Rattle.mon_msg.specs.declared.plan.Origin.TheVariants as origin
use Rattle.mon_msg.specs.declared.plan.Sent.TheVariants as sent
use Rattle.mon_msg.specs.declared.synchronization.SyncStage.TheVariants as sync
use Rattle.mon_types.specs.declared.names.Which.TheVariants as which
use Rattle.mon_wire.specs.declared.body.Body.TheVariants as body
use Rattle.mon_wire.specs.declared.phase.Phase.TheVariants as phase
use Rattle.mon_wire.specs.declared.phase.Timer.TheVariants as timer
use Rattle.mon_wire.specs.declared.reply.Reply.TheVariants as reply
use Rattle.mon_wire.specs.declared.request.Request.TheVariants as request
use Rattle.quorum_agreement.proofs.Premises.{requests_in}
use Rattle.quorum_history.proofs.History.{Asks, Ghost, Glob}
use Rattle.quorum_history.proofs.Holds.{HasSource, InPhase, StageHolds, Waits, core_of, epoch_in}
use Rattle.quorum_history.proofs.Phases.{no}
use Rattle.quorum_history.proofs.Rows.{InputHolds}
use Rattle.quorum_history.proofs.RowsClients.{IsAsked}
use Rattle.quorum_walk.proofs.Lists.{all_append}
use Rattle.quorum_walk.proofs.Sparing.{own_of}
use Rattle.quorum_walk.proofs.Walk.{Then, and_then, and_three, by_test, done, where_fits}
use Rattle.std.proofs.Common.{Bool, Err, List, None, Ok, Option, Result, Some, [], ap, arith, cond, eqb, false, filter, inl, inr, is_some, leb, length, ltb, map, max, not, refl, subst, suc, sym, true, ℕ, ◌&&◌, ◌++◌, ◌+◌, ◌<◌, ◌^◌, ◌∙◌, ◌∷◌, ◌≡◌, ◌≤◌, ◌⊎◌}
use Rattle.std.proofs.lemmas.Bool.{and_parts, eqb-false, ne_eqb, not-true}

-- a quorum of a map with one monitor has no other monitor
nobody : (q : List Bool) (r n : ℕ) → n ≡ 1 → r < n → filter (λ k. has q k && not (eqb k r)) (range_with_len 0 n) ≡ []
nobody q r n one lt = subst (λ (z : ℕ). filter (λ k. has q k && not (eqb k r)) (range_with_len 0 z) ≡ []) (sym one) (subst (λ (z : ℕ). filter (λ k. has q k && not (eqb k z)) (range_with_len 0 1) ≡ []) (let e : 0 ≡ r = omega arith in e) (by (has q 0)))
  where
    by : (b : Bool) → cond {A = List ℕ} (b && false) (0 ∷ []) [] ≡ []
    by true = refl
    by false = refl

pub active_is : (p : Phase) → same_phase p phase.Active ≡ true → p ≡ phase.Active
active_is phase.Active t = refl
active_is other t = no t

-- a message that says nothing of any log, or a reply
abbrev pub SaysNothing : Sent → Type 0
SaysNothing (sent.Message to m) = (log : List (List ℕ)) → BodyMatches log m.body
SaysNothing (sent.Reply s r) = Unit {0}

module _ (me : Me) (one : me.member.monitors ≡ 1) (now : ℕ) (g : Ghost) (G : Glob me.member.monitors g) (w : Readings) where
  abbrev i : ℕ
  i = me.member.rank

  -- the event changes at most the monitor's own numbers
  pub record Quiet (x : Course) : Type 0 where
    pub changes : AllByRecursion (IsOwnChange w.last) x.changes
    pub last : x.readings.last ≡ w.last
    pub marked : x.readings.marked ≡ w.marked
    pub pending : x.readings.pending_v ≡ 0
    pub out : AllByRecursion SaysNothing x.out

  -- the event commits the value of a command that was asked
  pub record Commits (x : Course) : Type 0 where
    pub ops : List Op
    pub rank : ℕ
    pub session : Session
    pub command : Command
    pub asked : Asks g rank session command
    pub made : value w command rank ≡ Ok ops
    pub changes : x.changes ≡ Learn (suc w.last) ops ∷ Last (suc w.last) ∷ []
    pub fits : suc w.last ≤ 2 ^ 62
    pub out : AllByRecursion SaysNothing x.out

  abbrev pub Outcome : Course → Type 0
  Outcome x = Quiet x ⊎ Commits x

  quietly : (x : Course) → Quiet x → Then Outcome (Ok x)
  quietly x Q = done (inl Q)

  -- ---- small steps

  more_quiet : (c : Change) (x : Course) → IsOwnChange w.last c → (change c x).readings.last ≡ x.readings.last → (change c x).readings.marked ≡ x.readings.marked → (change c x).readings.pending_v ≡ x.readings.pending_v → Quiet x → Quiet (change c x)
  more_quiet c x own last marked pending Q =
      record { changes = all_append (IsOwnChange w.last) x.changes (c ∷ []) Q.changes (own, tt); last = last ∙ Q.last; marked = marked ∙ Q.marked; pending = pending ∙ Q.pending; out = Q.out }

  epoch_quiet : (e : ℕ) (x : Course) → Quiet x → Quiet (change (Epoch e) x)
  epoch_quiet e x Q = more_quiet (Epoch e) x tt refl refl refl Q

  module _ (state : State) where
    -- the event sends more, and the monitor remembers another state
    says_quiet : (more : List Sent) (x : Course) → AllByRecursion SaysNothing more → Quiet x → Quiet (record x { state = state; out = x.out ++ more })
    says_quiet more x k Q = record { changes = Q.changes; last = Q.last; marked = Q.marked; pending = Q.pending; out = all_append SaysNothing x.out more Q.out k }

  remembers_quiet : (state : State) (x : Course) → Quiet x → Quiet (record x { state = state })
  remembers_quiet state x Q = record { changes = Q.changes; last = Q.last; marked = Q.marked; pending = Q.pending; out = Q.out }

  to_each : (e : ℕ) (b : Body) → ((log : List (List ℕ)) → BodyMatches log b) → (tos : List ℕ) → AllByRecursion SaysNothing (map (message_to me e b) tos)
  to_each e b k [] = tt
  to_each e b k (to ∷ tos) = (k, to_each e b k tos)

  no_members : (q : List Bool) → members me q ≡ []
  no_members q = nobody q i me.member.monitors one me.member.in_map

  to_none : (q : List Bool) (e : ℕ) (b : Body) → AllByRecursion SaysNothing (map (message_to me e b) (members me q))
  to_none q e b = subst (λ (tos : List ℕ). AllByRecursion SaysNothing (map (message_to me e b) tos)) (sym (no_members q)) tt

  alone_in : (q : List Bool) → is_alone me q ≡ true
  alone_in q = ap is_empty (no_members q)

  answers_nothing : (e : ℕ) (o : Option Origin) (r : Reply) → ((log : List (List ℕ)) → BodyMatches log (body.Route 0 r)) → AllByRecursion SaysNothing (answers_to me e o r)
  answers_nothing e None r k = tt
  answers_nothing e (Some (origin.Session s)) r k = (tt, tt)
  answers_nothing e (Some (origin.Forwarded f seq)) r k = (k, tt)

  -- ---- leading

  active_quiet : (x : Course) → Quiet x → Quiet (be_active me now x)
  unfolding be_active extend
  active_quiet x Q = says_quiet _ (map (message_to me (epoch_of x.readings) (body.Lease x.readings.last)) (members me x.state.leader.quorum)) x (to_none x.state.leader.quorum (epoch_of x.readings) (body.Lease x.readings.last)) Q

  none_pending : (x : Course) → Quiet x → pending x.readings ≡ None
  unfolding pending_of
  none_pending x Q = let p = Q.pending in ap (λ (b : Bool). cond b (found_as x.readings.pending_v x.readings.pending_pn (record_at x.readings.record_of (suc x.readings.last))) None) (ne_eqb x.readings.pending_v (suc x.readings.last) (λ e. omega arith))

  settles : (x : Course) → x.state.leader.found ≡ None → Quiet x → Then Outcome (settle me now x)
  unfolding settle
  settles x none Q =
      let more = flat_map (commits_to me x.readings x.state.leader.lasts) (members me x.state.leader.quorum) in
      let quiet : AllByRecursion SaysNothing more = subst (λ (ks : List ℕ). AllByRecursion SaysNothing (flat_map (commits_to me x.readings x.state.leader.lasts) ks)) (sym (no_members x.state.leader.quorum)) tt in
      let y : Course = x ▸ disarm timer.Collect ▸ catch_up me (members me x.state.leader.quorum) ▸ leader_is (record x.state.leader { found = None }) in
      subst (λ (f : Option Found). Then Outcome (begin_found me now f y)) (sym none) (quietly _ (active_quiet y (says_quiet y.state more x quiet Q)))

  collects : (q : List Bool) (above : ℕ) (x : Course) → Quiet x → Then Outcome (collect me now q above x)
  unfolding collect collect_with
  collects q above x Q =
      let pn = next_number (or_zero x.readings.last_pn) (max (promise_of x.readings) above) i in
      where_fits Outcome which.Pn pn _ (λ _. by_test (is_alone me q) {x = settle me now (collect_with me now q pn x)} {y = Ok (collect_with me now q pn x)} (λ _. settles (collect_with me now q pn x) (none_pending x Q) (numbered pn)) (λ f. no (sym f ∙ alone_in q)))
    where
      numbered : (pn : ℕ) → Quiet (collect_with me now q pn x)
      numbered pn =
          says_quiet (collect_with me now q pn x).state (map (message_to me (epoch_of x.readings) (body.Collect pn x.readings.first x.readings.last)) (members me q)) (change (Numbers pn) x) (to_none q (epoch_of x.readings) (body.Collect pn x.readings.first x.readings.last))
          (more_quiet (Numbers pn) x tt refl refl refl Q)

  reigns : (q : List Bool) (x : Course) → Quiet x → Then Outcome (reign me now q x)
  unfolding reign
  reigns q x Q = collects q 0 _ (says_quiet _ (map (message_to me (epoch_of x.readings) (body.Victory q)) (members me q)) x (to_none q (epoch_of x.readings) (body.Victory q)) Q)

  -- ---- beginning again, and elections

  bootstraps : (x : Course) → Quiet x → Then Outcome (bootstrap me now x)
  unfolding bootstrap
  bootstraps x Q =
      let y : Course = x ▸ in_phase phase.Probing ▸ forget_clients ▸ prober_is (record { outside = only i }) in
      let R : Quiet y = record { changes = Q.changes; last = Q.last; marked = Q.marked; pending = Q.pending; out = Q.out } in
      by_test (ltb 1 me.member.monitors) (λ _. quietly _ (says_quiet _ (map (message_to me (epoch_of x.readings) body.Probe) (others me)) y (to_each (epoch_of x.readings) body.Probe (λ log. tt) (others me)) R))
      (λ _. by_test (allows me.rule i && not x.readings.marked) (λ _. where_fits Outcome which.Epoch (next_even (epoch_of x.readings)) _ (λ _. reigns (only i) _ (epoch_quiet (next_even (epoch_of x.readings)) y R))) (λ _. quietly y R))

  starts : (x : Course) → Quiet x → Then Outcome (start me now x)
  unfolding start
  starts x Q =
      let y : Course = change_if (not (is_some x.readings.epoch)) (Epoch 1) (change (Boot (suc x.readings.boot)) x) in
      let z : Course = y ▸ elector_is (first_elector me now (suc x.readings.boot) y.state.elector) ▸ arm_if (scores_count me.rule) now timer.Ping in
      where_fits Outcome which.Boot (suc x.readings.boot) _ (λ _. bootstraps z (remembers_quiet z.state y (by (not (is_some x.readings.epoch)) (more_quiet (Boot (suc x.readings.boot)) x tt refl refl refl Q))))
    where
      by : (b : Bool) → Quiet (change (Boot (suc x.readings.boot)) x) → Quiet (change_if b (Epoch 1) (change (Boot (suc x.readings.boot)) x))
      by true R = epoch_quiet 1 _ R
      by false R = record { changes = all_append (IsOwnChange w.last) _ [] R.changes tt; last = R.last; marked = R.marked; pending = R.pending; out = R.out }

  next_quiet : (x : Course) → Quiet x → Then Quiet (in_next_epoch x)
  next_quiet x Q = where_fits Quiet which.Epoch (suc (epoch_of x.readings)) _ (λ _. done (epoch_quiet (suc (epoch_of x.readings)) x Q))

  elects : (x : Course) → Quiet x → Then Outcome (elect me now x)
  unfolding elect in_odd_epoch
  elects x Q = and_then Quiet Outcome (in_odd_epoch x) _ (by_test (is_even (epoch_of x.readings)) (λ _. next_quiet x Q) (λ _. done Q))
      (λ y R. quietly _ (says_quiet _ (map (message_to me (epoch_of y.readings) (body.Propose (own_table me y))) (others me)) y (to_each (epoch_of y.readings) (body.Propose (own_table me y)) (λ log. tt) (others me)) R))

  election_over : (x : Course) → Quiet x → Then Outcome (election_ends me now x)
  unfolding election_ends win
  election_over x Q = by_test (not (same_phase x.state.phase phase.Electing)) (λ _. quietly x Q)
      (λ _. by_test (x.state.elector.candidate && is_allowed me i && is_majority me.member.monitors x.state.elector.acked) (λ _. and_then Quiet Outcome (in_next_epoch x) _ (next_quiet x Q) (λ y R. reigns x.state.elector.acked y R)) (λ _. elects x Q))

  -- ---- commands

  -- which monitor was asked a command that waits
  source_of : (e : ℕ) (c : Command) (o : Origin) → HasSource g i e c o → (s : Session) × Asks g (asked_of me o) s c
  source_of e c (origin.Session s) k = (s, k)
  source_of e c (origin.Forwarded f seq) k = let H = G.hands in (k.0, H.asked f e seq k.0 c k.1)

  module _ (zero : w.pending_v ≡ 0) where
    rests : (s : State) → Quiet (at_rest w s)
    rests s = record { changes = tt; last = refl; marked = refl; pending = zero; out = tt }

    answered : (s t : State) (o : Origin) (r : Reply) → ((log : List (List ℕ)) → BodyMatches log (body.Route 0 r)) → Then Outcome (Ok (record (answer me o r (at_rest w s)) { state = t }))
    answered s t (origin.Session z) r k = quietly _ (says_quiet t (sent.Reply z r ∷ []) (at_rest w s) (tt, tt) (rests s))
    answered s t (origin.Forwarded f seq) r k = quietly _ (says_quiet t (message_to me (epoch_of w) (body.Route seq r) f ∷ []) (at_rest w s) (k, tt) (rests s))

    refused_told : (e : CommandRefused) (log : List (List ℕ)) → BodyMatches log (body.Route 0 (refusal e))
    refused_told refused.NoSuch log = tt
    refused_told (refused.TooLong len most) log = tt
    refused_told (refused.MapFull would_be) log = tt
    refused_told refused.OutOfMemory log = tt

    record Learned (ops : List Op) (y : Course) : Type 0 where
      changes : y.changes ≡ Learn (suc w.last) ops ∷ Last (suc w.last) ∷ []
      out : y.out ≡ []

    proposes : (c : Command) (o : Origin) (s : State) → (t : Session) × Asks g (asked_of me o) t c → Then Outcome (propose me now c o (at_rest w s))
    unfolding propose begin begin_alone learn
    proposes c o s a = where_fits Outcome which.Version (suc (service_last w (service_of c))) _ (λ _. by (value w c (asked_of me o)) refl)
      where
        commits : (ops : List Op) → value w c (asked_of me o) ≡ Ok ops → suc w.last ≤ 2 ^ 62 → (y : Course) → Learned ops y → Outcome (y ▸ leads_in stage.Active ▸ answer_any me (Some o) (reply.Done (suc w.last)))
        commits ops e fits y L = inr (record {
          ops = ops;
          rank = asked_of me o;
          session = a.0;
          command = c;
          asked = a.1;
          made = e;
          changes = L.changes;
          fits = fits;
          out = subst (λ (out : List Sent). AllByRecursion SaysNothing (out ++ answers_to me (epoch_of y.readings) (Some o) (reply.Done (suc w.last)))) (sym L.out) (answers_nothing (epoch_of y.readings) (Some o) (reply.Done (suc w.last)) (λ log. tt));
        })

        by : (r : Result (List Op) CommandRefused) → value w c (asked_of me o) ≡ r → Then Outcome (begin_made me now o r (at_rest w s))
        by (Ok ops) e = where_fits Outcome which.Version (suc w.last) _ (λ fits. by_test (is_alone me s.leader.quorum)
            (λ _. and_then (Learned ops) Outcome (learn (suc w.last) (ops ∷ []) (at_rest w s)) _
            (where_fits (Learned ops) which.Version (suc w.last + 0) _ (λ _. done (record { changes = ap (λ (n : ℕ). Learn (suc w.last) ops ∷ Last n ∷ []) (let q : suc w.last + 0 ≡ suc w.last = omega arith in q); out = refl })))
            (λ y L. done (commits ops e fits y L)))
            (λ f. no (sym f ∙ alone_in s.leader.quorum)))
        by (Err e) q = answered s (at_rest w s ▸ arm_if (has_queue (at_rest w s)) now timer.Propose).state o (refusal e) (refused_told e)

    at_leads : (c : Command) (o : Origin) (s : State) → (t : Session) × Asks g (asked_of me o) t c → Then Outcome (at_leader me now c o (at_rest w s))
    at_leads c o s a =
        by_test (is_too_long c) (λ _. answered s s o (too_long c) (λ log. tt)) (λ _.
        by_test (may_propose me now (at_rest w s) && not (has_queue (at_rest w s))) (λ _. proposes c o s a) (λ _.
        by_test (leb MOST_WAITING (length s.clients.queue)) (λ _. answered s s o (reply.Busy MOST_WAITING) (λ log. tt)) (λ _. quietly _ (rests (queue_up c o (at_rest w s)).state))))

    replied : (s : State) (t : Session) (r : Reply) → Then Outcome (Ok (reply_to t r (at_rest w s)))
    replied s t r = quietly _ (says_quiet s (sent.Reply t r ∷ []) (at_rest w s) (tt, tt) (rests s))

    at_peons : (c : Command) (t : Session) (s : State) → Then Outcome (at_peon me c t (at_rest w s))
    at_peons c t s =
        by_test (is_too_long c) (λ _. replied s t (too_long c)) (λ _.
        by_test (leb MOST_WAITING (length s.clients.sessions)) (λ _. replied s t (reply.Busy MOST_WAITING)) (λ _.
        where_fits Outcome which.Seq s.clients.next_seq _ (λ _. quietly _ (says_quiet (wait_under s.clients.next_seq t (at_rest w s)).state (message_to me (epoch_of w) (body.Forward s.clients.next_seq c) s.peon.leader ∷ []) (at_rest w s) ((λ log. tt), tt) (rests s)))))

    asks : (t : Session) (c : Command) (s : State) → Asks g i t c → Then Outcome (ask me now t c (at_rest w s))
    unfolding ask
    asks t c s a =
        by_test (is_leading s.phase) (λ _. at_leads c (origin.Session t) s (t, a)) (λ _. by_test (is_peon s.phase) (λ _. at_peons c t s) (λ _. replied s t reply.Unavailable))

    reads : (t : Session) (reading : Readings → Reply) (s : State) → Then Outcome (read me now t reading (at_rest w s))
    reads t reading s =
        by_test (not (is_member s.phase)) (λ _. replied s t reply.Unavailable) (λ _.
        by_test (not (readable w.last me.member.monitors (lease_of s) now)) (λ _. replied s t (reply.NotReadable w.last (is_standing me now s))) (λ _. replied s t (reading w)))

    module _ (unmarked : w.marked ≡ false) where
      -- the first of those that wait
      due : (s : State) → InPhase me.member.monitors g i (core_of (own_of w) s) s.phase → Then Outcome (propose_due me now (at_rest w s))
      unfolding propose_due propose_next
      due s K = by_test (may_propose me now (at_rest w s)) (λ t. first s.clients.queue refl (and_parts (same_phase s.phase phase.Active) (is_standing me now s) t).0) (λ _. quietly _ (rests s))
        where
          waits : same_phase s.phase phase.Active ≡ true → AllByRecursion (Waits g i (epoch_in (own_of w))) s.clients.queue
          waits t = (subst (InPhase me.member.monitors g i (core_of (own_of w) s)) (active_is s.phase t) K).0.reigns.queue

          first : (ws : List Waiting) → ws ≡ s.clients.queue → same_phase s.phase phase.Active ≡ true → Then Outcome (propose_first me now ws (at_rest w s))
          first [] e t = quietly _ (rests s)
          first (x ∷ ws) e t = proposes x.command x.origin (record s { clients = record s.clients { queue = ws } })
              (source_of (epoch_in (own_of w)) x.command x.origin (subst (λ (z : List Waiting). AllByRecursion (Waits g i (epoch_in (own_of w))) z) (sym e) (waits t)).0)

      -- it replays nothing
      steps : (s : State) → InPhase me.member.monitors g i (core_of (own_of w) s) s.phase → Then Outcome (replay_step me now (at_rest w s))
      unfolding replay_step
      steps s K = by_test (same_phase s.phase phase.Synchronizing) (λ t. by s.requester.stage refl t) (λ _. quietly _ (rests s))
        where
          by : (z : SyncStage) → s.requester.stage ≡ z → same_phase s.phase phase.Synchronizing ≡ true → Then Outcome (step_in me now z (at_rest w s))
          by sync.Cookie e t = quietly _ (rests s)
          by sync.Chunks e t = quietly _ (rests s)
          by (sync.Replay next end) e t =
              let R = requests_in me g w s G s.phase t K in
              let full = (subst (StageHolds g w.last w.floor s.requester.provider s.requester.full s.requester.start s.requester.place.version) e R.1).0 in
              no (sym (R.0 ∙ unmarked) ∙ full)

      rings : (t : Timer) (s : State) → InPhase me.member.monitors g i (core_of (own_of w) s) s.phase → Then Outcome (timer_comes me now t (at_rest w s))
      unfolding renew extend ping
      rings timer.Election s K = election_over _ (rests s)
      rings timer.Renew s K = by_test (not (same_phase s.phase phase.Active)) (λ _. quietly _ (rests s))
          (λ _. quietly _ (says_quiet _ (map (message_to me (epoch_of w) (body.Lease w.last)) (members me s.leader.quorum)) (at_rest w s) (to_none s.leader.quorum (epoch_of w) (body.Lease w.last)) (rests s)))
      rings timer.Step s K = steps s K
      rings timer.Propose s K = due s K
      rings timer.Ping s K =
          let table = own_table me (elector_is (measure me now s.elector) (at_rest w s)) in
          quietly _ (says_quiet _ (map (message_to me (epoch_of w) (body.Ping table)) (others me)) (at_rest w s) (to_each (epoch_of w) (body.Ping table) (λ log. tt) (others me)) (rests s))
      rings other s K = bootstraps _ (rests s)

      clients : (t : Session) (r : Request) (s : State) → IsAsked g i t r → Then Outcome (hear_client me now t r (at_rest w s))
      unfolding hear_client
      clients t (request.Set key value) s a = asks t (command.Set key value) s a
      clients t (request.Remove key) s a = asks t (command.Remove key) s a
      clients t (request.Log text) s a = asks t (command.Log text) s a
      clients t (request.Show v) s a = reads t (λ z. shown z v) s
      clients t (request.Since v n) s a = reads t (λ z. since z v n) s

      -- no message of another monitor comes
      unheard : (shared : List Entry) (m : Message) (s : State) → m.from < me.member.monitors → Then Outcome (deliver me shared now m (at_rest w s))
      unheard shared m s lt = by_test (is_heard me m)
          (λ t. let a = and_three (not (eqb m.from i)) (eqb m.monitors me.member.monitors) (has_fitting_table me m.body) t in let in_map = me.member.in_map in absurd (eqb-false m.from i (not-true _ a.0) (omega arith)))
          (λ _. quietly _ (rests s))

      before : (came : Input) (s : State) → Then Outcome (before_start me now came (at_rest w s))
      before input.Start s = starts _ (rests s)
      before (input.Deliver m) s = quietly _ (rests s)
      before (input.Timer t) s = quietly _ (rests s)
      before (input.Client t r) s = replied s t reply.Unavailable

      goes : (shared : List Entry) (came : Input) (s : State) → InputHolds me g came → InPhase me.member.monitors g i (core_of (own_of w) s) s.phase → Then Outcome (running me shared now came (at_rest w s))
      goes shared input.Start s h K = quietly _ (rests s)
      goes shared (input.Deliver m) s h K = unheard shared m s h.0
      goes shared (input.Timer t) s h K = by_test (is_some (end_of t s.timers)) (λ _. rings t (disarm t (at_rest w s)).state K) (λ _. quietly _ (rests s))
      goes shared (input.Client t r) s h K = clients t r s h

      pub lone_reacts : (shared : List Entry) (came : Input) (s : State) → InputHolds me g came → InPhase me.member.monitors g i (core_of (own_of w) s) s.phase → Then Outcome (react me shared now w s came)
      unfolding react
      lone_reacts shared came s h K = by_test (same_phase s.phase phase.Booting) (λ _. before came s) (λ _. goes shared came s h K)
