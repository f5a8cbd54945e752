-- Each event passes on only values of commands, its numbers fit, and what its course says is what its transaction writes.
use Rattle.log_model.specs.LogOfValues.{IsCommand}
use Rattle.mon_bytes.specs.declared.entry.Entry.{Entry}
use Rattle.mon_msg.specs.Protocol.Changes.{Boot, Change, Epoch, Last, Numbers, Promise, Unmark}
use Rattle.mon_msg.specs.Protocol.Chunks.{copy_changes, record_changes}
use Rattle.mon_msg.specs.Protocol.Collecting.{missed}
use Rattle.mon_msg.specs.Protocol.Course.{Course, change, change_all, disarm, ◌▸◌}
use Rattle.mon_msg.specs.Protocol.Leading.{begin_with}
use Rattle.mon_msg.specs.Protocol.Learning.{learn_changes}
use Rattle.mon_msg.specs.Protocol.Length.{fits}
use Rattle.mon_msg.specs.Protocol.Phases.{same_phase}
use Rattle.mon_msg.specs.Protocol.Places.{is_after}
use Rattle.mon_msg.specs.Protocol.Played.{IsShort, play, played}
use Rattle.mon_msg.specs.Protocol.Proposing.{asked_of}
use Rattle.mon_msg.specs.Protocol.Readings.{Readings, epoch_of, promise_of}
use Rattle.mon_msg.specs.Protocol.Records.{pending, run_from}
use Rattle.mon_msg.specs.Protocol.Sending.{answers_to, members}
use Rattle.mon_msg.specs.Protocol.State.{State, quorum_of}
use Rattle.mon_msg.specs.Protocol.Table.{at_rest, react}
use Rattle.mon_msg.specs.declared.clients.Asked.{Asked}
use Rattle.mon_msg.specs.declared.clients.Waiting.{Waiting}
use Rattle.mon_msg.specs.declared.input.Input.TheVariants as input
use Rattle.mon_msg.specs.declared.input.Input.{Input}
use Rattle.mon_msg.specs.declared.paxos.Found.{Found}
use Rattle.mon_msg.specs.declared.plan.Origin.TheVariants as origin
use Rattle.mon_msg.specs.declared.plan.Origin.{Origin}
use Rattle.mon_msg.specs.declared.plan.Sent.TheVariants as sent
use Rattle.mon_msg.specs.declared.plan.Sent.{Sent}
use Rattle.mon_msg.specs.declared.synchronization.SyncStage.TheVariants as sync
use Rattle.mon_msg.specs.declared.synchronization.SyncStage.{SyncStage}
use Rattle.mon_msg.specs.declared.view.Me.{Me}
use Rattle.mon_tx.specs.declared.op.Op.{Op}
use Rattle.mon_wire.specs.declared.body.Body.TheVariants as body
use Rattle.mon_wire.specs.declared.body.Body.{Body}
use Rattle.mon_wire.specs.declared.phase.Phase.TheVariants as phase
use Rattle.mon_wire.specs.declared.phase.Timer.TheVariants as timer
use Rattle.mon_wire.specs.declared.request.Request.TheVariants as request
use Rattle.mon_wire.specs.declared.reply.Reply.TheVariants as reply
use Rattle.quorum_walk.proofs.FineCourses.{Base, BodyFine, Calm, Ended, EntryFine, Fine, FineAt, FoundFine, Made, MessageFine, OriginFine, OwnFine, RequestFine, SentOwn, StageFine, StateFine, Val, WaitingFine, begun, boot_after, changes_fine, ended_at, more_sent, number_fine, state_fine, still, stored_now, tell_fine, tells_fine, vote_fine}
use Rattle.quorum_walk.proofs.FineReading.{all_spare, copied_calm, copied_cells, copied_fits, entries_spare, learned_calm, learned_cells, learned_fits, longest_fine, pending_fine, recorded_calm, recorded_cells, recorded_fits, run_fine, step_of_fine}
use Rattle.quorum_walk.proofs.FineSteps.{answer_fine, answers_fine, chunk_fine, counts_fine, epoch_fine, full_sync_fine, vote_readings}
use Rattle.quorum_walk.proofs.Sparing.{Own, copied_own, learned_own, own_of, records_own}
use Rattle.std.proofs.Common.{Bool, IfSome, List, None, Option, Some, [], ap, arith, cond, eqb, false, filter, inl, inr, length, refl, subst, suc, sym, ℕ, ◌+◌, ◌-◌, ◌∙◌, ◌∷◌, ◌≡◌, ◌≤◌}
use Rattle.std.specs.List.{AllByRecursion}
use Rattle.table_walk.proofs.Acts.{acts_of}
use Rattle.table_walk.proofs.Lists.{all_append, all_drop, all_filter, all_map, all_of}
use Rattle.table_walk.proofs.Steps.{ActSteps, CommandOf, FoundOf, HeardFrom, InHand, IsOwn, MayCopy, MayEnter, MayFind, MayLearn, MayRaise, MayReplay, MaySay, MaySend, MayTell, MayWrite, Steps, ValueOf, accepted_by_all, alone, brought, copied_chunk, copied_last_chunk, counted, from_chunk, from_commit, from_last, from_last_chunk, heard, origin_of}
use Rattle.table_walk.proofs.Table.{walked}
use Rattle.table_walk.proofs.Walk.{Then}

-- what may come
abbrev pub ComesFine : Me → ℕ → Readings → Made → (shared : List Entry) → AllByRecursion EntryFine shared → Input → Type 0
ComesFine me now w made shared sharing input.Start = Unit {0}
ComesFine me now w made shared sharing (input.Deliver m) = (m.from ≤ 14) × MessageFine m
ComesFine me now w made shared sharing (input.Timer t) = Unit {0}
ComesFine me now w made shared sharing (input.Client s r) = RequestFine r

module _ (me : Me) (now : ℕ) (made : Made) (shared : List Entry) (sharing : AllByRecursion EntryFine shared) (w : Readings) (s : State) (came : Input) (comes : ComesFine me now w made shared sharing came) (rest : Fine (still me w) (at_rest w s)) where
  -- the readings at the beginning, and the count of starts at the end
  abbrev w0 : Base me
  w0 = begun me w s came

  -- what is in hand is fine
  abbrev HandFine : InHand → Type 0
  HandFine (CommandOf c o) = IsCommand c × OriginFine o
  HandFine (FoundOf found) = FoundFine found
  HandFine (ValueOf value o) = Val value
  HandFine other = Unit {0}

  abbrev Goes : InHand → Course → Type 0
  Goes h x = Fine w0 x × HandFine h

  -- ---- reasons

  came_fine : {f e : ℕ} {m : Body} → HeardFrom me came f e m → (f ≤ 14) × IsShort e × BodyFine m
  came_fine C = let k = subst (ComesFine me now w made shared sharing) C.is comes in
      (subst (λ (n : ℕ). n ≤ 14) C.from k.0, subst IsShort C.epoch k.1.0, subst BodyFine C.says k.1.1)

  asked_fine : (c : Input) → ComesFine me now w made shared sharing c → HandFine (brought c)
  asked_fine input.Start k = tt
  asked_fine (input.Deliver m) k = tt
  asked_fine (input.Timer t) k = tt
  asked_fine (input.Client u (request.Set key value)) k = (k, tt)
  asked_fine (input.Client u (request.Remove key)) k = (k, tt)
  asked_fine (input.Client u (request.Log text)) k = (k, tt)
  asked_fine (input.Client u (request.Show v)) k = tt
  asked_fine (input.Client u (request.Since v n)) k = tt

  uncounted : (c : Input) → (c ≡ input.Start → same_phase s.phase phase.Booting ≡ false) → w.boot ≡ boot_after s c w.boot
  uncounted input.Start k = ap (λ (t : Bool). cond t (suc w.boot) w.boot) (sym (k refl))
  uncounted (input.Deliver m) k = refl
  uncounted (input.Timer t) k = refl
  uncounted (input.Client u r) k = refl

  asked_rank : (o : Origin) → OriginFine o → asked_of me o ≤ 14
  asked_rank (origin.Session u) k = let a = me.member.in_map in let b = me.member.most in omega arith
  asked_rank (origin.Forwarded f seq) k = k

  module _ (x : Course) (A : Fine w0 x) where
    abbrev O : OwnFine (own_of x.readings)
    O = A.readings.own

    raised : (c : Change) → MayRaise me came c → Fine w0 (change c x)
    raised (Epoch e) k = epoch_fine me now w0 e x (by k) A
      where
        by : MayEnter me came e → IsShort e
        by (counted short) = short
        by (heard C) = (came_fine C).1
    raised (Numbers pn) k = number_fine (Numbers pn) A tt k refl refl (record { epoch = O.epoch; last_pn = k; promise = k; pending = O.pending; last = O.last; floor = O.floor })
    raised other k = absurd k

    written : (c : Change) → MayWrite me s came x c → Fine w0 (change c x)
    written (Promise pn) k = let short = (came_fine k.4).2 in number_fine (Promise pn) A tt short refl refl (record { epoch = O.epoch; last_pn = O.last_pn; promise = short; pending = O.pending; last = O.last; floor = O.floor })
    written (Last v) k = let short = subst StageFine k.1.1 rest.state.stage in number_fine (Last v) A tt short refl refl (record { epoch = O.epoch; last_pn = O.last_pn; promise = O.promise; pending = O.pending; last = short; floor = O.floor })
    written Unmark k = number_fine Unmark A tt tt refl refl (record { epoch = O.epoch; last_pn = O.last_pn; promise = O.promise; pending = O.pending; last = O.last; floor = omega arith })
    written other k = absurd k

    learnt : {h : InHand} (values : List (List Op)) → HandFine h → MayLearn me came x h values → AllByRecursion Val values
    learnt values k (from_last n C) = all_drop Val n _ (came_fine C).2.0
    learnt values k (from_commit n C) = all_drop Val n _ (came_fine C).2
    learnt values k (from_chunk C) = (came_fine C).2.0
    learnt values k (from_last_chunk C) = (came_fine C).2.0
    learnt values k (accepted_by_all e m) = (subst (λ (o : Option (List Op)). IfSome o Val) e A.state.value, tt)
    learnt values k alone = (k, tt)

    learns_fine : (v : ℕ) (values : List (List Op)) → AllByRecursion Val values → Fine w0 (change_all (learn_changes v values) x)
    learns_fine v values V =
        let same = learned_own v values x.readings (all_spare values V) in
        changes_fine (learn_changes v values) A (learned_calm v values) (learned_fits v values V) (record { own = subst OwnFine (sym same) O; records = learned_cells v values x.readings V A.readings.records }) (ap (λ (o : Own). o.boot) same)

    copied : (v : ℕ) (values : List (List Op)) (entries : List Entry) → MayCopy me came values entries → Fine w0 (x ▸ change_all (record_changes v values) ▸ change_all (copy_changes entries))
    copied v values entries K =
        let F = by K in
        let V = F.0 in
        let E = F.1 in
        let z = played (record_changes v values) x.readings in
        let B = changes_fine (record_changes v values) A (recorded_calm v values) (recorded_fits v values) (record { own = subst OwnFine (sym (records_own v values x.readings)) O; records = recorded_cells v values x.readings V A.readings.records }) (ap (λ (o : Own). o.boot) (records_own v values x.readings)) in
        changes_fine (copy_changes entries) B (copied_calm entries) (copied_fits entries E) (record { own = subst OwnFine (sym (copied_own entries z (entries_spare entries E))) B.readings.own; records = copied_cells entries z E B.readings.records }) (ap (λ (o : Own). o.boot) (copied_own entries z (entries_spare entries E)))
      where
        by : MayCopy me came values entries → AllByRecursion Val values × AllByRecursion EntryFine entries
        by (copied_chunk C) = (came_fine C).2
        by (copied_last_chunk C) = ((came_fine C).2.0, (came_fine C).2.1)

    body_fine : (m : Body) → MaySay me shared x m → BodyFine m
    body_fine (body.ProbeReply quorum first last) t = absurd t
    body_fine (body.Begin pn v value) t = absurd t
    body_fine (body.Accept pn v) t = absurd t
    body_fine (body.Route seq r) t = absurd t
    body_fine (body.Forward seq c) t = absurd t
    body_fine (body.Collect pn first last) t = subst IsShort (sym t) A.state.pn
    body_fine (body.Last pn first last whole from values told) t = subst BodyFine (sym t.1) (answer_fine me.member.monitors (promise_of x.readings) x.readings.first x.readings.last x.readings.record_of (pending x.readings) t.0 A.readings.records (pending_fine x.readings.record_of A.readings.records x.readings.pending_v x.readings.pending_pn x.readings.last))
    body_fine (body.Commit from values) t = absurd t
    body_fine (body.Lease last) t = absurd t
    body_fine (body.Chunk c p values entries end) t = subst BodyFine (sym t) (chunk_fine x.readings.last c p (filter (is_after p.key) shared) me.member.monitors x.readings.record_of O.last A.readings.records (all_filter EntryFine (is_after p.key) shared sharing))
    body_fine (body.LastChunk c p values entries last) t = subst BodyFine (sym t) (chunk_fine x.readings.last c p (filter (is_after p.key) shared) me.member.monitors x.readings.record_of O.last A.readings.records (all_filter EntryFine (is_after p.key) shared sharing))
    body_fine other t = tt

    said_fine : (m : Sent) → MaySend me shared x m → SentOwn me m
    said_fine (sent.Message to m) t = ((subst IsShort (sym t.1) O.epoch, body_fine m.body t.2), t.0)
    said_fine (sent.Reply to r) t = tt

    told_body : (h : InHand) (m : Body) → HandFine h → MayTell me h x m → BodyFine m
    unfolding missed
    told_body h (body.Lease last) k t = tt
    told_body h (body.Commit from values) k (inl t) = subst (AllByRecursion Val) (sym t.3) (subst HandFine t.2 k, tt)
    told_body h (body.Commit from values) k (inr t) = subst (AllByRecursion Val) (sym t) (missed_fine (from - 1))
      where
        missed_fine : (told : ℕ) → AllByRecursion Val (missed me.member.monitors x.readings.record_of x.readings.last told)
        missed_fine told = longest_fine Val (λ vs. fits me.member.monitors (body.Commit (suc told) vs)) (run_from x.readings.record_of x.readings.last (suc told)) (run_fine x.readings.record_of A.readings.records x.readings.last (suc told))
    told_body h other k t = absurd t

    told_fine : (h : InHand) → HandFine h → (m : Sent) → IsOwn me x (MayTell me h x) m → SentOwn me m
    told_fine h k (sent.Message to m) t = ((subst IsShort (sym t.1) O.epoch, told_body h m.body k t.2), t.0)
    told_fine h k (sent.Reply to r) t = tt

    stood : (z : SyncStage) → MayReplay me came x z → StageFine z
    stood sync.Cookie k = tt
    stood sync.Chunks k = tt
    stood (sync.Replay next end) (inl k) = (came_fine k.6).2.2
    stood (sync.Replay next end) (inr k) = subst StageFine k.1 A.state.stage

    found_one : (o : Option Found) → MayFind me came x o → FoundFine o
    found_one None k = tt
    found_one (Some f) (inl e) = subst FoundFine e A.state.found
    found_one (Some f) (inr k) = subst Val (sym k.12) (counts_fine k.8 k.9 (came_fine k.10).2.1 k.11)

    -- another state
    kept : {f : Option Found} {v : Option (List Op)} {p : ℕ} {z : SyncStage} {q : List Waiting} → FoundFine f → IfSome v Val → IsShort p → StageFine z → AllByRecursion WaitingFine q → FineAt Calm me w0 x.readings x.changes f v p z q x.out
    kept {f} {v} {p} {z} {q} F V short Z W = state_fine f v p z q A (record { found = F; value = V; pn = short; stage = Z; queue = W })

  -- ---- steps

  bears : Steps me now shared w s came Goes (Ended w0)
  bears = record {
    before = λ k. (record { shape = tt; stored = rest.stored; tells = rest.tells; boot = uncounted came k; fits = tt; readings = rest.readings; state = rest.state; sends = tt }, asked_fine came comes);
    after = λ A. ended_at A.0;
    marks = λ f C why A. full_sync_fine me now w0 f (at_rest w s) A.0;
    answers_probe = λ f e A. ended_at (tell_fine me (body.ProbeReply (quorum_of s) w.first w.last) f A.0 tt);
    votes = λ {x = x} f e pn v value C t A. let k = (came_fine C).2 in tell_fine me (body.Accept pn v) f (vote_fine v pn value A.0 (k.1, k.0) (vote_readings me now w0 v pn value x.readings k.1 k.2 A.0.readings)) tt;
    writes = λ {x = x} c k A. (written x A.0 c k, A.1);
    replays = λ left v end values t z e A. (learns_fine (disarm timer.Step (at_rest w s)) A.0 v values (subst (λ (o : Option (List (List Op))). IfSome o (AllByRecursion Val)) e (step_of_fine w.record_of A.0.readings.records left v)), tt);
    copies = λ {x = x} v values entries t K A. (copied x A.0 v values entries K, A.1);
    sends = λ {x = x} sends k A. (more_sent sends A.0 (all_map (MaySend me shared x) (SentOwn me) (said_fine x A.0) sends k), tt);
    timers = λ ts A. A;
    elector = λ e A. A;
    prober = λ p A. A;
    peon = λ p k A. A;
    provider = λ p A. A;
    requester = λ {x = x} q k A. (kept x A.0 A.0.state.found A.0.state.value A.0.state.pn (stood x A.0 q.stage k) A.0.state.queue, A.1);
    leader = λ l A. A;
    finds = λ {x = x} l k A. (kept x A.0 (found_one x A.0 l.found k) A.0.state.value A.0.state.pn A.0.state.stage A.0.state.queue, A.1);
    takes_queued = λ q qs e is due A. let W = subst (AllByRecursion WaitingFine) e A.0.state.queue in (kept (disarm timer.Propose (at_rest w s)) A.0 A.0.state.found A.0.state.value A.0.state.pn A.0.state.stage W.1, W.0);
    takes_forwarded = λ f e seq c C new A. (A.0, ((came_fine C).2, (came_fine C).0));
    makes_value = λ {x = x} c o ops short e active A. (A.0, made x.readings (stored_now A.0) c (asked_of me o) ops A.1.0 (asked_rank o A.1.1) A.0.readings.own.last short e);
    queues = λ {x = x} c o short A. ended_at (kept x A.0 A.0.state.found A.0.state.value A.0.state.pn A.0.state.stage (all_append WaitingFine x.state.clients.queue (record { command = c; origin = o } ∷ []) A.0.state.queue (A.1, tt)));
    forwards = λ {x = x} c u peon short fits A. ended_at (tell_fine me (body.Forward x.state.clients.next_seq c) x.state.peon.leader A.0 A.1.0);
    routes = λ f e seq r C k A. ended_at (more_sent _ A.0 (all_of (SentOwn me) (λ (a : Asked). sent.Reply a.session r) (λ a. tt) (filter (λ (a : Asked). eqb a.seq seq) s.clients.sessions)));
    answers = λ {x = x} h r k A. ended_at (more_sent (answers_to me (epoch_of x.readings) (origin_of h) r) A.0 (answers_fine me now w0 (epoch_of x.readings) (origin_of h) r A.0.readings.own.epoch));
  }

  bears_within : ActSteps me now shared w s came Goes (Ended w0)
  unfolding begin_with
  bears_within = record {
    boots = λ is boots short. (
      record {
        shape = (tt, tt);
        stored = rest.stored;
        tells = ap (play (Boot (suc w.boot))) rest.tells;
        boot = ap (λ (t : Bool). cond t (suc w.boot) w.boot) (sym boots) ∙ ap (λ (c : Input). boot_after s c w.boot) (sym is);
        fits = (short, tt);
        readings = record { own = record { epoch = rest.readings.own.epoch; last_pn = rest.readings.own.last_pn; promise = rest.readings.own.promise; pending = rest.readings.own.pending; last = rest.readings.own.last; floor = rest.readings.own.floor }; records = rest.readings.records };
        state = rest.state;
        sends = tt;
      },
      tt,
    );
    raises = λ {x = x} c k A. (raised x A.0 c k, tt);
    learns = λ {x = x} v value values L short A.
        let B = learns_fine x A.0 v (value ∷ values) (learnt x A.0 (value ∷ values) A.1 L) in
        let O = B.readings.own in
        (number_fine (Last (v + length values)) B tt short refl refl (record { epoch = O.epoch; last_pn = O.last_pn; promise = O.promise; pending = O.pending; last = short; floor = O.floor }), A.1);
    proposes = λ {x = x} z value o short leads A.
        let pn = x.state.leader.pn in
        let v = suc x.readings.last in
        let B = vote_fine v pn value A.0 (short, A.0.state.pn) (vote_readings me now w0 v pn value x.readings short A.1 A.0.readings) in
        let S : StateFine x.state.leader.found (Some value) pn x.state.requester.stage x.state.clients.queue = record { found = A.0.state.found; value = A.1; pn = A.0.state.pn; stage = A.0.state.stage; queue = A.0.state.queue } in
        tells_fine me (body.Begin pn v value) (members me x.state.leader.quorum) (state_fine x.state.leader.found (Some value) pn x.state.requester.stage x.state.clients.queue B S) (A.0.state.pn, short, A.1);
    tells = λ {h = h} {x = x} sends k A. (more_sent sends A.0 (all_map (IsOwn me x (MayTell me h x)) (SentOwn me) (told_fine x A.0 h A.1) sends k), A.1);
    leads = λ l A. A;
    enters = λ p k A. A;
    collects = λ {x = x} q pn short A. (kept x A.0 (pending_fine x.readings.record_of A.0.readings.records x.readings.pending_v x.readings.pending_pn x.readings.last) tt short A.0.state.stage A.0.state.queue, tt);
    forgets = λ {x = x} k A. (kept x A.0 A.0.state.found A.0.state.value A.0.state.pn A.0.state.stage tt, A.1);
    takes_found = λ {x = x} how A. (kept x A.0 tt A.0.state.value A.0.state.pn A.0.state.stage A.0.state.queue, A.0.state.found);
    takes_value = λ {x = x} value C e A. (kept x A.0 A.0.state.found tt A.0.state.pn A.0.state.stage A.0.state.queue, subst (λ (o : Option (List Op)). IfSome o Val) e A.0.state.value);
    proposes_found = λ found A. A;
    drops_found = λ found A. (A.0, tt);
    acknowledges = λ {x = x} v value o A. ended_at (more_sent (answers_to me (epoch_of x.readings) o (reply.Done v)) A.0 (answers_fine me now w0 (epoch_of x.readings) o (reply.Done v) A.0.readings.own.epoch));
  }

  -- what holds when it is over, and how often the monitor was started then
  pub react_fine : Then (Ended (begun me w s came)) (react me shared now w s came)
  react_fine = walked bears (acts_of bears bears_within)
