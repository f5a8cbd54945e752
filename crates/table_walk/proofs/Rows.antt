-- The rows of messages, timers and clients, walked once. Each row hands a law the tests that it made, as reasons.
use Rattle.election_rules.specs.declared.scores.Scores.{Scores}
use Rattle.mon_bytes.specs.declared.command.Command.TheVariants as command
use Rattle.mon_bytes.specs.declared.command.Command.{Command}
use Rattle.mon_bytes.specs.declared.command.CommandRefused.{CommandRefused}
use Rattle.mon_bytes.specs.declared.entry.Entry.{Entry}
use Rattle.mon_lease.specs.Lease as lease
use Rattle.mon_lease.specs.Lease.{readable}
use Rattle.mon_msg.specs.Protocol.Answers.{answer_of, is_complete, last_answer, sent_values, told_of}
use Rattle.mon_msg.specs.Protocol.Changes.{Last, Promise, Unmark}
use Rattle.mon_msg.specs.Protocol.Chunks.{copy, hear_chunk, hear_last_chunk, is_ours, take, takes_chunks}
use Rattle.mon_msg.specs.Protocol.Commands.{ask, at_leader, at_peon, hear_forward, hear_route, is_too_long, may_propose, propose_due, too_long}
use Rattle.mon_msg.specs.Protocol.Copying.{awaits_cookie, first_place, hear_cookie, hear_no_cookie, of_provider, same_flag}
use Rattle.mon_msg.specs.Protocol.Course.{Course, change_if, disarm, elector_is, ◌▸◌}
use Rattle.mon_msg.specs.Protocol.Elections.{election_ends, hear_ack, hear_propose, hear_victory, is_allowed, is_whole, may_defer, merge, merged_if_sent, stands_before, table_or, weigh}
use Rattle.mon_msg.specs.Protocol.Entering.{is_even, own_table}
use Rattle.mon_msg.specs.Protocol.Found.{better, counts, is_newer}
use Rattle.mon_msg.specs.Protocol.Hearing.{hear_client}
use Rattle.mon_msg.specs.Protocol.Leader.{all_accepted, all_answered, commit_any, hear_accept, hear_last, hear_lease_ack, is_one_of, note, note_answer, note_pending, of_member, renew}
use Rattle.mon_msg.specs.Protocol.Leading.{has_queue}
use Rattle.mon_msg.specs.Protocol.Learning.{learn, news, news_from}
use Rattle.mon_msg.specs.Protocol.Peon.{cancel, hear_begin, hear_collect, hear_commit, hear_lease, of_leader, promise}
use Rattle.mon_msg.specs.Protocol.Phases.{is_leading, is_member, is_peon, same_phase, votes}
use Rattle.mon_msg.specs.Protocol.Pings.{hear_ping, hear_ping_reply, measure, note_table, ping, with_heard}
use Rattle.mon_msg.specs.Protocol.Places.{is_after, is_cookie, no_cookie, same_cookie, same_place}
use Rattle.mon_msg.specs.Protocol.Proposing.{asked_of, begin_made, propose, propose_first, propose_next, refusal}
use Rattle.mon_msg.specs.Protocol.Providing.{chunk, given_entries, given_values, grant, hear_get_chunk, hear_get_cookie_full, hear_get_cookie_recent, is_finished, reach}
use Rattle.mon_msg.specs.Protocol.Readings.{Readings, epoch_of, promise_of}
use Rattle.mon_msg.specs.Protocol.Reads.{is_standing, read, shown, since}
use Rattle.mon_msg.specs.Protocol.Records.{pending}
use Rattle.mon_msg.specs.Protocol.Replay.{replay_any, replay_step, step_in, step_of}
use Rattle.mon_msg.specs.Protocol.Sending.{others}
use Rattle.mon_msg.specs.Protocol.Services.{service_last}
use Rattle.mon_msg.specs.Protocol.State.{State, lease_of, quorum_of}
use Rattle.mon_msg.specs.Protocol.Table.{at_rest}
use Rattle.mon_msg.specs.Protocol.Value.{service_of, value}
use Rattle.mon_msg.specs.declared.clients.Waiting.{Waiting}
use Rattle.mon_msg.specs.declared.input.Input.TheVariants as input
use Rattle.mon_msg.specs.declared.input.Input.{Input}
use Rattle.mon_msg.specs.declared.limits.TheConstants.{MOST_WAITING}
use Rattle.mon_msg.specs.declared.paxos.Found.{Found}
use Rattle.mon_msg.specs.declared.plan.Origin.TheVariants as origin
use Rattle.mon_msg.specs.declared.plan.Origin.{Origin}
use Rattle.mon_msg.specs.declared.synchronization.SyncStage.TheVariants as sync
use Rattle.mon_msg.specs.declared.synchronization.SyncStage.{SyncStage}
use Rattle.mon_msg.specs.declared.view.Me.{Me}
use Rattle.mon_tx.specs.declared.op.Op.{Op}
use Rattle.mon_types.specs.Ranks.{has, is_majority, no_ranks, with_rank}
use Rattle.mon_types.specs.declared.names.Which.TheVariants as which
use Rattle.mon_types.specs.declared.names.Which.{Which}
use Rattle.mon_wire.specs.declared.body.Body.TheVariants as body
use Rattle.mon_wire.specs.declared.body.Body.{Body}
use Rattle.mon_wire.specs.declared.parts.Cookie.{Cookie}
use Rattle.mon_wire.specs.declared.parts.Place.{Place}
use Rattle.mon_wire.specs.declared.parts.Told.{Told}
use Rattle.mon_wire.specs.declared.phase.Phase.TheVariants as phase
use Rattle.mon_wire.specs.declared.phase.Timer.TheVariants as timer
use Rattle.mon_wire.specs.declared.reply.Reply.TheVariants as reply
use Rattle.mon_wire.specs.declared.reply.Reply.{Reply}
use Rattle.mon_wire.specs.declared.request.Request.TheVariants as request
use Rattle.mon_wire.specs.declared.request.Request.{Request}
use Rattle.mon_wire.specs.declared.request.Session.{Session}
use Rattle.std.proofs.Common.{Bool, Err, List, None, Ok, Option, Result, Some, [], ap, eqb, false, filter, inl, inr, is_some, leb, length, ltb, not, refl, slice_index_or, slice_set, suc, true, ℕ, ◌&&◌, ◌+◌, ◌-◌, ◌^◌, ◌||◌, ◌∙◌, ◌∷◌, ◌≡◌, ◌≤◌}
use Rattle.std.proofs.lemmas.Bool.{and_parts, cond_both, leb-true, not-false, not-true}
use Rattle.table_walk.proofs.Acts.{Acts, Leads, accepted_by, acked_by_all, acked_by_most, arms, disarms, ends, keeps, leading_leads, one_collecting, same_state, sends_one, sends_to}
use Rattle.table_walk.proofs.Learning.{learns}
use Rattle.table_walk.proofs.Steps.{CommandOf, HeardFrom, HeardLast, InHand, MayAnswer, MayCommit, MayCopy, MayFind, MayLearn, MayReplay, MaySay, Nothing, ReadOf, Steps, asked_by, busy_queue, busy_sessions, copied_chunk, copied_last_chunk, from_chunk, from_last_chunk, heard, leading, not_readable, refused, shows_map, shows_since, too_much, unread, unserved}
use Rattle.table_walk.proofs.Walk.{Then, and_then, and_three, both_then, by_test, done, where_fits}

module _ (me : Me) (shared : List Entry) (x : Course) where
  answer_told : (v : ℕ) → MaySay me shared x (last_answer me.member.monitors x.readings v)
  unfolding answer_of
  answer_told v =
      let n = me.member.monitors in
      let promised = promise_of x.readings in
      let first = x.readings.first in
      let last = x.readings.last in
      let found = told_of (pending x.readings) in
      let sent = sent_values n promised first last x.readings.record_of v in
      cond_both (is_complete n promised first last v sent found) (body.Last promised first last true v sent found) (body.Last promised first last false v sent None) (λ (m : Body). m ≡ last_answer n x.readings v → MaySay me shared x m) (λ _ e. (v, e)) (λ _ e. (v, e)) refl

  chunk_told : (c : Cookie) (p : Place) → MaySay me shared x (chunk x.readings.last c p (filter (is_after p.key) shared) me.member.monitors x.readings.record_of)
  unfolding chunk
  chunk_told c p =
      let n = me.member.monitors in
      let last = x.readings.last in
      let left = filter (is_after p.key) shared in
      let values = given_values last c p left n x.readings.record_of in
      let es = given_entries last c p left n values in
      cond_both (reach last p values && is_finished p left es) (body.LastChunk c p values es last) (body.Chunk c p values es (is_finished p left es)) (λ (m : Body). m ≡ chunk last c p left n x.readings.record_of → MaySay me shared x m) (λ _ e. e) (λ _ e. e) refl

module _ {me : Me} {now : ℕ} {shared : List Entry} {w : Readings} {s : State} {came : Input} {P : InHand → Course → Type 0} {Q : Course → Type 0} (b : Steps me now shared w s came P Q) (a : Acts me now shared w s came P Q) where
  -- ---- elections

  weighed : {x : Course} (table : Scores) (f : ℕ) → P Nothing x → Then Q (weigh me now table f x)
  weighed {x = x} table f A =
      by_test (is_allowed me f && stands_before me table f me.member.rank)
      (λ _. by_test (may_defer me table f x.state.elector.deferred) (λ _. ends b (sends_one b f body.Ack tt (b.elector (record x.state.elector { candidate = false; acked = no_ranks; deferred = Some f }) A))) (λ _. ends b A))
      (λ _. by_test (not (is_some x.state.elector.deferred) && not x.state.elector.candidate) (λ _. a.elects A) (λ _. ends b A))

  merged_in : {x : Course} (table : Option Scores) → P Nothing x → P Nothing (merge table x)
  merged_in {x = x} table A = b.elector (record x.state.elector { scores = merged_if_sent table x.state.elector.scores }) A

  pub proposed : {x : Course} (f e : ℕ) (table : Option Scores) → HeardFrom me came f e (body.Propose table) → P Nothing x → Then Q (hear_propose me now f e table x)
  unfolding hear_propose
  proposed {x = x} f e table C A =
      by_test (not (votes x.state.phase) || is_even e) (λ _. ends b A) (λ _.
      by_test (ltb e (epoch_of x.readings)) (λ _. by_test (is_even (epoch_of x.readings) && not (has (quorum_of x.state) f)) (λ _. a.elects A) (λ _. ends b A)) (λ _.
      by_test (ltb (epoch_of x.readings) e) (λ _. weighed (table_or table x.state.elector.scores) f (merged_in table (a.adopts e (heard C) A))) (λ _. weighed (table_or table x.state.elector.scores) f (merged_in table A))))

  pub acked : (f e : ℕ) → HeardFrom me came f e body.Ack → P Nothing (at_rest w s) → Then Q (hear_ack me now f e (at_rest w s))
  unfolding hear_ack
  acked f e C A =
      let x = at_rest w s in
      let by = with_rank x.state.elector.acked f in
      let B = b.elector (record x.state.elector { acked = by }) A in
      by_test (not (votes x.state.phase) || is_even e || ltb e (epoch_of x.readings)) (λ _. ends b A) (λ now.
      by_test (ltb (epoch_of x.readings) e) (λ _. a.elects (a.adopts e (heard C) A)) (λ low.
      by_test x.state.elector.candidate (λ candidate. by_test (is_whole me by && is_allowed me me.member.rank) (λ whole. a.wins by (acked_by_all e now low candidate whole) refl B) (λ _. ends b B)) (λ _. ends b A)))

  pub election_over : P Nothing (disarm timer.Election (at_rest w s)) → Then Q (election_ends me now (disarm timer.Election (at_rest w s)))
  unfolding election_ends
  election_over A =
      let x = disarm timer.Election (at_rest w s) in
      by_test (not (same_phase x.state.phase phase.Electing)) (λ _. ends b A) (λ electing.
      by_test (x.state.elector.candidate && is_allowed me me.member.rank && is_majority me.member.monitors x.state.elector.acked) (λ most. a.wins x.state.elector.acked (acked_by_most (not-false _ electing) most) refl A) (λ _. a.elects A))

  pub lost : {x : Course} (f e : ℕ) (q : List Bool) → HeardFrom me came f e (body.Victory q) → P Nothing x → Then Q (hear_victory me now f e q x)
  unfolding hear_victory
  lost {x = x} f e q C A =
      by_test (not (votes x.state.phase) || not (is_even e) || leb e (epoch_of x.readings)) (λ _. ends b A) (λ _.
      by_test (not (eqb e (suc (epoch_of x.readings)))) (λ _. a.calls f e q C A) (λ _.
      by_test (has q me.member.rank && has q f && is_majority me.member.monitors q)
      (λ _. ends b (a.follows f e q C A)) (λ _. ends b A)))

  -- ---- peons

  promised : {x : Course} (f e pn first last : ℕ) → HeardFrom me came f e (body.Collect pn first last) → P Nothing x → P Nothing (promise pn x)
  promised {x = x} f e pn first last C A = by (ltb (promise_of x.readings) pn)
    where
      by : (t : Bool) → P Nothing (change_if t (Promise pn) x)
      by true = b.writes (Promise pn) (f, e, first, last, C) A
      by false = keeps b A

  cancels : {x : Course} → P Nothing x → P Nothing (cancel x)
  cancels {x = x} A = b.peon (record x.state.peon { lease = None }) (λ t. absurd cc) A

  pub collected : {x : Course} (f e pn first last : ℕ) → HeardFrom me came f e (body.Collect pn first last) → P Nothing x → Then Q (hear_collect me now f e pn first last x)
  unfolding hear_collect
  collected {x = x} f e pn first last C A =
      let y : Course = x ▸ cancel ▸ promise pn in
      by_test (not (of_leader f e x)) (λ _. ends b A) (λ _.
      by_test (ltb (suc x.readings.last) first) (λ _. a.bootstraps A) (λ _.
      where_fits Q which.Version (suc last) _ (λ _. ends b (sends_one b f (last_answer me.member.monitors y.readings (suc last)) (answer_told me shared y (suc last)) (promised f e pn first last C (cancels A))))))

  pub begin_heard : {x : Course} (f e pn v : ℕ) (value : List Op) → HeardFrom me came f e (body.Begin pn v value) → P Nothing x → Then Q (hear_begin me f e pn v value x)
  unfolding hear_begin
  begin_heard {x = x} f e pn v value C A = let t = of_leader f e x && eqb pn (promise_of x.readings) && eqb v (suc x.readings.last) in
      by_test (not t) (λ _. ends b A) (λ k. done (b.votes f e pn v value C (not-false t k) A))

  pub committed : (f e from : ℕ) (values : List (List Op)) → HeardFrom me came f e (body.Commit from values) → P Nothing (at_rest w s) → Then Q (hear_commit f e from values (at_rest w s))
  unfolding hear_commit
  committed f e from values C A = by_test (not (of_leader f e (at_rest w s)) || ltb (suc w.last) from) (λ _. ends b A)
      (λ t. ends_then (learn (suc w.last) (news w.last from values) (at_rest w s)) (a.learns_commit C t A))
    where
      ends_then : (r : Result Course Which) → Then (P Nothing) r → Then Q r
      ends_then (Ok y) k = done (b.after k.holds)
      ends_then (Err e) k = record { holds = tt }

  pub leased : (f e last : ℕ) → HeardFrom me came f e (body.Lease last) → P Nothing (at_rest w s) → Then Q (hear_lease me now f e last (at_rest w s))
  unfolding hear_lease
  leased f e last C A = by_test (not (of_leader f e (at_rest w s)) || not (eqb last w.last) || is_some (pending w)) (λ _. ends b A)
      (λ t. ends b (sends_one b f (body.LeaseAck w.last) tt (arms b timer.Lease (b.peon (record s.peon { lease = lease.extended now }) (λ _. record { leader = f; epoch = e; last = last; said = C; tested = t; first = refl }) A))))

  -- ---- leaders

  same_found : (x : Course) (o : Option Found) → x.state.leader.found ≡ o → MayFind me came x o
  same_found x None e = tt
  same_found x (Some found) e = inl e

  noted : {x : Course} (f last : ℕ) (found : Option Found) → MayFind me came x found → P Nothing x → P Nothing (note_answer f last found x)
  noted {x = x} f last found k A = b.finds (record x.state.leader { answered = with_rank x.state.leader.answered f; lasts = slice_set x.state.leader.lasts f last; found = found }) k A

  module _ {f e pn first last from : ℕ} {whole : Bool} {values : List (List Op)} {told : Option Told} (C : HeardFrom me came f e (body.Last pn first last whole from values told)) where
    notes : {x : Course} (t : Option Told) → counts told ≡ t → P Nothing x → Then (λ y. P Nothing y × (y.state.phase ≡ x.state.phase)) (note_pending f last t x)
    notes {x = x} None is A = done (noted f last x.state.leader.found (same_found x x.state.leader.found refl) A, refl)
    notes {x = x} (Some t) is A = let new : Found = record { version = suc last; pn = t.pn; value = t.value } in where_fits (λ y. P Nothing y × (y.state.phase ≡ x.state.phase)) which.Version (suc last) _ (λ _. done (
      noted f last (better x.state.leader.found new)
          (cond_both (is_newer (suc last) t.pn x.state.leader.found) (Some new) x.state.leader.found (MayFind me came x) (λ _. inr (f, e, pn, first, last, whole, from, values, told, t, C, is, refl)) (λ _. same_found x x.state.leader.found refl)) A,
      refl,
    ))

  pub lasts_heard : (f e pn first last : ℕ) (whole : Bool) (from : ℕ) (values : List (List Op)) (told : Option Told) → HeardFrom me came f e (body.Last pn first last whole from values told) → P Nothing (at_rest w s) → Then Q (hear_last me now f e pn first last whole from values told (at_rest w s))
  unfolding hear_last
  lasts_heard f e pn first last whole from values told C A =
      let x = at_rest w s in
      let own = w.last in
      let H : HeardLast me came = record { sender = f; epoch = e; pn = pn; first = first; last = last; whole = whole; from = from; values = values; told = told; said = C } in
      by_test (not (of_member (phase.Collecting ∷ []) f e x)) (λ _. ends b A) (λ member.
      let collecting = one_collecting x.state.phase (and_three (is_one_of (phase.Collecting ∷ []) x.state.phase) (eqb e (epoch_of x.readings)) (has x.state.leader.quorum f) (not-false _ member)).0 in
      by_test (ltb x.state.leader.pn pn) (λ _. a.collects x.state.leader.quorum pn H collecting A) (λ _.
      by_test (ltb pn x.state.leader.pn) (λ _. ends b A) (λ _.
      by_test (ltb (suc own) first && ltb own last) (λ _. a.bootstraps A) (λ _.
      and_then (λ y. P Nothing y × (y.state ≡ x.state)) Q (learn (news_from own from) (news own from values) x) _
      (both_then (P Nothing) (λ y. y.state ≡ x.state) (learn (news_from own from) (news own from values) x) (a.learns_last C collecting A) (same_state x (learn (news_from own from) (news own from values) x) (learns (news_from own from) (news own from values) x))) (λ y B.
      let still = ap (λ (q : State). q.phase) B.1 ∙ collecting in
      by_test whole
      (λ _. and_then (λ z. P Nothing z × (z.state.phase ≡ y.state.phase)) Q (note f last told y) _ (notes C (counts told) refl B.0) (λ z D. by_test (all_answered me z) (λ all. a.settles (record { heard = H; collecting = D.1 ∙ still; all = all }) D.0) (λ _. ends b D.0)))
      (λ _. a.collects y.state.leader.quorum 0 H still B.0))))))

  pub accepted : (f e pn v : ℕ) → HeardFrom me came f e (body.Accept pn v) → P Nothing (at_rest w s) → Then Q (hear_accept me now f e pn v (at_rest w s))
  unfolding hear_accept
  accepted f e pn v C A =
      let y : Course = accepted_by f (at_rest w s) in
      let B : P Nothing y = b.leader (record s.leader { accepted = with_rank s.leader.accepted f }) A in
      by_test (not (of_member (phase.Previous ∷ phase.Updating ∷ []) f e (at_rest w s) && eqb pn s.leader.pn && eqb v (suc w.last))) (λ _. ends b A)
      (λ t. by_test (all_accepted me y) (λ all. any s.leader.value refl (record { sender = f; epoch = e; pn = pn; v = v; said = C; tested = not-false _ t; all = all }) refl B) (λ _. ends b B))
    where
      any : {y : Course} (value : Option (List Op)) → y.state.leader.value ≡ value → (k : MayCommit me came y) → y ≡ accepted_by k.sender (at_rest w s) → P Nothing y → Then Q (commit_any me now value y)
      any None e k first A = ends b A
      any (Some value) e k first A = a.commits value e k first A

  pub lease_acked : {x : Course} (f e last : ℕ) → P Nothing x → Then Q (hear_lease_ack me f e last x)
  unfolding hear_lease_ack
  lease_acked {x = x} f e last A = by_test (not (of_member (phase.Active ∷ []) f e x && eqb last x.readings.last)) (λ _. ends b A)
      (λ _. ends b (b.timers _ (b.leader (record x.state.leader { acks = with_rank x.state.leader.acks f }) A)))

  pub renewed : {x : Course} → P Nothing x → Then Q (renew me now x)
  unfolding renew
  renewed {x = x} A = by_test (not (same_phase x.state.phase phase.Active)) (λ _. ends b A) (λ t. done (a.renews _ (not-false _ t) A))

  -- ---- clients

  proposes : {x : Course} (c : Command) (o : Origin) → same_phase x.state.phase phase.Active ≡ true → P (CommandOf c o) x → Then Q (propose me now c o x)
  unfolding propose
  proposes {x = x} c o active A = where_fits Q which.Version (suc (service_last x.readings (service_of c))) _ (λ short. by short (value x.readings c (asked_of me o)) refl)
    where
      by : suc (service_last x.readings (service_of c)) ≤ 2 ^ 62 → (r : Result (List Op) CommandRefused) → value x.readings c (asked_of me o) ≡ r → Then Q (begin_made me now o r x)
      by short (Ok ops) e = a.begins ops o active (b.makes_value c o ops short e active A)
      by short (Err y) e = done (b.answers (CommandOf c o) (refusal y) (refused y active short e) (b.timers _ A))

  leader_asked : {x : Course} (c : Command) (o : Origin) → Leads x → P (CommandOf c o) x → Then Q (at_leader me now c o x)
  leader_asked {x = x} c o k A =
      by_test (is_too_long c) (λ t. done (b.answers (CommandOf c o) (too_long c) (too_much t) A)) (λ short.
      by_test (may_propose me now x && not (has_queue x)) (λ t. proposes c o (and_three (same_phase x.state.phase phase.Active) (is_standing me now x.state) (not (has_queue x)) t).0 A) (λ _.
      by_test (leb MOST_WAITING (length x.state.clients.queue)) (λ t. done (b.answers (CommandOf c o) (reply.Busy MOST_WAITING) (busy_queue k (leb-true MOST_WAITING _ t)) A)) (λ _. done (b.queues c o short A))))

  peon_asked : {x : Course} (c : Command) (u : Session) → is_peon x.state.phase ≡ true → P (CommandOf c (origin.Session u)) x → Then Q (at_peon me c u x)
  peon_asked {x = x} c u peon A = let h = CommandOf c (origin.Session u) in
      by_test (is_too_long c) (λ t. done (b.answers h (too_long c) (too_much t) A)) (λ short.
      by_test (leb MOST_WAITING (length x.state.clients.sessions)) (λ t. done (b.answers h (reply.Busy MOST_WAITING) (busy_sessions peon (leb-true MOST_WAITING _ t)) A))
      (λ _. where_fits Q which.Seq x.state.clients.next_seq _ (λ fits. done (b.forwards c u peon short fits A))))

  asks : {x : Course} (c : Command) (u : Session) → P (CommandOf c (origin.Session u)) x → Then Q (ask me now u c x)
  unfolding ask
  asks {x = x} c u A = by_test (is_leading x.state.phase) (λ leads. leader_asked c (origin.Session u) leads A) (λ no. by_test (is_peon x.state.phase) (λ peon. peon_asked c u peon A) (λ nor. done (b.answers (CommandOf c (origin.Session u)) reply.Unavailable (unserved (ap (λ (t : Bool). t || is_peon x.state.phase) no ∙ nor)) A)))

  pub forwarded : (f e seq : ℕ) (c : Command) → HeardFrom me came f e (body.Forward seq c) → P Nothing (at_rest w s) → Then Q (hear_forward me now f e seq c (at_rest w s))
  unfolding hear_forward
  forwarded f e seq c C A =
      let x = at_rest w s in
      by_test (not (of_member leading f e x && ltb (slice_index_or s.clients.taken f 0) seq)) (λ _. ends b A)
      (λ t. leader_asked c (origin.Forwarded f seq) (leading_leads s.phase (and_three (is_one_of leading s.phase) (eqb e (epoch_of w)) (has s.leader.quorum f) (and_parts (of_member leading f e x) _ (not-false _ t)).0).0) (b.takes_forwarded f e seq c C (not-false _ t) A))

  pub routed : (f e seq : ℕ) (r : Reply) → HeardFrom me came f e (body.Route seq r) → P Nothing (at_rest w s) → Then Q (hear_route f e seq r (at_rest w s))
  unfolding hear_route
  routed f e seq r C A = by_test (not (of_leader f e (at_rest w s))) (λ _. ends b A) (λ t. done (b.routes f e seq r C (not-false _ t) A))

  pub due : came ≡ input.Timer timer.Propose → P Nothing (disarm timer.Propose (at_rest w s)) → Then Q (propose_due me now (disarm timer.Propose (at_rest w s)))
  unfolding propose_due propose_next
  due is A = let x = disarm timer.Propose (at_rest w s) in by_test (may_propose me now x) (λ t. first t s.clients.queue refl) (λ _. ends b A)
    where
      first : may_propose me now (disarm timer.Propose (at_rest w s)) ≡ true → (qs : List Waiting) → s.clients.queue ≡ qs → Then Q (propose_first me now qs (disarm timer.Propose (at_rest w s)))
      first t [] e = ends b A
      first t (q ∷ qs) e = proposes q.command q.origin (and_parts (same_phase s.phase phase.Active) (is_standing me now (disarm timer.Propose (at_rest w s)).state) t).0 (b.takes_queued q qs e is t A)

  reads : (u : Session) (r : Request) (reading : Readings → Reply) → (is_member s.phase ≡ true → readable w.last me.member.monitors (lease_of s) now ≡ true → MayAnswer me now w s (at_rest w s) (ReadOf u r) (reading w)) → P (ReadOf u r) (at_rest w s) → Then Q (read me now u reading (at_rest w s))
  reads u r reading k A =
      by_test (not (is_member s.phase)) (λ t. done (b.answers (ReadOf u r) reply.Unavailable (unread (not-true _ t)) A)) (λ member.
      by_test (not (readable w.last me.member.monitors (lease_of s) now)) (λ t. done (b.answers (ReadOf u r) (reply.NotReadable w.last (is_standing me now s)) (not_readable (not-false _ member) (not-true _ t)) A)) (λ t. done (b.answers (ReadOf u r) (reading w) (k (not-false _ member) (not-false _ t)) A)))

  pub client_asked : (u : Session) (r : Request) → P (asked_by r u) (at_rest w s) → Then Q (hear_client me now u r (at_rest w s))
  unfolding hear_client
  client_asked u (request.Set key value) A = asks (command.Set key value) u A
  client_asked u (request.Remove key) A = asks (command.Remove key) u A
  client_asked u (request.Log text) A = asks (command.Log text) u A
  client_asked u (request.Show v) A = reads u (request.Show v) (λ z. shown z v) (shows_map v refl) A
  client_asked u (request.Since v n) A = reads u (request.Since v n) (λ z. since z v n) (shows_since v n refl) A

  -- ---- synchronization

  grants : {x : Course} (full : Bool) (f : ℕ) → P Nothing x → Then Q (grant me full f x)
  grants {x = x} full f A = let n = x.state.provider.next_cookie in let c : Cookie = record { boot = x.readings.boot; seq = n } in where_fits Q which.Cookie n _ (λ _.
      ends b (sends_one b f (body.Cookie full c x.readings.last) tt (b.provider (record { cookies = slice_set x.state.provider.cookies f (Some c); next_cookie = suc n }) A)))

  pub full_asked : {x : Course} (f : ℕ) → P Nothing x → Then Q (hear_get_cookie_full me f x)
  unfolding hear_get_cookie_full
  full_asked {x = x} f A = by_test x.readings.marked (λ _. ends b A) (λ _. grants true f A)

  pub recent_asked : {x : Course} (f last : ℕ) → P Nothing x → Then Q (hear_get_cookie_recent me f last x)
  unfolding hear_get_cookie_recent
  recent_asked {x = x} f last A = by_test x.readings.marked (λ _. ends b A) (λ _. by_test (ltb (suc last) x.readings.first) (λ _. ends b (sends_one b f (body.NoCookie no_cookie) tt A)) (λ _. grants false f A))

  pub chunk_asked : {x : Course} (f : ℕ) (c : Cookie) (p : Place) → P Nothing x → Then Q (hear_get_chunk me shared f c p x)
  unfolding hear_get_chunk
  chunk_asked {x = x} f c p A =
      let left = filter (is_after p.key) shared in
      by_test x.readings.marked (λ _. ends b A) (λ _.
      by_test (not (is_cookie c (slice_index_or x.state.provider.cookies f None)) || ltb (suc p.version) x.readings.first) (λ _. ends b (sends_one b f (body.NoCookie c) tt A))
      (λ _. ends b (sends_one b f (chunk x.readings.last c p left me.member.monitors x.readings.record_of) (chunk_told me shared x c p) A)))

  pub cookie_heard : {x : Course} (f : ℕ) (full : Bool) (c : Cookie) (last : ℕ) → P Nothing x → Then Q (hear_cookie me now f full c last x)
  unfolding hear_cookie
  cookie_heard {x = x} f full c last A =
      let r = x.state.requester in
      let p = first_place full last x.readings.last in
      by_test (not (of_provider f x && awaits_cookie r.stage && same_flag full r.full) || (full && ltb last x.readings.floor)) (λ _. ends b A)
      (λ _. ends b (arms b timer.Sync (sends_one b r.provider (body.GetChunk c p) tt (b.requester (record r { stage = sync.Chunks; cookie = Some c; start = p.version; place = p }) tt A))))

  pub no_cookie_heard : {x : Course} (f : ℕ) (c : Cookie) → P Nothing x → Then Q (hear_no_cookie me now f c x)
  unfolding hear_no_cookie
  no_cookie_heard {x = x} f c A =
      by_test (of_provider f x && (is_cookie c x.state.requester.cookie || (awaits_cookie x.state.requester.stage && not x.state.requester.full && same_cookie c no_cookie))) (λ _. a.bootstraps A) (λ _. ends b A)

  same_stage : (x : Course) (z : SyncStage) → x.state.requester.stage ≡ z → MayReplay me came x z
  same_stage x sync.Cookie e = tt
  same_stage x sync.Chunks e = tt
  same_stage x (sync.Replay next end) e = inr (next, e)

  ours_synchronize : (f : ℕ) (c : Cookie) (p : Place) (x : Course) → is_ours f c p x ≡ true → same_phase x.state.phase phase.Synchronizing ≡ true
  ours_synchronize f c p x t =
      let a = (and_parts (of_provider f x && takes_chunks x.state.requester.stage && is_cookie c x.state.requester.cookie) (same_place p x.state.requester.place) t).0 in
      let d = (and_three (of_provider f x) (takes_chunks x.state.requester.stage) (is_cookie c x.state.requester.cookie) a).0 in
      (and_parts (same_phase x.state.phase phase.Synchronizing) (eqb f x.state.requester.provider) d).0

  module _ {x : Course} {values : List (List Op)} {entries : List Entry} (copying : same_phase x.state.phase phase.Synchronizing ≡ true) (L : MayLearn me came x Nothing values) (K : MayCopy me came values entries) where
    copied : (full : Bool) (v : ℕ) → P Nothing x → Then (P Nothing) (copy full v values entries x)
    copied true v A = done (b.copies v values entries copying K A)
    copied false v A = a.learns_chunk v values copying L A

    takes : (p : Place) (end : Bool) → P Nothing x → Then (P Nothing) (take p values entries end x)
    takes p end A = where_fits (P Nothing) which.Version (p.version + length values) _ (λ _.
        and_then (P Nothing) (P Nothing) (copy x.state.requester.full (suc p.version) values entries x) _ (copied x.state.requester.full (suc p.version) A) (λ y B. done (b.requester _ (same_stage y y.state.requester.stage refl) B)))

  pub chunk_heard : {x : Course} (f e : ℕ) (c : Cookie) (p : Place) (values : List (List Op)) (entries : List Entry) (end : Bool) → HeardFrom me came f e (body.Chunk c p values entries end) → P Nothing x → Then Q (hear_chunk me now f c p values entries end x)
  unfolding hear_chunk
  chunk_heard {x = x} f e c p values entries end C A = by_test (is_ours f c p x)
      (λ t. let copying = ours_synchronize f c p x t in and_then (P Nothing) Q (take p values entries end x) _ (takes copying (from_chunk C) (copied_chunk C) p end A) (λ y B. ends b (arms b timer.Sync (sends_one b y.state.requester.provider (body.GetChunk c y.state.requester.place) tt B)))) (λ _. ends b A)

  pub last_chunk_heard : {x : Course} (f e : ℕ) (c : Cookie) (p : Place) (values : List (List Op)) (entries : List Entry) (last : ℕ) → HeardFrom me came f e (body.LastChunk c p values entries last) → P Nothing x → Then Q (hear_last_chunk me now f c p values entries last x)
  unfolding hear_last_chunk
  last_chunk_heard {x = x} f e c p values entries last C A = by_test (is_ours f c p x)
      (λ t. let copying = ours_synchronize f c p x t in and_then (P Nothing) Q (take p values entries true x) _ (takes copying (from_last_chunk C) (copied_last_chunk C) p true A) (λ y B. by_test y.state.requester.full
      (λ _. where_fits Q which.Version (suc y.state.requester.start) _ (λ _. ends b (arms b timer.Step (disarms b timer.Sync (b.requester (record y.state.requester { stage = sync.Replay (suc y.state.requester.start) last }) (inl (f, e, c, p, values, entries, C)) B)))))
      (λ _. a.bootstraps B))) (λ _. ends b A)

  replays : (next end : ℕ) (values : Option (List (List Op))) → same_phase s.phase phase.Synchronizing ≡ true → s.requester.stage ≡ sync.Replay next end → step_of w.record_of (suc end - next) next ≡ values → P Nothing (disarm timer.Step (at_rest w s)) → Then Q (replay_any me now next end values (disarm timer.Step (at_rest w s)))
  replays next end None t o e A = a.bootstraps A
  replays next end (Some values) t o e A =
      let B = b.replays (suc end - next) next end values t o e A in
      by_test (ltb end (next + length values)) (λ _. a.bootstraps (b.writes Unmark tt (b.writes (Last end) (t, (next, o), refl) B)))
      (λ _. ends b (arms b timer.Step (b.requester (record s.requester { stage = sync.Replay (next + length values) end }) (inr (next, o)) B)))

  pub steps : P Nothing (disarm timer.Step (at_rest w s)) → Then Q (replay_step me now (disarm timer.Step (at_rest w s)))
  unfolding replay_step
  steps A = by_test (same_phase s.phase phase.Synchronizing) (λ t. at t s.requester.stage refl) (λ _. ends b A)
    where
      at : same_phase s.phase phase.Synchronizing ≡ true → (z : SyncStage) → s.requester.stage ≡ z → Then Q (step_in me now z (disarm timer.Step (at_rest w s)))
      at t sync.Cookie e = ends b A
      at t sync.Chunks e = ends b A
      at t (sync.Replay next end) e = replays next end (step_of w.record_of (suc end - next) next) t e refl A

  -- ---- pings

  pub pinged : {x : Course} (f : ℕ) (table : Option Scores) → P Nothing x → Then Q (hear_ping me f table x)
  unfolding hear_ping
  pinged f None A = ends b A
  pinged {x = x} f (Some table) A = ends b (sends_one b f (body.PingReply (own_table me (note_table f table x))) tt (b.elector (with_heard f table x.state.elector) A))

  pub ping_answered : {x : Course} (f : ℕ) (table : Option Scores) → P Nothing x → Then Q (hear_ping_reply f table x)
  unfolding hear_ping_reply
  ping_answered f None A = ends b A
  ping_answered {x = x} f (Some table) A = ends b (b.elector (with_heard f table x.state.elector) A)

  pub pings : {x : Course} → P Nothing x → Then Q (ping me now x)
  unfolding ping
  pings {x = x} A = let B = b.elector (measure me now x.state.elector) A in ends b (arms b timer.Ping (sends_to b (others me) (body.Ping (own_table me (elector_is (measure me now x.state.elector) x))) tt B))
