-- The rows leave a monitor that waits for a timer.
use Rattle.law_names.proofs.Table.{Command, CommandRefused, Cookie, Course, Entry, Epoch, Last, MOST_WAITING, Me, Op, Origin, Phase, Place, Readings, Reply, Request, Scores, Session, SyncStage, Timer, Told, Unmark, Waiting as Waiting_, adopt, all_accepted, all_answered, are_within, ask, asked_of, at_leader, at_peon, awaits_cookie, begin_made, change, change_all, clients_are, commit_any, copy, count_of, counts, disarm, disarmed, election_ends, elector_is, epoch_of, extend, grant, has, has_queue, hear_accept, hear_ack, hear_begin, hear_chunk, hear_client, hear_collect, hear_commit, hear_cookie, hear_forward, hear_get_chunk, hear_get_cookie_full, hear_get_cookie_recent, hear_last, hear_last_chunk, hear_lease, hear_lease_ack, hear_no_cookie, hear_ping, hear_ping_reply, hear_probe, hear_probe_reply, hear_propose, hear_route, hear_victory, index_of, is_allowed, is_cookie, is_done, is_empty, is_even, is_leading, is_majority, is_member, is_ours, is_peon, is_too_long, is_whole, lag, leader_is, learn, learn_changes, lease_of, may_defer, may_propose, members, merge, news, news_from, no_cookie, note, note_pending, of_leader, of_member, of_provider, pending, ping, prober_is, promise_of, propose, propose_due, propose_first, propose_next, quorum_of, read, readable, renew, replay_any, replay_or_end, replay_step, same_cookie, same_flag, same_phase, same_place, service_last, service_of, shown, since, stands_before, step_in, step_of, table_or, take, takes_chunks, value, votes, weigh, with_rank, ◌▸◌}
use Rattle.mon_bytes.specs.declared.command.Command.TheVariants as command
use Rattle.mon_msg.specs.declared.paxos.LeaderStage.TheVariants as stage
use Rattle.mon_msg.specs.declared.plan.Origin.TheVariants as origin
use Rattle.mon_msg.specs.declared.synchronization.SyncStage.TheVariants as sync
use Rattle.mon_types.specs.declared.names.Which.TheVariants as which
use Rattle.mon_wire.specs.declared.phase.Phase.TheVariants as phase
use Rattle.mon_wire.specs.declared.phase.Timer.TheVariants as timer
use Rattle.mon_wire.specs.declared.request.Request.TheVariants as request
use Rattle.quorum_timed.proofs.Acts.{Timed, Waiting, adopt_waits, begin_waits, bootstrap_waits, collect_waits, commit_waits, elect_waits, full_sync_waits, learn_stays, recent_sync_waits, settle_waits, win_waits}
use Rattle.quorum_timed.proofs.Armed.{Good, Rests, active_by, arm_if_rests, arm_once_if_rests, arm_rests, disarm_rests, disarmed_good, fresh, in_good, not_election, not_lease_ack, not_renew, not_step, synchronizing_is}
use Rattle.quorum_timed.specs.Waiting.{copies_by, timer_of}
use Rattle.quorum_walk.proofs.Walk.{Then, and_then, and_three, by_test, done, where_fits}
use Rattle.std.proofs.Common.{Bool, Err, List, None, Ok, Option, Result, Some, [], ap, eqb, false, is_some, leb, length, ltb, not, refl, slice_index_or, slice_set, suc, true, ℕ, ◌&&◌, ◌+◌, ◌-◌, ◌||◌, ◌∙◌, ◌∷◌, ◌≡◌, ◌≤◌}
use Rattle.std.proofs.lemmas.Bool.{and_parts, cond_both, not-false, not-true, or_parts}

module _ (me : Me) (b now : ℕ) (le : now ≤ b) (many : ltb 1 me.member.monitors ≡ true) where
  abbrev W : Course → Type 0
  W = Waiting me b

  -- ---- elections

  weigh_waits : (table : Scores) (f : ℕ) (x : Course) → W x → Then W (weigh me now table f x)
  weigh_waits table f x A =
      by_test (is_allowed me f && stands_before me table f me.member.rank)
      (λ _. by_test (may_defer me table f x.state.elector.deferred) (λ _. done A) (λ _. done A))
      (λ _. by_test (not (is_some x.state.elector.deferred) && not x.state.elector.candidate) (λ _. elect_waits me b now le many x A.good) (λ _. done A))

  pub hear_propose_waits : (f e : ℕ) (table : Option Scores) (x : Course) → W x → Then W (hear_propose me now f e table x)
  unfolding hear_propose
  hear_propose_waits f e table x A =
      by_test (not (votes x.state.phase) || is_even e) (λ _. done A) (λ _.
      by_test (ltb e (epoch_of x.readings)) (λ _. by_test (is_even (epoch_of x.readings) && not (has (quorum_of x.state) f)) (λ _. elect_waits me b now le many x A.good) (λ _. done A)) (λ _.
      by_test (ltb (epoch_of x.readings) e) (λ _. weigh_waits (table_or table x.state.elector.scores) f (merge table (adopt now e x)) (adopt_waits me b now le many e x A.good)) (λ _. weigh_waits (table_or table x.state.elector.scores) f (merge table x) A)))

  pub hear_ack_waits : (f e : ℕ) (x : Course) → W x → Then W (hear_ack me now f e x)
  unfolding hear_ack
  hear_ack_waits f e x A =
      let acked = with_rank x.state.elector.acked f in
      let y : Course = elector_is (record x.state.elector { acked = acked }) x in
      let B : W (adopt now e x) = adopt_waits me b now le many e x A.good in
      by_test (not (votes x.state.phase) || is_even e || ltb e (epoch_of x.readings)) (λ _. done A) (λ _.
      by_test (ltb (epoch_of x.readings) e) (λ _. elect_waits me b now le many (adopt now e x) B.good) (λ _.
      by_test x.state.elector.candidate (λ _. by_test (is_whole me acked && is_allowed me me.member.rank) (λ _. win_waits me b now le many acked y A.good) (λ _. done A)) (λ _. done A)))

  pub election_ends_waits : (x : Course) → W x → Then W (election_ends me now (disarm timer.Election x))
  unfolding election_ends
  election_ends_waits x A =
      let y : Course = disarm timer.Election x in
      let G : Timed me b y = disarmed_good b timer.Election x.state.timers A.good in
      by_test (not (same_phase x.state.phase phase.Electing)) (λ t. done (disarm_rests me b timer.Election x.state.timers (not_election x.state.phase x.state.requester.stage (not-true (same_phase x.state.phase phase.Electing) t)) A)) (λ _.
      by_test (x.state.elector.candidate && is_allowed me me.member.rank && is_majority me.member.monitors x.state.elector.acked) (λ _. win_waits me b now le many x.state.elector.acked y G) (λ _. elect_waits me b now le many y G))

  pub hear_victory_waits : (f e : ℕ) (q : List Bool) (x : Course) → W x → Then W (hear_victory me now f e q x)
  unfolding hear_victory
  hear_victory_waits f e q x A =
      by_test (not (votes x.state.phase) || not (is_even e) || leb e (epoch_of x.readings)) (λ _. done A) (λ _.
      by_test (not (eqb e (suc (epoch_of x.readings)))) (λ _. elect_waits me b now le many (change (Epoch e) x) A.good) (λ _.
      by_test (has q me.member.rank && has q f && is_majority me.member.monitors q) (λ _. done (fresh me b now le timer.Lease _ refl (in_good b phase.Peon x.state A.good))) (λ _. done A)))

  -- ---- peons

  pub hear_collect_waits : (f e : ℕ) (pn first last : ℕ) (x : Course) → W x → Then W (hear_collect me now f e pn first last x)
  unfolding hear_collect
  hear_collect_waits f e pn first last x A =
      by_test (not (of_leader f e x)) (λ _. done A) (λ _.
      by_test (ltb (suc x.readings.last) first) (λ _. bootstrap_waits me b now le many x A.good) (λ _.
      where_fits W which.Version (suc last) _ (λ _. done A)))

  pub hear_begin_waits : (f e : ℕ) (pn v : ℕ) (value : List Op) (x : Course) → W x → Then W (hear_begin me f e pn v value x)
  unfolding hear_begin
  hear_begin_waits f e pn v value x A =
      by_test (not (of_leader f e x && eqb pn (promise_of x.readings) && eqb v (suc x.readings.last))) (λ _. done A) (λ _. done A)

  learn_waits : (v : ℕ) (values : List (List Op)) (x : Course) → W x → Then W (learn v values x)
  learn_waits v values x A = learn_stays (λ s. Rests me b s.phase s.requester.stage s.leader.quorum s.timers) v values x A

  pub hear_commit_waits : (f e : ℕ) (from : ℕ) (values : List (List Op)) (x : Course) → W x → Then W (hear_commit f e from values x)
  unfolding hear_commit
  hear_commit_waits f e from values x A =
      by_test (not (of_leader f e x) || ltb (suc x.readings.last) from) (λ _. done A) (λ _. learn_waits (suc x.readings.last) (news x.readings.last from values) x A)

  pub hear_lease_waits : (f e : ℕ) (last : ℕ) (x : Course) → W x → Then W (hear_lease me now f e last x)
  unfolding hear_lease
  hear_lease_waits f e last x A = by_test (not (of_leader f e x) || not (eqb last x.readings.last) || is_some (pending x.readings)) (λ _. done A) (λ _. done (arm_rests me b now le timer.Lease x.state.timers A))

  -- ---- leaders

  note_waits : (f last : ℕ) (told : Option Told) (x : Course) → W x → Then W (note f last told x)
  note_waits f last told x A = by (counts told)
    where
      by : (t : Option Told) → Then W (note_pending f last t x)
      by None = done A
      by (Some t) = where_fits W which.Version (suc last) _ (λ _. done A)

  pub hear_last_waits : (f e : ℕ) (pn first last : ℕ) (whole : Bool) (from : ℕ) (values : List (List Op)) (told : Option Told) (x : Course) → W x → Then W (hear_last me now f e pn first last whole from values told x)
  unfolding hear_last
  hear_last_waits f e pn first last whole from values told x A =
      let own = x.readings.last in
      by_test (not (of_member (phase.Collecting ∷ []) f e x)) (λ _. done A) (λ _.
      by_test (ltb x.state.leader.pn pn) (λ _. collect_waits me b now le many x.state.leader.quorum pn x A.good) (λ _.
      by_test (ltb pn x.state.leader.pn) (λ _. done A) (λ _.
      by_test (ltb (suc own) first && ltb own last) (λ _. bootstrap_waits me b now le many x A.good) (λ _.
      and_then W W (learn (news_from own from) (news own from values) x) _ (learn_waits (news_from own from) (news own from values) x A) (λ y B.
      by_test whole
      (λ _. and_then W W (note f last told y) _ (note_waits f last told y B) (λ z C. by_test (all_answered me z) (λ _. settle_waits me b now le many z C.good) (λ _. done C)))
      (λ _. collect_waits me b now le many y.state.leader.quorum 0 y B.good))))))

  pub hear_accept_waits : (f e : ℕ) (pn v : ℕ) (x : Course) → W x → Then W (hear_accept me now f e pn v x)
  unfolding hear_accept
  hear_accept_waits f e pn v x A =
      let y : Course = leader_is (record x.state.leader { accepted = with_rank x.state.leader.accepted f }) x in
      by_test (not (of_member (phase.Previous ∷ phase.Updating ∷ []) f e x && eqb pn x.state.leader.pn && eqb v (suc x.readings.last))) (λ _. done A)
      (λ _. by_test (all_accepted me y) (λ _. commits x.state.leader.value y A) (λ _. done A))
    where
      commits : (value : Option (List Op)) (y : Course) → W y → Then W (commit_any me now value y)
      commits None y A = done A
      commits (Some value) y A = commit_waits me b now le many value y A.good

  pub hear_lease_ack_waits : (f e : ℕ) (last : ℕ) (x : Course) → W x → Then W (hear_lease_ack me f e last x)
  unfolding hear_lease_ack
  hear_lease_ack_waits f e last x A =
      let acks = with_rank x.state.leader.acks f in
      by_test (not (of_member (phase.Active ∷ []) f e x && eqb last x.readings.last)) (λ _. done A)
      (λ _. done (cond_both (are_within me.member.monitors x.state.leader.quorum acks) (disarmed timer.LeaseAck x.state.timers) x.state.timers (Rests me b x.state.phase x.state.requester.stage x.state.leader.quorum)
      (λ _. disarm_rests me b timer.LeaseAck x.state.timers (not_lease_ack x.state.phase x.state.requester.stage) A) (λ _. A)))

  pub renew_waits : (x : Course) → W x → Then W (renew me now (disarm timer.Renew x))
  unfolding renew extend
  renew_waits x A =
      let G : Good b (disarmed timer.Renew x.state.timers) = disarmed_good b timer.Renew x.state.timers A.good in
      by_test (not (same_phase x.state.phase phase.Active)) (λ t. done (disarm_rests me b timer.Renew x.state.timers (not_renew x.state.phase x.state.requester.stage (not-true (same_phase x.state.phase phase.Active) t)) A))
      (λ t. done (arm_if_rests me b now le (has_queue x) timer.Propose _ (arm_once_if_rests me b now le (not (is_empty (members me x.state.leader.quorum))) timer.LeaseAck _
      (fresh me b now le timer.Renew _ (active_by x.state.phase x.state.requester.stage (not-false (same_phase x.state.phase phase.Active) t)) G))))

  -- ---- clients

  propose_waits : (c : Command) (o : Origin) (x : Course) → W x → Then W (propose me now c o x)
  unfolding propose
  propose_waits c o x A = where_fits W which.Version (suc (service_last x.readings (service_of c))) _ (λ _. by (value x.readings c (asked_of me o)))
    where
      by : (r : Result (List Op) CommandRefused) → Then W (begin_made me now o r x)
      by (Ok y) = begin_waits me b now le many stage.Updating (λ _. refl) y (Some o) x A.good
      by (Err e) = done (arm_if_rests me b now le (has_queue x) timer.Propose x.state.timers A)

  at_leader_waits : (c : Command) (o : Origin) (x : Course) → W x → Then W (at_leader me now c o x)
  at_leader_waits c o x A =
      by_test (is_too_long c) (λ _. done A) (λ _.
      by_test (may_propose me now x && not (has_queue x)) (λ _. propose_waits c o x A) (λ _.
      by_test (leb MOST_WAITING (length x.state.clients.queue)) (λ _. done A) (λ _. done A)))

  at_peon_waits : (c : Command) (s : Session) (x : Course) → W x → Then W (at_peon me c s x)
  at_peon_waits c s x A =
      by_test (is_too_long c) (λ _. done A) (λ _.
      by_test (leb MOST_WAITING (length x.state.clients.sessions)) (λ _. done A)
      (λ _. where_fits W which.Seq x.state.clients.next_seq _ (λ _. done A)))

  ask_waits : (s : Session) (c : Command) (x : Course) → W x → Then W (ask me now s c x)
  unfolding ask
  ask_waits s c x A =
      by_test (is_leading x.state.phase) (λ _. at_leader_waits c (origin.Session s) x A)
      (λ _. by_test (is_peon x.state.phase) (λ _. at_peon_waits c s x A) (λ _. done A))

  pub hear_forward_waits : (f e : ℕ) (seq : ℕ) (c : Command) (x : Course) → W x → Then W (hear_forward me now f e seq c x)
  unfolding hear_forward
  hear_forward_waits f e seq c x A =
      by_test (not (of_member (phase.Collecting ∷ phase.Previous ∷ phase.Active ∷ phase.Updating ∷ []) f e x && ltb (slice_index_or x.state.clients.taken f 0) seq)) (λ _. done A)
      (λ _. at_leader_waits c (origin.Forwarded f seq) (clients_are (record x.state.clients { taken = slice_set x.state.clients.taken f seq }) x) A)

  pub hear_route_waits : (f e : ℕ) (seq : ℕ) (r : Reply) (x : Course) → W x → Then W (hear_route f e seq r x)
  unfolding hear_route
  hear_route_waits f e seq r x A = by_test (not (of_leader f e x)) (λ _. done A) (λ _. done A)

  propose_first_waits : (ws : List Waiting_) (x : Course) → W x → Then W (propose_first me now ws x)
  propose_first_waits [] x A = done A
  propose_first_waits (w ∷ ws) x A = propose_waits w.command w.origin (clients_are (record x.state.clients { queue = ws }) x) A

  pub propose_due_waits : (x : Course) → W x → Then W (propose_due me now x)
  unfolding propose_due propose_next
  propose_due_waits x A = by_test (may_propose me now x) (λ _. propose_first_waits x.state.clients.queue x A) (λ _. done A)

  read_waits : (s : Session) (reading : Readings → Reply) (x : Course) → W x → Then W (read me now s reading x)
  read_waits s reading x A =
      by_test (not (is_member x.state.phase)) (λ _. done A) (λ _.
      by_test (not (readable x.readings.last me.member.monitors (lease_of x.state) now)) (λ _. done A) (λ _. done A))

  pub hear_client_waits : (s : Session) (r : Request) (x : Course) → W x → Then W (hear_client me now s r x)
  unfolding hear_client
  hear_client_waits s (request.Set key value) x A = ask_waits s (command.Set key value) x A
  hear_client_waits s (request.Remove key) x A = ask_waits s (command.Remove key) x A
  hear_client_waits s (request.Log text) x A = ask_waits s (command.Log text) x A
  hear_client_waits s (request.Show v) x A = read_waits s (λ w. shown w v) x A
  hear_client_waits s (request.Since v n) x A = read_waits s (λ w. since w v n) x A

  -- ---- probing

  pub hear_probe_waits : (f : ℕ) (x : Course) → W x → Then W (hear_probe me f x)
  unfolding hear_probe
  hear_probe_waits f x A = by_test x.readings.marked (λ _. done A) (λ _. done A)

  pub hear_probe_reply_waits : (f : ℕ) (q : List Bool) (first last : ℕ) (x : Course) → W x → Then W (hear_probe_reply me now f q first last x)
  unfolding hear_probe_reply
  hear_probe_reply_waits f q first last x A =
      let y : Course = prober_is (record { outside = with_rank x.state.prober.outside f }) x in
      by_test (not (same_phase x.state.phase phase.Probing)) (λ _. done A) (λ _.
      by_test x.readings.marked (λ _. by_test (leb 1 last && leb x.readings.floor last) (λ _. done (full_sync_waits me b now le many f x A.good)) (λ _. done A)) (λ _.
      by_test (ltb x.readings.last first && ltb 1 first) (λ _. done (full_sync_waits me b now le many f x A.good)) (λ _.
      by_test (ltb (x.readings.last + lag) last) (λ _. done (recent_sync_waits me b now le many f x A.good)) (λ _.
      by_test (ltb 0 (count_of q)) (λ _. elect_waits me b now le many x A.good) (λ _.
      by_test (is_majority me.member.monitors (with_rank x.state.prober.outside f)) (λ _. elect_waits me b now le many y A.good) (λ _. done A))))))

  -- ---- synchronization

  grant_waits : (full : Bool) (f : ℕ) (x : Course) → W x → Then W (grant me full f x)
  grant_waits full f x A = where_fits W which.Cookie x.state.provider.next_cookie _ (λ _. done A)

  pub get_cookie_full_waits : (f : ℕ) (x : Course) → W x → Then W (hear_get_cookie_full me f x)
  unfolding hear_get_cookie_full
  get_cookie_full_waits f x A = by_test x.readings.marked (λ _. done A) (λ _. grant_waits true f x A)

  pub get_cookie_recent_waits : (f : ℕ) (last : ℕ) (x : Course) → W x → Then W (hear_get_cookie_recent me f last x)
  unfolding hear_get_cookie_recent
  get_cookie_recent_waits f last x A = by_test x.readings.marked (λ _. done A) (λ _. by_test (ltb (suc last) x.readings.first) (λ _. done A) (λ _. grant_waits false f x A))

  pub get_chunk_waits : (entries : List Entry) (f : ℕ) (c : Cookie) (p : Place) (x : Course) → W x → Then W (hear_get_chunk me entries f c p x)
  unfolding hear_get_chunk
  get_chunk_waits entries f c p x A =
      by_test x.readings.marked (λ _. done A) (λ _.
      by_test (not (is_cookie c (slice_index_or x.state.provider.cookies f None)) || ltb (suc p.version) x.readings.first) (λ _. done A) (λ _. done A))

  -- a monitor that synchronizes waits for this timer in this stage
  syncs : (x : Course) (z : SyncStage) → same_phase x.state.phase phase.Synchronizing ≡ true → timer_of x.state.phase z ≡ copies_by z
  syncs x z t = ap (λ (p : Phase). timer_of p z) (synchronizing_is x.state.phase t)

  -- a message of the provider comes while it synchronizes
  by_provider : (f : ℕ) (x : Course) → of_provider f x ≡ true → same_phase x.state.phase phase.Synchronizing ≡ true
  by_provider f x t = (and_parts (same_phase x.state.phase phase.Synchronizing) (eqb f x.state.requester.provider) t).0

  pub hear_cookie_waits : (f : ℕ) (full : Bool) (c : Cookie) (last : ℕ) (x : Course) → W x → Then W (hear_cookie me now f full c last x)
  unfolding hear_cookie
  hear_cookie_waits f full c last x A =
      by_test (not (of_provider f x && awaits_cookie x.state.requester.stage && same_flag full x.state.requester.full) || (full && ltb last x.readings.floor)) (λ _. done A)
      (λ t. done (fresh me b now le timer.Sync x.state.timers (syncs x sync.Chunks (by_provider f x (and_three (of_provider f x) (awaits_cookie x.state.requester.stage) (same_flag full x.state.requester.full)
      (not-false (of_provider f x && awaits_cookie x.state.requester.stage && same_flag full x.state.requester.full) (or_parts (not (of_provider f x && awaits_cookie x.state.requester.stage && same_flag full x.state.requester.full)) (full && ltb last x.readings.floor) t).0)).0)) A.good))

  pub hear_no_cookie_waits : (f : ℕ) (c : Cookie) (x : Course) → W x → Then W (hear_no_cookie me now f c x)
  unfolding hear_no_cookie
  hear_no_cookie_waits f c x A =
      by_test (of_provider f x && (is_cookie c x.state.requester.cookie || (awaits_cookie x.state.requester.stage && not x.state.requester.full && same_cookie c no_cookie))) (λ _. bootstrap_waits me b now le many x A.good) (λ _. done A)

  -- what a copy keeps: it waits, and it synchronizes
  abbrev Copies : Course → Type 0
  Copies x = W x × (same_phase x.state.phase phase.Synchronizing ≡ true)

  copy_stays : (full : Bool) (v : ℕ) (values : List (List Op)) (entries : List Entry) (x : Course) → Copies x → Then Copies (copy full v values entries x)
  copy_stays true v values entries x A = done A
  copy_stays false v values entries x A = learn_stays (λ s. Rests me b s.phase s.requester.stage s.leader.quorum s.timers × (same_phase s.phase phase.Synchronizing ≡ true)) v values x A

  take_stays : (p : Place) (values : List (List Op)) (entries : List Entry) (is_done : Bool) (x : Course) → Copies x → Then Copies (take p values entries is_done x)
  take_stays p values entries is_done x A = where_fits Copies which.Version (p.version + length values) _ (λ _.
      and_then Copies Copies (copy x.state.requester.full (suc p.version) values entries x) _ (copy_stays x.state.requester.full (suc p.version) values entries x A) (λ y B. done B))

  ours : (f : ℕ) (c : Cookie) (p : Place) (x : Course) → is_ours f c p x ≡ true → same_phase x.state.phase phase.Synchronizing ≡ true
  ours f c p x t =
      let r = x.state.requester in
      let u = and_parts (of_provider f x && takes_chunks r.stage && is_cookie c r.cookie) (same_place p r.place) t in
      by_provider f x (and_three (of_provider f x) (takes_chunks r.stage) (is_cookie c r.cookie) u.0).0

  pub hear_chunk_waits : (f : ℕ) (c : Cookie) (p : Place) (values : List (List Op)) (entries : List Entry) (is_done : Bool) (x : Course) → W x → Then W (hear_chunk me now f c p values entries is_done x)
  unfolding hear_chunk
  hear_chunk_waits f c p values entries is_done x A = by_test (is_ours f c p x)
      (λ t. and_then Copies W (take p values entries is_done x) _ (take_stays p values entries is_done x (A, ours f c p x t)) (λ y B. let C : W y = B.0 in done (arm_rests me b now le timer.Sync y.state.timers C)))
      (λ _. done A)

  replay_or_end_waits : (last : ℕ) (x : Course) → Copies x → Then W (replay_or_end me now last x)
  replay_or_end_waits last x A = let B : W x = A.0 in by_test x.state.requester.full
      (λ _. where_fits W which.Version (suc x.state.requester.start) _ (λ _. done (fresh me b now le timer.Step _ (syncs x (sync.Replay (suc x.state.requester.start) last) A.1) (disarmed_good b timer.Sync x.state.timers B.good))))
      (λ _. bootstrap_waits me b now le many x B.good)

  pub hear_last_chunk_waits : (f : ℕ) (c : Cookie) (p : Place) (values : List (List Op)) (entries : List Entry) (last : ℕ) (x : Course) → W x → Then W (hear_last_chunk me now f c p values entries last x)
  unfolding hear_last_chunk
  hear_last_chunk_waits f c p values entries last x A = by_test (is_ours f c p x)
      (λ t. and_then Copies W (take p values entries true x) _ (take_stays p values entries true x (A, ours f c p x t)) (λ y B. replay_or_end_waits last y B)) (λ _. done A)

  -- the timer of the replay fired
  replay_any_waits : (next end : ℕ) (values : Option (List (List Op))) (x : Course) → Timed me b x → same_phase x.state.phase phase.Synchronizing ≡ true → Then W (replay_any me now next end values x)
  replay_any_waits next end None x G t = bootstrap_waits me b now le many x G
  replay_any_waits next end (Some values) x G t =
      let y : Course = x ▸ change_all (learn_changes next values) in
      by_test (ltb end (next + length values)) (λ _. bootstrap_waits me b now le many (y ▸ change (Last end) ▸ change Unmark) G)
      (λ _. done (fresh me b now le timer.Step x.state.timers (syncs x (sync.Replay (next + length values) end) t) G))

  step_waits : (z : SyncStage) (x : Course) → x.state.requester.stage ≡ z → same_phase x.state.phase phase.Synchronizing ≡ true → W x → Then W (step_in me now z (disarm timer.Step x))
  step_waits sync.Cookie x e t A = done (disarm_rests me b timer.Step x.state.timers (ap (λ (u : Timer). eqb (index_of u) (index_of timer.Step)) (syncs x x.state.requester.stage t ∙ ap copies_by e)) A)
  step_waits sync.Chunks x e t A = done (disarm_rests me b timer.Step x.state.timers (ap (λ (u : Timer). eqb (index_of u) (index_of timer.Step)) (syncs x x.state.requester.stage t ∙ ap copies_by e)) A)
  step_waits (sync.Replay next end) x e t A = replay_any_waits next end (step_of x.readings.record_of (suc end - next) next) (disarm timer.Step x) (disarmed_good b timer.Step x.state.timers A.good) t

  pub replay_step_waits : (x : Course) → W x → Then W (replay_step me now (disarm timer.Step x))
  unfolding replay_step
  replay_step_waits x A = by_test (same_phase x.state.phase phase.Synchronizing) (λ t. step_waits x.state.requester.stage x refl t A)
      (λ t. done (disarm_rests me b timer.Step x.state.timers (not_step x.state.phase x.state.requester.stage t) A))

  -- ---- pings

  pub hear_ping_waits : (f : ℕ) (table : Option Scores) (x : Course) → W x → Then W (hear_ping me f table x)
  unfolding hear_ping
  hear_ping_waits f None x A = done A
  hear_ping_waits f (Some table) x A = done A

  pub hear_ping_reply_waits : (f : ℕ) (table : Option Scores) (x : Course) → W x → Then W (hear_ping_reply f table x)
  unfolding hear_ping_reply
  hear_ping_reply_waits f None x A = done A
  hear_ping_reply_waits f (Some table) x A = done A

  pub ping_waits : (x : Course) → W x → Then W (ping me now x)
  unfolding ping
  ping_waits x A = done (arm_rests me b now le timer.Ping x.state.timers A)
