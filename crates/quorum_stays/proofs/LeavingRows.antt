-- The rows leave a monitor that follows no leader outside of q, or one whose lease timer ends no later.
use Rattle.law_names.proofs.Table.{Command, CommandRefused, Cookie, Course, Entry, Epoch, Last, MOST_WAITING, Me, Op, Origin, Phase, Place, Readings, Reply, Request, Scores, Session, SyncStage, Told, Unmark, Waiting as Waiting_, adopt, all_accepted, all_answered, are_within, ask, asked_of, at_leader, at_peon, awaits_cookie, begin_made, change, change_all, clients_are, commit_any, copy, count_of, counts, disarm, disarmed, election_ends, elector_is, epoch_of, extend, grant, has, has_queue, hear_accept, hear_ack, hear_begin, hear_chunk, hear_client, hear_collect, hear_commit, hear_cookie, hear_forward, hear_get_chunk, hear_get_cookie_full, hear_get_cookie_recent, hear_last, hear_last_chunk, hear_lease, hear_lease_ack, hear_no_cookie, hear_ping, hear_ping_reply, hear_probe, hear_probe_reply, hear_propose, hear_route, hear_victory, is_allowed, is_cookie, is_done, is_even, is_leading, is_majority, is_member, is_ours, is_peon, is_too_long, is_whole, lag, leader_is, learn, learn_changes, lease_of, may_defer, may_propose, merge, news, news_from, no_cookie, note, note_pending, of_leader, of_member, of_provider, pending, ping, prober_is, promise_of, propose, propose_due, propose_first, propose_next, quorum_of, read, readable, renew, replay_any, replay_or_end, replay_step, same_cookie, same_flag, same_phase, same_place, service_last, service_of, shown, since, stands_before, step_in, step_of, table_or, take, takes_chunks, value, votes, weigh, with_rank, ◌▸◌}
use Rattle.mon_bytes.specs.declared.command.Command.TheVariants as command
use Rattle.mon_msg.specs.declared.paxos.LeaderStage.TheVariants as stage
use Rattle.mon_msg.specs.declared.plan.Origin.TheVariants as origin
use Rattle.mon_msg.specs.declared.synchronization.SyncStage.TheVariants as sync
use Rattle.mon_types.specs.declared.names.Which.TheVariants as which
use Rattle.mon_wire.specs.declared.phase.Phase.TheVariants as phase
use Rattle.mon_wire.specs.declared.phase.Timer.TheVariants as timer
use Rattle.mon_wire.specs.declared.request.Request.TheVariants as request
use Rattle.quorum_stays.proofs.LeavingActs.{Ends, Lapses, adopt_ends, arm_ends, arm_if_ends, away, begin_ends, bootstrap_ends, collect_ends, commit_ends, disarm_ends, elect_ends, full_sync_ends, inside, recent_sync_ends, settle_ends, win_ends}
use Rattle.quorum_timed.proofs.Acts.{learn_stays}
use Rattle.quorum_timed.proofs.Armed.{synchronizing_is}
use Rattle.quorum_walk.proofs.Walk.{Then, and_then, and_three, by_test, done, or_three, where_fits}
use Rattle.std.proofs.Common.{Bool, Err, List, None, Ok, Option, Result, Some, [], eqb, false, is_some, leb, length, ltb, not, refl, slice_index_or, slice_set, subst, suc, true, ℕ, ◌&&◌, ◌+◌, ◌-◌, ◌||◌, ◌∷◌, ◌≡◌}
use Rattle.std.proofs.lemmas.Bool.{and_parts, cond_both, eqb-true, false≢true, not-false}

-- an active leader doesn't follow
active_is : (p : Phase) → same_phase p phase.Active ≡ true → same_phase p phase.Peon ≡ false
active_is p t = by p t
  where
    by : (p : Phase) → same_phase p phase.Active ≡ true → same_phase p phase.Peon ≡ false
    by phase.Peon t = absurd (false≢true t)
    by other t = refl

module _ (q : List Bool) (b : ℕ) (me : Me) (now : ℕ) (many : ltb 1 me.member.monitors ≡ true) where
  abbrev W : Course → Type 0
  W = Ends q b

  -- ---- elections

  weigh_ends : (table : Scores) (f : ℕ) (x : Course) → W x → Then W (weigh me now table f x)
  weigh_ends table f x A =
      by_test (is_allowed me f && stands_before me table f me.member.rank)
      (λ _. by_test (may_defer me table f x.state.elector.deferred) (λ _. done A) (λ _. done A))
      (λ _. by_test (not (is_some x.state.elector.deferred) && not x.state.elector.candidate) (λ _. elect_ends q b me now x) (λ _. done A))

  pub hear_propose_ends : (f e : ℕ) (table : Option Scores) (x : Course) → W x → Then W (hear_propose me now f e table x)
  unfolding hear_propose
  hear_propose_ends f e table x A =
      by_test (not (votes x.state.phase) || is_even e) (λ _. done A) (λ _.
      by_test (ltb e (epoch_of x.readings)) (λ _. by_test (is_even (epoch_of x.readings) && not (has (quorum_of x.state) f)) (λ _. elect_ends q b me now x) (λ _. done A)) (λ _.
      by_test (ltb (epoch_of x.readings) e) (λ _. weigh_ends (table_or table x.state.elector.scores) f (merge table (adopt now e x)) (adopt_ends q b me now e x)) (λ _. weigh_ends (table_or table x.state.elector.scores) f (merge table x) A)))

  pub hear_ack_ends : (f e : ℕ) (x : Course) → W x → Then W (hear_ack me now f e x)
  unfolding hear_ack
  hear_ack_ends f e x A =
      let acked = with_rank x.state.elector.acked f in
      let y : Course = elector_is (record x.state.elector { acked = acked }) x in
      let B : W (adopt now e x) = adopt_ends q b me now e x in
      by_test (not (votes x.state.phase) || is_even e || ltb e (epoch_of x.readings)) (λ _. done A) (λ _.
      by_test (ltb (epoch_of x.readings) e) (λ _. elect_ends q b me now (adopt now e x)) (λ _.
      by_test x.state.elector.candidate (λ _. by_test (is_whole me acked && is_allowed me me.member.rank) (λ _. win_ends q b me now acked y) (λ _. done A)) (λ _. done A)))

  pub election_ends_ends : (x : Course) → W x → Then W (election_ends me now (disarm timer.Election x))
  unfolding election_ends
  election_ends_ends x A =
      let y : Course = disarm timer.Election x in
      by_test (not (same_phase x.state.phase phase.Electing)) (λ t. done (disarm_ends q b timer.Election x.state.timers refl A)) (λ _.
      by_test (x.state.elector.candidate && is_allowed me me.member.rank && is_majority me.member.monitors x.state.elector.acked) (λ _. win_ends q b me now x.state.elector.acked y) (λ _. elect_ends q b me now y))

  pub hear_victory_ends : (f e : ℕ) (ranks : List Bool) → has q f ≡ true → (x : Course) → W x → Then W (hear_victory me now f e ranks x)
  unfolding hear_victory
  hear_victory_ends f e ranks qf x A =
      by_test (not (votes x.state.phase) || not (is_even e) || leb e (epoch_of x.readings)) (λ _. done A) (λ _.
      by_test (not (eqb e (suc (epoch_of x.readings)))) (λ _. elect_ends q b me now (change (Epoch e) x)) (λ _.
      by_test (has ranks me.member.rank && has ranks f && is_majority me.member.monitors ranks) (λ _. done (inside q b f qf)) (λ _. done A)))

  -- ---- peons

  pub hear_collect_ends : (f e : ℕ) (pn first last : ℕ) (x : Course) → W x → Then W (hear_collect me now f e pn first last x)
  unfolding hear_collect
  hear_collect_ends f e pn first last x A =
      by_test (not (of_leader f e x)) (λ _. done A) (λ _.
      by_test (ltb (suc x.readings.last) first) (λ _. bootstrap_ends q b me now many x) (λ _.
      where_fits W which.Version (suc last) _ (λ _. done A)))

  pub hear_begin_ends : (f e : ℕ) (pn v : ℕ) (value : List Op) (x : Course) → W x → Then W (hear_begin me f e pn v value x)
  unfolding hear_begin
  hear_begin_ends f e pn v value x A =
      by_test (not (of_leader f e x && eqb pn (promise_of x.readings) && eqb v (suc x.readings.last))) (λ _. done A) (λ _. done A)

  learn_ends : (v : ℕ) (values : List (List Op)) (x : Course) → W x → Then W (learn v values x)
  learn_ends v values x A = learn_stays (λ s. Lapses q b s.phase s.peon.leader s.timers) v values x A

  pub hear_commit_ends : (f e : ℕ) (from : ℕ) (values : List (List Op)) (x : Course) → W x → Then W (hear_commit f e from values x)
  unfolding hear_commit
  hear_commit_ends f e from values x A =
      by_test (not (of_leader f e x) || ltb (suc x.readings.last) from) (λ _. done A) (λ _. learn_ends (suc x.readings.last) (news x.readings.last from values) x A)

  pub hear_lease_ends : (f e : ℕ) (last : ℕ) → has q f ≡ true → (x : Course) → W x → Then W (hear_lease me now f e last x)
  unfolding hear_lease
  hear_lease_ends f e last qf x A = by_test (not (of_leader f e x) || not (eqb last x.readings.last) || is_some (pending x.readings)) (λ _. done A)
      (λ t. (let u = or_three (not (of_leader f e x)) (not (eqb last x.readings.last)) (is_some (pending x.readings)) t in
      let v = and_three (is_peon x.state.phase) (eqb e (epoch_of x.readings)) (eqb f x.state.peon.leader) (not-false (of_leader f e x) u.0) in
      done (inside q b x.state.peon.leader (subst (λ (z : ℕ). has q z ≡ true) (eqb-true f x.state.peon.leader v.2) qf))))

  -- ---- leaders

  note_ends : (f last : ℕ) (told : Option Told) (x : Course) → W x → Then W (note f last told x)
  note_ends f last told x A = by (counts told)
    where
      by : (t : Option Told) → Then W (note_pending f last t x)
      by None = done A
      by (Some t) = where_fits W which.Version (suc last) _ (λ _. done A)

  pub hear_last_ends : (f e : ℕ) (pn first last : ℕ) (whole : Bool) (from : ℕ) (values : List (List Op)) (told : Option Told) (x : Course) → W x → Then W (hear_last me now f e pn first last whole from values told x)
  unfolding hear_last
  hear_last_ends f e pn first last whole from values told x A =
      let own = x.readings.last in
      by_test (not (of_member (phase.Collecting ∷ []) f e x)) (λ _. done A) (λ _.
      by_test (ltb x.state.leader.pn pn) (λ _. collect_ends q b me now x.state.leader.quorum pn x) (λ _.
      by_test (ltb pn x.state.leader.pn) (λ _. done A) (λ _.
      by_test (ltb (suc own) first && ltb own last) (λ _. bootstrap_ends q b me now many x) (λ _.
      and_then W W (learn (news_from own from) (news own from values) x) _ (learn_ends (news_from own from) (news own from values) x A) (λ y B.
      by_test whole
      (λ _. and_then W W (note f last told y) _ (note_ends f last told y B) (λ z C. by_test (all_answered me z) (λ _. settle_ends q b me now z) (λ _. done C)))
      (λ _. collect_ends q b me now y.state.leader.quorum 0 y))))))

  pub hear_accept_ends : (f e : ℕ) (pn v : ℕ) (x : Course) → W x → Then W (hear_accept me now f e pn v x)
  unfolding hear_accept
  hear_accept_ends f e pn v x A =
      let y : Course = leader_is (record x.state.leader { accepted = with_rank x.state.leader.accepted f }) x in
      by_test (not (of_member (phase.Previous ∷ phase.Updating ∷ []) f e x && eqb pn x.state.leader.pn && eqb v (suc x.readings.last))) (λ _. done A)
      (λ _. by_test (all_accepted me y) (λ _. commits x.state.leader.value y A) (λ _. done A))
    where
      commits : (value : Option (List Op)) (y : Course) → W y → Then W (commit_any me now value y)
      commits None y A = done A
      commits (Some value) y A = commit_ends q b me now value y

  pub hear_lease_ack_ends : (f e : ℕ) (last : ℕ) (x : Course) → W x → Then W (hear_lease_ack me f e last x)
  unfolding hear_lease_ack
  hear_lease_ack_ends f e last x A =
      let acks = with_rank x.state.leader.acks f in
      by_test (not (of_member (phase.Active ∷ []) f e x && eqb last x.readings.last)) (λ _. done A)
      (λ _. done (cond_both (are_within me.member.monitors x.state.leader.quorum acks) (disarmed timer.LeaseAck x.state.timers) x.state.timers (Lapses q b x.state.phase x.state.peon.leader)
      (λ _. disarm_ends q b timer.LeaseAck x.state.timers refl A) (λ _. A)))

  pub renew_ends : (x : Course) → W x → Then W (renew me now (disarm timer.Renew x))
  unfolding renew extend
  renew_ends x A =
      by_test (not (same_phase x.state.phase phase.Active)) (λ t. done (disarm_ends q b timer.Renew x.state.timers refl A))
      (λ t. done (away q b x.state.phase (active_is x.state.phase (not-false (same_phase x.state.phase phase.Active) t))))

  -- ---- clients

  propose_ends : (c : Command) (o : Origin) (x : Course) → W x → Then W (propose me now c o x)
  unfolding propose
  propose_ends c o x A = where_fits W which.Version (suc (service_last x.readings (service_of c))) _ (λ _. by (value x.readings c (asked_of me o)))
    where
      by : (r : Result (List Op) CommandRefused) → Then W (begin_made me now o r x)
      by (Ok y) = begin_ends q b me now stage.Updating y (Some o) x
      by (Err e) = done (arm_if_ends q b (has_queue x) now timer.Propose x.state.timers refl A)

  at_leader_ends : (c : Command) (o : Origin) (x : Course) → W x → Then W (at_leader me now c o x)
  at_leader_ends c o x A =
      by_test (is_too_long c) (λ _. done A) (λ _.
      by_test (may_propose me now x && not (has_queue x)) (λ _. propose_ends c o x A) (λ _.
      by_test (leb MOST_WAITING (length x.state.clients.queue)) (λ _. done A) (λ _. done A)))

  at_peon_ends : (c : Command) (s : Session) (x : Course) → W x → Then W (at_peon me c s x)
  at_peon_ends c s x A =
      by_test (is_too_long c) (λ _. done A) (λ _.
      by_test (leb MOST_WAITING (length x.state.clients.sessions)) (λ _. done A)
      (λ _. where_fits W which.Seq x.state.clients.next_seq _ (λ _. done A)))

  ask_ends : (s : Session) (c : Command) (x : Course) → W x → Then W (ask me now s c x)
  unfolding ask
  ask_ends s c x A =
      by_test (is_leading x.state.phase) (λ _. at_leader_ends c (origin.Session s) x A)
      (λ _. by_test (is_peon x.state.phase) (λ _. at_peon_ends c s x A) (λ _. done A))

  pub hear_forward_ends : (f e : ℕ) (seq : ℕ) (c : Command) (x : Course) → W x → Then W (hear_forward me now f e seq c x)
  unfolding hear_forward
  hear_forward_ends f e seq c x A =
      by_test (not (of_member (phase.Collecting ∷ phase.Previous ∷ phase.Active ∷ phase.Updating ∷ []) f e x && ltb (slice_index_or x.state.clients.taken f 0) seq)) (λ _. done A)
      (λ _. at_leader_ends c (origin.Forwarded f seq) (clients_are (record x.state.clients { taken = slice_set x.state.clients.taken f seq }) x) A)

  pub hear_route_ends : (f e : ℕ) (seq : ℕ) (r : Reply) (x : Course) → W x → Then W (hear_route f e seq r x)
  unfolding hear_route
  hear_route_ends f e seq r x A = by_test (not (of_leader f e x)) (λ _. done A) (λ _. done A)

  propose_first_ends : (ws : List Waiting_) (x : Course) → W x → Then W (propose_first me now ws x)
  propose_first_ends [] x A = done A
  propose_first_ends (w ∷ ws) x A = propose_ends w.command w.origin (clients_are (record x.state.clients { queue = ws }) x) A

  pub propose_due_ends : (x : Course) → W x → Then W (propose_due me now x)
  unfolding propose_due propose_next
  propose_due_ends x A = by_test (may_propose me now x) (λ _. propose_first_ends x.state.clients.queue x A) (λ _. done A)

  read_ends : (s : Session) (reading : Readings → Reply) (x : Course) → W x → Then W (read me now s reading x)
  read_ends s reading x A =
      by_test (not (is_member x.state.phase)) (λ _. done A) (λ _.
      by_test (not (readable x.readings.last me.member.monitors (lease_of x.state) now)) (λ _. done A) (λ _. done A))

  pub hear_client_ends : (s : Session) (r : Request) (x : Course) → W x → Then W (hear_client me now s r x)
  unfolding hear_client
  hear_client_ends s (request.Set key value) x A = ask_ends s (command.Set key value) x A
  hear_client_ends s (request.Remove key) x A = ask_ends s (command.Remove key) x A
  hear_client_ends s (request.Log text) x A = ask_ends s (command.Log text) x A
  hear_client_ends s (request.Show v) x A = read_ends s (λ w. shown w v) x A
  hear_client_ends s (request.Since v n) x A = read_ends s (λ w. since w v n) x A

  -- ---- probing

  pub hear_probe_ends : (f : ℕ) (x : Course) → W x → Then W (hear_probe me f x)
  unfolding hear_probe
  hear_probe_ends f x A = by_test x.readings.marked (λ _. done A) (λ _. done A)

  pub hear_probe_reply_ends : (f : ℕ) (ranks : List Bool) (first last : ℕ) (x : Course) → W x → Then W (hear_probe_reply me now f ranks first last x)
  unfolding hear_probe_reply
  hear_probe_reply_ends f ranks first last x A =
      let y : Course = prober_is (record { outside = with_rank x.state.prober.outside f }) x in
      by_test (not (same_phase x.state.phase phase.Probing)) (λ _. done A) (λ _.
      by_test x.readings.marked (λ _. by_test (leb 1 last && leb x.readings.floor last) (λ _. done (full_sync_ends q b me now f x)) (λ _. done A)) (λ _.
      by_test (ltb x.readings.last first && ltb 1 first) (λ _. done (full_sync_ends q b me now f x)) (λ _.
      by_test (ltb (x.readings.last + lag) last) (λ _. done (recent_sync_ends q b me now f x)) (λ _.
      by_test (ltb 0 (count_of ranks)) (λ _. elect_ends q b me now x) (λ _.
      by_test (is_majority me.member.monitors (with_rank x.state.prober.outside f)) (λ _. elect_ends q b me now y) (λ _. done A))))))

  -- ---- synchronization

  grant_ends : (full : Bool) (f : ℕ) (x : Course) → W x → Then W (grant me full f x)
  grant_ends full f x A = where_fits W which.Cookie x.state.provider.next_cookie _ (λ _. done A)

  pub get_cookie_full_ends : (f : ℕ) (x : Course) → W x → Then W (hear_get_cookie_full me f x)
  unfolding hear_get_cookie_full
  get_cookie_full_ends f x A = by_test x.readings.marked (λ _. done A) (λ _. grant_ends true f x A)

  pub get_cookie_recent_ends : (f : ℕ) (last : ℕ) (x : Course) → W x → Then W (hear_get_cookie_recent me f last x)
  unfolding hear_get_cookie_recent
  get_cookie_recent_ends f last x A = by_test x.readings.marked (λ _. done A) (λ _. by_test (ltb (suc last) x.readings.first) (λ _. done A) (λ _. grant_ends false f x A))

  pub get_chunk_ends : (entries : List Entry) (f : ℕ) (c : Cookie) (p : Place) (x : Course) → W x → Then W (hear_get_chunk me entries f c p x)
  unfolding hear_get_chunk
  get_chunk_ends entries f c p x A =
      by_test x.readings.marked (λ _. done A) (λ _.
      by_test (not (is_cookie c (slice_index_or x.state.provider.cookies f None)) || ltb (suc p.version) x.readings.first) (λ _. done A) (λ _. done A))

  -- a monitor that synchronizes doesn't follow
  copies : (x : Course) → same_phase x.state.phase phase.Synchronizing ≡ true → same_phase x.state.phase phase.Peon ≡ false
  copies x t = rw (synchronizing_is x.state.phase t) refl

  -- a message of the provider comes while it synchronizes
  by_provider : (f : ℕ) (x : Course) → of_provider f x ≡ true → same_phase x.state.phase phase.Synchronizing ≡ true
  by_provider f x t = (and_parts (same_phase x.state.phase phase.Synchronizing) (eqb f x.state.requester.provider) t).0

  pub hear_cookie_ends : (f : ℕ) (full : Bool) (c : Cookie) (last : ℕ) (x : Course) → W x → Then W (hear_cookie me now f full c last x)
  unfolding hear_cookie
  hear_cookie_ends f full c last x A =
      by_test (not (of_provider f x && awaits_cookie x.state.requester.stage && same_flag full x.state.requester.full) || (full && ltb last x.readings.floor)) (λ _. done A)
      (λ t. done (arm_ends q b now timer.Sync x.state.timers refl A))

  pub hear_no_cookie_ends : (f : ℕ) (c : Cookie) (x : Course) → W x → Then W (hear_no_cookie me now f c x)
  unfolding hear_no_cookie
  hear_no_cookie_ends f c x A =
      by_test (of_provider f x && (is_cookie c x.state.requester.cookie || (awaits_cookie x.state.requester.stage && not x.state.requester.full && same_cookie c no_cookie))) (λ _. bootstrap_ends q b me now many x) (λ _. done A)

  -- what a copy keeps: it waits, and it synchronizes
  abbrev Copies : Course → Type 0
  Copies x = W x × (same_phase x.state.phase phase.Synchronizing ≡ true)

  copy_stays : (full : Bool) (v : ℕ) (values : List (List Op)) (entries : List Entry) (x : Course) → Copies x → Then Copies (copy full v values entries x)
  copy_stays true v values entries x A = done A
  copy_stays false v values entries x A = learn_stays (λ s. Lapses q b s.phase s.peon.leader s.timers × (same_phase s.phase phase.Synchronizing ≡ true)) v values x A

  take_stays : (p : Place) (values : List (List Op)) (entries : List Entry) (is_done : Bool) (x : Course) → Copies x → Then Copies (take p values entries is_done x)
  take_stays p values entries is_done x A = where_fits Copies which.Version (p.version + length values) _ (λ _.
      and_then Copies Copies (copy x.state.requester.full (suc p.version) values entries x) _ (copy_stays x.state.requester.full (suc p.version) values entries x A) (λ y B. done B))

  ours : (f : ℕ) (c : Cookie) (p : Place) (x : Course) → is_ours f c p x ≡ true → same_phase x.state.phase phase.Synchronizing ≡ true
  ours f c p x t =
      let r = x.state.requester in
      let u = and_parts (of_provider f x && takes_chunks r.stage && is_cookie c r.cookie) (same_place p r.place) t in
      by_provider f x (and_three (of_provider f x) (takes_chunks r.stage) (is_cookie c r.cookie) u.0).0

  pub hear_chunk_ends : (f : ℕ) (c : Cookie) (p : Place) (values : List (List Op)) (entries : List Entry) (is_done : Bool) (x : Course) → W x → Then W (hear_chunk me now f c p values entries is_done x)
  unfolding hear_chunk
  hear_chunk_ends f c p values entries is_done x A = by_test (is_ours f c p x)
      (λ t. and_then Copies W (take p values entries is_done x) _ (take_stays p values entries is_done x (A, ours f c p x t)) (λ y B. let C : W y = B.0 in done (arm_ends q b now timer.Sync y.state.timers refl C)))
      (λ _. done A)

  replay_or_end_ends : (last : ℕ) (x : Course) → Copies x → Then W (replay_or_end me now last x)
  replay_or_end_ends last x A = let B : W x = A.0 in by_test x.state.requester.full
      (λ _. where_fits W which.Version (suc x.state.requester.start) _ (λ _. done (away q b x.state.phase (copies x A.1))))
      (λ _. bootstrap_ends q b me now many x)

  pub hear_last_chunk_ends : (f : ℕ) (c : Cookie) (p : Place) (values : List (List Op)) (entries : List Entry) (last : ℕ) (x : Course) → W x → Then W (hear_last_chunk me now f c p values entries last x)
  unfolding hear_last_chunk
  hear_last_chunk_ends f c p values entries last x A = by_test (is_ours f c p x)
      (λ t. and_then Copies W (take p values entries true x) _ (take_stays p values entries true x (A, ours f c p x t)) (λ y B. replay_or_end_ends last y B)) (λ _. done A)

  -- the timer of the replay fired
  replay_any_ends : (next end : ℕ) (values : Option (List (List Op))) (x : Course) → same_phase x.state.phase phase.Synchronizing ≡ true → Then W (replay_any me now next end values x)
  replay_any_ends next end None x t = bootstrap_ends q b me now many x
  replay_any_ends next end (Some values) x t =
      let y : Course = x ▸ change_all (learn_changes next values) in
      by_test (ltb end (next + length values)) (λ _. bootstrap_ends q b me now many (y ▸ change (Last end) ▸ change Unmark))
      (λ _. done (away q b x.state.phase (copies x t)))

  step_ends : (z : SyncStage) (x : Course) → x.state.requester.stage ≡ z → same_phase x.state.phase phase.Synchronizing ≡ true → W x → Then W (step_in me now z (disarm timer.Step x))
  step_ends sync.Cookie x e t A = done (disarm_ends q b timer.Step x.state.timers refl A)
  step_ends sync.Chunks x e t A = done (disarm_ends q b timer.Step x.state.timers refl A)
  step_ends (sync.Replay next end) x e t A = replay_any_ends next end (step_of x.readings.record_of (suc end - next) next) (disarm timer.Step x) t

  pub replay_step_ends : (x : Course) → W x → Then W (replay_step me now (disarm timer.Step x))
  unfolding replay_step
  replay_step_ends x A = by_test (same_phase x.state.phase phase.Synchronizing) (λ t. step_ends x.state.requester.stage x refl t A)
      (λ t. done (disarm_ends q b timer.Step x.state.timers refl A))

  -- ---- pings

  pub hear_ping_ends : (f : ℕ) (table : Option Scores) (x : Course) → W x → Then W (hear_ping me f table x)
  unfolding hear_ping
  hear_ping_ends f None x A = done A
  hear_ping_ends f (Some table) x A = done A

  pub hear_ping_reply_ends : (f : ℕ) (table : Option Scores) (x : Course) → W x → Then W (hear_ping_reply f table x)
  unfolding hear_ping_reply
  hear_ping_reply_ends f None x A = done A
  hear_ping_reply_ends f (Some table) x A = done A

  pub ping_ends : (x : Course) → W x → Then W (ping me now x)
  unfolding ping
  ping_ends x A = done (arm_ends q b now timer.Ping x.state.timers refl A)
