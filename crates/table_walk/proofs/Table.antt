-- The whole table, walked once: what a law shows of each step holds of every event.
use Rattle.mon_bytes.specs.declared.entry.Entry.{Entry}
use Rattle.mon_msg.specs.Protocol.Course.{Course, disarm}
use Rattle.mon_msg.specs.Protocol.Hearing.{hear, is_heard}
use Rattle.mon_msg.specs.Protocol.Phases.{is_member, same_phase}
use Rattle.mon_msg.specs.Protocol.Probing.{hear_probe, hear_probe_reply, lag}
use Rattle.mon_msg.specs.Protocol.Readings.{Readings}
use Rattle.mon_msg.specs.Protocol.Sending.{reply_to}
use Rattle.mon_msg.specs.Protocol.State.{State}
use Rattle.mon_msg.specs.Protocol.Table.{at_rest, before_start, react, running, timer_comes}
use Rattle.mon_msg.specs.Protocol.Timers.{end_of}
use Rattle.mon_msg.specs.Protocol.Value.{value}
use Rattle.mon_msg.specs.declared.input.Input.TheVariants as input
use Rattle.mon_msg.specs.declared.input.Input.{Input}
use Rattle.mon_msg.specs.declared.view.Me.{Me}
use Rattle.mon_types.specs.Ranks.{count_of, is_majority, with_rank}
use Rattle.mon_wire.specs.declared.body.Body.TheVariants as body
use Rattle.mon_wire.specs.declared.body.Body.{Body}
use Rattle.mon_wire.specs.declared.phase.Phase.TheVariants as phase
use Rattle.mon_wire.specs.declared.phase.Phase.{Phase}
use Rattle.mon_wire.specs.declared.phase.Timer.TheVariants as timer
use Rattle.mon_wire.specs.declared.phase.Timer.{Timer}
use Rattle.mon_wire.specs.declared.reply.Reply.TheVariants as reply
use Rattle.mon_wire.specs.declared.request.Request.TheVariants as request
use Rattle.mon_wire.specs.declared.request.Request.{Request}
use Rattle.std.proofs.Common.{Bool, List, Ok, false, inl, inr, is_some, leb, ltb, not, refl, true, ℕ, ◌&&◌, ◌+◌, ◌≡◌}
use Rattle.std.proofs.lemmas.Bool.{and_parts, ltb-true}
use Rattle.table_walk.proofs.Acts.{Acts, disarms, ends}
use Rattle.table_walk.proofs.Rows.{accepted, acked, begin_heard, chunk_asked, chunk_heard, client_asked, collected, committed, cookie_heard, due, election_over, forwarded, full_asked, last_chunk_heard, lasts_heard, lease_acked, leased, lost, no_cookie_heard, ping_answered, pinged, pings, proposed, recent_asked, renewed, routed, steps}
use Rattle.table_walk.proofs.Steps.{HeardFrom, InHand, LacksVersions, Nothing, ReadOf, Steps, asked_by, brought, unread, unserved}
use Rattle.table_walk.proofs.Walk.{Then, by_test, done}

booting_serves : (p : Phase) → same_phase p phase.Booting ≡ true → is_member p ≡ false
booting_serves phase.Booting t = refl
booting_serves other t = absurd cc

module _ {me : Me} {now : ℕ} {shared : List Entry} {w : Readings} {s : State} {came : Input} {P : InHand → Course → Type 0} {Q : Course → Type 0} (b : Steps me now shared w s came P Q) (a : Acts me now shared w s came P Q) where
  -- ---- the two rows of probing

  probed : (f : ℕ) → P Nothing (at_rest w s) → Then Q (hear_probe me f (at_rest w s))
  unfolding hear_probe
  probed f A = by_test w.marked (λ _. ends b A) (λ e. done (b.answers_probe f e A))

  probe_answered : (f e : ℕ) (q : List Bool) (first last : ℕ) → HeardFrom me came f e (body.ProbeReply q first last) → (ltb w.last first && ltb 1 first ≡ true → LacksVersions w came) → P Nothing (at_rest w s) → Then Q (hear_probe_reply me now f q first last (at_rest w s))
  unfolding hear_probe_reply
  probe_answered f e q first last C behind A =
      let outside = with_rank s.prober.outside f in
      let B = b.prober (record { outside = outside }) A in
      by_test (not (same_phase s.phase phase.Probing)) (λ _. ends b A) (λ _.
      by_test w.marked (λ u. by_test (leb 1 last && leb w.floor last) (λ _. done (b.marks f C (inl u) A)) (λ _. ends b A)) (λ _.
      by_test (ltb w.last first && ltb 1 first) (λ t. done (b.marks f C (inr (behind t)) A)) (λ _.
      by_test (ltb (w.last + lag) last) (λ _. ends b (a.recent_syncs f A)) (λ _.
      by_test (ltb 0 (count_of q)) (λ _. a.elects A) (λ _.
      by_test (is_majority me.member.monitors outside) (λ _. a.elects B) (λ _. ends b B))))))

  -- ---- the table

  heard_body : (f e : ℕ) (m : Body) → HeardFrom me came f e m → P Nothing (at_rest w s) → Then Q (hear me shared now f e m (at_rest w s))
  heard_body f e body.Probe C A = probed f A
  heard_body f e (body.ProbeReply q first last) C A = probe_answered f e q first last C (λ t. let p = and_parts (ltb w.last first) (ltb 1 first) t in
      record { message = C.message; is = C.is; quorum = q; first = first; last = last; says = C.says; above = ltb-true w.last first p.0; some = ltb-true 1 first p.1 }) A
  heard_body f e (body.Propose table) C A = proposed b a f e table C A
  heard_body f e body.Ack C A = acked b a f e C A
  heard_body f e (body.Victory q) C A = lost b a f e q C A
  heard_body f e (body.Collect pn first last) C A = collected b a f e pn first last C A
  heard_body f e (body.Last pn first last whole from values told) C A = lasts_heard b a f e pn first last whole from values told C A
  heard_body f e (body.Begin pn v value) C A = begin_heard b a f e pn v value C A
  heard_body f e (body.Accept pn v) C A = accepted b a f e pn v C A
  heard_body f e (body.Commit from values) C A = committed b a f e from values C A
  heard_body f e (body.Lease last) C A = leased b a f e last C A
  heard_body f e (body.LeaseAck last) C A = lease_acked b a f e last A
  heard_body f e (body.Forward seq c) C A = forwarded b a f e seq c C A
  heard_body f e (body.Route seq r) C A = routed b a f e seq r C A
  heard_body f e body.GetCookieFull C A = full_asked b a f A
  heard_body f e (body.GetCookieRecent last) C A = recent_asked b a f last A
  heard_body f e (body.Cookie full c last) C A = cookie_heard b a f full c last A
  heard_body f e (body.GetChunk c p) C A = chunk_asked b a f c p A
  heard_body f e (body.Chunk c p values entries end) C A = chunk_heard b a f e c p values entries end C A
  heard_body f e (body.LastChunk c p values entries last) C A = last_chunk_heard b a f e c p values entries last C A
  heard_body f e (body.NoCookie c) C A = no_cookie_heard b a f c A
  heard_body f e (body.Ping table) C A = pinged b a f table A
  heard_body f e (body.PingReply table) C A = ping_answered b a f table A
  heard_body f e (body.Request id r) C A = ends b A
  heard_body f e (body.Reply id r) C A = ends b A

  rung : (t : Timer) → came ≡ input.Timer t → P Nothing (disarm t (at_rest w s)) → Then Q (timer_comes me now t (disarm t (at_rest w s)))
  rung timer.Probe is A = a.bootstraps A
  rung timer.Election is A = election_over b a A
  rung timer.Collect is A = a.bootstraps A
  rung timer.Accept is A = a.bootstraps A
  rung timer.Renew is A = renewed b a A
  rung timer.LeaseAck is A = a.bootstraps A
  rung timer.Lease is A = a.bootstraps A
  rung timer.Sync is A = a.bootstraps A
  rung timer.Step is A = steps b a A
  rung timer.Propose is A = due b a is A
  rung timer.Ping is A = pings b a A

  unstarted : (c : Input) → came ≡ c → same_phase s.phase phase.Booting ≡ true → ((c ≡ input.Start → ⊥) → P (brought c) (at_rest w s)) → Then Q (before_start me now c (at_rest w s))
  unstarted input.Start is boots A = a.starts is boots
  unstarted (input.Deliver m) is boots A = ends b (A (λ e. cc))
  unstarted (input.Timer t) is boots A = ends b (A (λ e. cc))
  unstarted (input.Client u r) is boots A = by r (A (λ e. cc))
    where
      by : (r : Request) → P (asked_by r u) (at_rest w s) → Then Q (Ok (reply_to u reply.Unavailable (at_rest w s)))
      by (request.Set key value) A = done (b.answers (asked_by (request.Set key value) u) reply.Unavailable (unserved (booting_serves s.phase boots)) A)
      by (request.Remove key) A = done (b.answers (asked_by (request.Remove key) u) reply.Unavailable (unserved (booting_serves s.phase boots)) A)
      by (request.Log text) A = done (b.answers (asked_by (request.Log text) u) reply.Unavailable (unserved (booting_serves s.phase boots)) A)
      by (request.Show v) A = done (b.answers (ReadOf u (request.Show v)) reply.Unavailable (unread (booting_serves s.phase boots)) A)
      by (request.Since v n) A = done (b.answers (ReadOf u (request.Since v n)) reply.Unavailable (unread (booting_serves s.phase boots)) A)

  runs : (c : Input) → came ≡ c → P (brought c) (at_rest w s) → Then Q (running me shared now c (at_rest w s))
  runs input.Start is A = ends b A
  runs (input.Deliver m) is A = by_test (is_heard me m) (λ t. heard_body m.from m.epoch m.body (record { message = m; is = is; from = refl; epoch = refl; says = refl; heard = t }) A) (λ _. ends b A)
  runs (input.Timer t) is A = by_test (is_some (end_of t s.timers)) (λ _. rung t is (disarms b t A)) (λ _. ends b A)
  runs (input.Client u r) is A = client_asked b a u r A

  -- what a law shows of each step, and of each act, holds of every event
  pub walked : Then Q (react me shared now w s came)
  unfolding react
  walked = by_test (same_phase s.phase phase.Booting) (λ t. unstarted came refl t (λ no. b.before (λ e. absurd (no e)))) (λ t. runs came refl (b.before (λ _. t)))
