-- Each event leaves its monitor waiting for a timer.
use Rattle.law_names.proofs.Table.{Body, Course, Entry, Input, Me, Readings, State, Timer, armed, at_rest, before_start, booting, disarm, end_of, hear, is_heard, react, running, same_phase, scores_count, start, timer_comes}
use Rattle.mon_msg.specs.declared.input.Input.TheVariants as input
use Rattle.mon_types.specs.declared.names.Which.TheVariants as which
use Rattle.mon_wire.specs.declared.body.Body.TheVariants as body
use Rattle.mon_wire.specs.declared.phase.Phase.TheVariants as phase
use Rattle.mon_wire.specs.declared.phase.Timer.TheVariants as timer
use Rattle.quorum_timed.proofs.Acts.{Timed, Waiting, bootstrap_waits}
use Rattle.quorum_timed.proofs.Armed.{Good, armed_good, disarm_rests, disarmed_good, not_ping, not_propose, unarmed_good}
use Rattle.quorum_timed.proofs.Rows.{election_ends_waits, get_chunk_waits, get_cookie_full_waits, get_cookie_recent_waits, hear_accept_waits, hear_ack_waits, hear_begin_waits, hear_chunk_waits, hear_client_waits, hear_collect_waits, hear_commit_waits, hear_cookie_waits, hear_forward_waits, hear_last_chunk_waits, hear_last_waits, hear_lease_ack_waits, hear_lease_waits, hear_no_cookie_waits, hear_ping_reply_waits, hear_ping_waits, hear_probe_reply_waits, hear_probe_waits, hear_propose_waits, hear_route_waits, hear_victory_waits, ping_waits, propose_due_waits, renew_waits, replay_step_waits}
use Rattle.quorum_walk.proofs.Walk.{Then, by_test, done, where_fits}
use Rattle.std.proofs.Common.{List, is_some, ltb, suc, true, ℕ, ◌≡◌, ◌≤◌}
use Rattle.std.proofs.lemmas.Bool.{cond_both}

module _ (me : Me) (b now : ℕ) (le : now ≤ b) (many : ltb 1 me.member.monitors ≡ true) (shared : List Entry) where
  abbrev W : Course → Type 0
  W = Waiting me b

  heard : (f e : ℕ) (m : Body) (x : Course) → W x → Then W (hear me shared now f e m x)
  heard f e body.Probe x A = hear_probe_waits me b now le many f x A
  heard f e (body.ProbeReply q first last) x A = hear_probe_reply_waits me b now le many f q first last x A
  heard f e (body.Propose table) x A = hear_propose_waits me b now le many f e table x A
  heard f e body.Ack x A = hear_ack_waits me b now le many f e x A
  heard f e (body.Victory q) x A = hear_victory_waits me b now le many f e q x A
  heard f e (body.Collect pn first last) x A = hear_collect_waits me b now le many f e pn first last x A
  heard f e (body.Last pn first last whole from values pending) x A = hear_last_waits me b now le many f e pn first last whole from values pending x A
  heard f e (body.Begin pn v value) x A = hear_begin_waits me b now le many f e pn v value x A
  heard f e (body.Accept pn v) x A = hear_accept_waits me b now le many f e pn v x A
  heard f e (body.Commit from values) x A = hear_commit_waits me b now le many f e from values x A
  heard f e (body.Lease last) x A = hear_lease_waits me b now le many f e last x A
  heard f e (body.LeaseAck last) x A = hear_lease_ack_waits me b now le many f e last x A
  heard f e (body.Forward seq c) x A = hear_forward_waits me b now le many f e seq c x A
  heard f e (body.Route seq p) x A = hear_route_waits me b now le many f e seq p x A
  heard f e body.GetCookieFull x A = get_cookie_full_waits me b now le many f x A
  heard f e (body.GetCookieRecent last) x A = get_cookie_recent_waits me b now le many f last x A
  heard f e (body.Cookie full c last) x A = hear_cookie_waits me b now le many f full c last x A
  heard f e (body.GetChunk c p) x A = get_chunk_waits me b now le many shared f c p x A
  heard f e (body.Chunk c p values entries last) x A = hear_chunk_waits me b now le many f c p values entries last x A
  heard f e (body.LastChunk c p values entries last) x A = hear_last_chunk_waits me b now le many f c p values entries last x A
  heard f e (body.NoCookie c) x A = hear_no_cookie_waits me b now le many f c x A
  heard f e (body.Ping table) x A = hear_ping_waits me b now le many f table x A
  heard f e (body.PingReply table) x A = hear_ping_reply_waits me b now le many f table x A
  heard f e (body.Request id q) x A = done A
  heard f e (body.Reply id q) x A = done A

  anew : (t : Timer) (x : Course) → W x → Then W (timer_comes me now timer.Probe (disarm t x))
  anew t x A = bootstrap_waits me b now le many (disarm t x) (disarmed_good b t x.state.timers A.good)

  rung : (t : Timer) (x : Course) → W x → Then W (timer_comes me now t (disarm t x))
  rung timer.Probe x A = anew timer.Probe x A
  rung timer.Election x A = election_ends_waits me b now le many x A
  rung timer.Collect x A = anew timer.Collect x A
  rung timer.Accept x A = anew timer.Accept x A
  rung timer.Renew x A = renew_waits me b now le many x A
  rung timer.LeaseAck x A = anew timer.LeaseAck x A
  rung timer.Lease x A = anew timer.Lease x A
  rung timer.Sync x A = anew timer.Sync x A
  rung timer.Step x A = replay_step_waits me b now le many x A
  rung timer.Propose x A = propose_due_waits me b now le many (disarm timer.Propose x) (disarm_rests me b timer.Propose x.state.timers (not_propose x.state.phase x.state.requester.stage) A)
  rung timer.Ping x A = ping_waits me b now le many (disarm timer.Ping x) (disarm_rests me b timer.Ping x.state.timers (not_ping x.state.phase x.state.requester.stage) A)

  starts : (x : Course) → Timed me b x → Then W (start me now x)
  unfolding start
  starts x G = where_fits W which.Boot (suc x.readings.boot) _ (λ _.
      bootstrap_waits me b now le many _ (cond_both (scores_count me.rule) (armed now timer.Ping x.state.timers) x.state.timers (Good b) (λ _. armed_good b now le timer.Ping x.state.timers G) (λ _. G)))

  before : (came : Input) (x : Course) → W x → Then W (before_start me now came x)
  before input.Start x A = starts x A.good
  before other x A = done A

  runs : (came : Input) (x : Course) → W x → Then W (running me shared now came x)
  runs input.Start x A = done A
  runs (input.Deliver m) x A = by_test (is_heard me m) (λ _. heard m.from m.epoch m.body x A) (λ _. done A)
  runs (input.Timer t) x A = by_test (is_some (end_of t x.state.timers)) (λ _. rung t x A) (λ _. done A)
  runs (input.Client s r) x A = hear_client_waits me b now le many s r x A

  pub reacts_waiting : (w : Readings) (s : State) (came : Input) → W (at_rest w s) → Then W (react me shared now w s came)
  unfolding react
  reacts_waiting w s came A = by_test (same_phase s.phase phase.Booting) (λ _. before came (at_rest w s) A) (λ _. runs came (at_rest w s) A)

  -- a monitor that starts waits from then on
  pub starts_waiting : (w : Readings) (r : ℕ) → Then W (react me shared now w (booting r) input.Start)
  unfolding react
  starts_waiting w r = starts (at_rest w (booting r)) (unarmed_good b)
