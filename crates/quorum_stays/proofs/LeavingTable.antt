-- Each event leaves its monitor following no leader outside of q, or with a lease timer that ends no later.
use Rattle.law_names.proofs.Table.{Body, Course, Entry, Input, Me, Readings, State, Timer, at_rest, before_start, disarm, end_of, has, hear, is_heard, react, running, same_phase, start, timer_comes}
use Rattle.mon_msg.specs.declared.input.Input.TheVariants as input
use Rattle.mon_types.specs.declared.names.Which.TheVariants as which
use Rattle.mon_wire.specs.declared.body.Body.TheVariants as body
use Rattle.mon_wire.specs.declared.phase.Phase.TheVariants as phase
use Rattle.mon_wire.specs.declared.phase.Timer.TheVariants as timer
use Rattle.quorum_stays.proofs.LeavingActs.{Ends, bootstrap_ends, disarm_ends}
use Rattle.quorum_stays.proofs.LeavingRows.{election_ends_ends, get_chunk_ends, get_cookie_full_ends, get_cookie_recent_ends, hear_accept_ends, hear_ack_ends, hear_begin_ends, hear_chunk_ends, hear_client_ends, hear_collect_ends, hear_commit_ends, hear_cookie_ends, hear_forward_ends, hear_last_chunk_ends, hear_last_ends, hear_lease_ack_ends, hear_lease_ends, hear_no_cookie_ends, hear_ping_ends, hear_ping_reply_ends, hear_probe_ends, hear_probe_reply_ends, hear_propose_ends, hear_route_ends, hear_victory_ends, ping_ends, propose_due_ends, renew_ends, replay_step_ends}
use Rattle.quorum_walk.proofs.Walk.{Then, by_test, done, where_fits}
use Rattle.std.proofs.Common.{Bool, List, is_some, ltb, refl, suc, true, ℕ, ◌≡◌}

-- a message comes from a member
abbrev pub FromMember : List Bool → Input → Type 0
FromMember q (input.Deliver m) = has q m.from ≡ true
FromMember q other = Unit {0}

module _ (q : List Bool) (b : ℕ) (me : Me) (now : ℕ) (many : ltb 1 me.member.monitors ≡ true) (shared : List Entry) where
  abbrev W : Course → Type 0
  W = Ends q b

  heard : (f e : ℕ) → has q f ≡ true → (m : Body) (x : Course) → W x → Then W (hear me shared now f e m x)
  heard f e qf body.Probe x A = hear_probe_ends q b me now many f x A
  heard f e qf (body.ProbeReply ranks first last) x A = hear_probe_reply_ends q b me now many f ranks first last x A
  heard f e qf (body.Propose table) x A = hear_propose_ends q b me now many f e table x A
  heard f e qf body.Ack x A = hear_ack_ends q b me now many f e x A
  heard f e qf (body.Victory ranks) x A = hear_victory_ends q b me now many f e ranks qf x A
  heard f e qf (body.Collect pn first last) x A = hear_collect_ends q b me now many f e pn first last x A
  heard f e qf (body.Last pn first last whole from values pending) x A = hear_last_ends q b me now many f e pn first last whole from values pending x A
  heard f e qf (body.Begin pn v value) x A = hear_begin_ends q b me now many f e pn v value x A
  heard f e qf (body.Accept pn v) x A = hear_accept_ends q b me now many f e pn v x A
  heard f e qf (body.Commit from values) x A = hear_commit_ends q b me now many f e from values x A
  heard f e qf (body.Lease last) x A = hear_lease_ends q b me now many f e last qf x A
  heard f e qf (body.LeaseAck last) x A = hear_lease_ack_ends q b me now many f e last x A
  heard f e qf (body.Forward seq c) x A = hear_forward_ends q b me now many f e seq c x A
  heard f e qf (body.Route seq p) x A = hear_route_ends q b me now many f e seq p x A
  heard f e qf body.GetCookieFull x A = get_cookie_full_ends q b me now many f x A
  heard f e qf (body.GetCookieRecent last) x A = get_cookie_recent_ends q b me now many f last x A
  heard f e qf (body.Cookie full c last) x A = hear_cookie_ends q b me now many f full c last x A
  heard f e qf (body.GetChunk c p) x A = get_chunk_ends q b me now many shared f c p x A
  heard f e qf (body.Chunk c p values entries last) x A = hear_chunk_ends q b me now many f c p values entries last x A
  heard f e qf (body.LastChunk c p values entries last) x A = hear_last_chunk_ends q b me now many f c p values entries last x A
  heard f e qf (body.NoCookie c) x A = hear_no_cookie_ends q b me now many f c x A
  heard f e qf (body.Ping table) x A = hear_ping_ends q b me now many f table x A
  heard f e qf (body.PingReply table) x A = hear_ping_reply_ends q b me now many f table x A
  heard f e qf (body.Request id r) x A = done A
  heard f e qf (body.Reply id r) x A = done A

  anew : (t : Timer) (x : Course) → W x → Then W (timer_comes me now timer.Probe (disarm t x))
  anew t x A = bootstrap_ends q b me now many (disarm t x)

  rung : (t : Timer) (x : Course) → W x → Then W (timer_comes me now t (disarm t x))
  rung timer.Probe x A = anew timer.Probe x A
  rung timer.Election x A = election_ends_ends q b me now many x A
  rung timer.Collect x A = anew timer.Collect x A
  rung timer.Accept x A = anew timer.Accept x A
  rung timer.Renew x A = renew_ends q b me now many x A
  rung timer.LeaseAck x A = anew timer.LeaseAck x A
  rung timer.Lease x A = anew timer.Lease x A
  rung timer.Sync x A = anew timer.Sync x A
  rung timer.Step x A = replay_step_ends q b me now many x A
  rung timer.Propose x A = propose_due_ends q b me now many (disarm timer.Propose x) (disarm_ends q b timer.Propose x.state.timers refl A)
  rung timer.Ping x A = ping_ends q b me now many (disarm timer.Ping x) (disarm_ends q b timer.Ping x.state.timers refl A)

  starts : (x : Course) → Then W (start me now x)
  unfolding start
  starts x = where_fits W which.Boot (suc x.readings.boot) _ (λ _. bootstrap_ends q b me now many _)

  before : (came : Input) (x : Course) → W x → Then W (before_start me now came x)
  before input.Start x A = starts x
  before other x A = done A

  runs : (came : Input) → FromMember q came → (x : Course) → W x → Then W (running me shared now came x)
  runs input.Start k x A = done A
  runs (input.Deliver m) k x A = by_test (is_heard me m) (λ _. heard m.from m.epoch k m.body x A) (λ _. done A)
  runs (input.Timer t) k x A = by_test (is_some (end_of t x.state.timers)) (λ _. rung t x A) (λ _. done A)
  runs (input.Client s r) k x A = hear_client_ends q b me now many s r x A

  pub reacts_leaving : (w : Readings) (s : State) (came : Input) → FromMember q came → W (at_rest w s) → Then W (react me shared now w s came)
  unfolding react
  reacts_leaving w s came k A = by_test (same_phase s.phase phase.Booting) (λ _. before came (at_rest w s) A) (λ _. runs came k (at_rest w s) A)
