-- Each event of a leader that lost a monitor of its quorum leaves it awaiting that monitor's answer, or not serving with it.
use Rattle.law_names.proofs.Table.{Body, Course, Entry, Input, Me, Readings, State, Timer, at_rest, disarm, end_of, hear, is_heard, react, running, same_phase, timer_comes}
use Rattle.mon_msg.specs.declared.input.Input.TheVariants as input
use Rattle.mon_wire.specs.declared.body.Body.TheVariants as body
use Rattle.mon_wire.specs.declared.phase.Phase.TheVariants as phase
use Rattle.mon_wire.specs.declared.phase.Timer.TheVariants as timer
use Rattle.quorum_stays.proofs.DownActs.{MayBegin, Terms, V, W, bootstrap_stays, disarm_serves, keep, of_serving, other}
use Rattle.quorum_stays.proofs.DownRows.{election_ends_stays, get_chunk_stays, get_cookie_full_stays, get_cookie_recent_stays, hear_accept_stays, hear_ack_stays, hear_begin_stays, hear_chunk_stays, hear_client_stays, hear_collect_stays, hear_commit_stays, hear_cookie_stays, hear_forward_stays, hear_last_chunk_stays, hear_last_stays, hear_lease_ack_stays, hear_lease_stays, hear_no_cookie_stays, hear_ping_reply_stays, hear_ping_stays, hear_probe_reply_stays, hear_probe_stays, hear_propose_stays, hear_route_stays, hear_victory_stays, ping_stays, propose_due_stays, renew_stays, replay_step_stays}
use Rattle.quorum_stays.specs.Reading.{Reads}
use Rattle.quorum_stays.specs.Serving.{IsForward}
use Rattle.quorum_walk.proofs.Walk.{Then, by_test, done}
use Rattle.std.proofs.Common.{List, false, is_some, ltb, refl, sym, true, ℕ, ◌<◌, ◌∙◌, ◌≡◌, ◌⊎◌}
use Rattle.std.proofs.lemmas.Bool.{false≢true}

-- The input isn't of the lost monitor, and it brings a command only if a value may be begun.
abbrev pub Fits : Terms → Input → Type 0
Fits b (input.Deliver m) = (m.from ≡ b.lost → ⊥) × (IsForward m.body → MayBegin b)
Fits b (input.Client s r) = Reads r ⊎ MayBegin b
Fits b other = Unit {0}

module _ (b : Terms) (me : Me) (now : ℕ) (other_rank : b.lost ≡ me.member.rank → ⊥) (in_map : b.lost < me.member.monitors) (many : ltb 1 me.member.monitors ≡ true) (shared : List Entry) where
  abbrev Still : Course → Type 0
  Still = V b me now other_rank in_map

  abbrev Ends : Course → Type 0
  Ends = W b me now other_rank in_map

  heard : (f e : ℕ) (m : Body) → (f ≡ b.lost → ⊥) → (IsForward m → MayBegin b) → (x : Course) → Still x → Then Ends (hear me shared now f e m x)
  heard f e body.Probe ne k x A = hear_probe_stays b me now other_rank in_map many f x A
  heard f e (body.ProbeReply ranks first last) ne k x A = hear_probe_reply_stays b me now other_rank in_map many f ranks first last x A
  heard f e (body.Propose table) ne k x A = hear_propose_stays b me now other_rank in_map many f e table x A
  heard f e body.Ack ne k x A = hear_ack_stays b me now other_rank in_map many f e x A
  heard f e (body.Victory ranks) ne k x A = hear_victory_stays b me now other_rank in_map many f e ranks x A
  heard f e (body.Collect pn first last) ne k x A = hear_collect_stays b me now other_rank in_map many f e pn first last x A
  heard f e (body.Last pn first last whole from values pending) ne k x A = hear_last_stays b me now other_rank in_map many f e pn first last whole from values pending x A
  heard f e (body.Begin pn v value) ne k x A = hear_begin_stays b me now other_rank in_map many f e pn v value x A
  heard f e (body.Accept pn v) ne k x A = hear_accept_stays b me now other_rank in_map many f e pn v ne x A
  heard f e (body.Commit from values) ne k x A = hear_commit_stays b me now other_rank in_map many f e from values x A
  heard f e (body.Lease last) ne k x A = hear_lease_stays b me now other_rank in_map many f e last x A
  heard f e (body.LeaseAck last) ne k x A = hear_lease_ack_stays b me now other_rank in_map many f e last ne x A
  heard f e (body.Forward seq c) ne k x A = hear_forward_stays b me now other_rank in_map many (k tt) f e seq c x A
  heard f e (body.Route seq p) ne k x A = hear_route_stays b me now other_rank in_map many f e seq p x A
  heard f e body.GetCookieFull ne k x A = get_cookie_full_stays b me now other_rank in_map many f x A
  heard f e (body.GetCookieRecent last) ne k x A = get_cookie_recent_stays b me now other_rank in_map many f last x A
  heard f e (body.Cookie full c last) ne k x A = hear_cookie_stays b me now other_rank in_map many f full c last x A
  heard f e (body.GetChunk c p) ne k x A = get_chunk_stays b me now other_rank in_map many shared f c p x A
  heard f e (body.Chunk c p values entries last) ne k x A = hear_chunk_stays b me now other_rank in_map many f c p values entries last x A
  heard f e (body.LastChunk c p values entries last) ne k x A = hear_last_chunk_stays b me now other_rank in_map many f c p values entries last x A
  heard f e (body.NoCookie c) ne k x A = hear_no_cookie_stays b me now other_rank in_map many f c x A
  heard f e (body.Ping table) ne k x A = hear_ping_stays b me now other_rank in_map many f table x A
  heard f e (body.PingReply table) ne k x A = hear_ping_reply_stays b me now other_rank in_map many f table x A
  heard f e (body.Request id r) ne k x A = done (keep A)
  heard f e (body.Reply id r) ne k x A = done (keep A)

  anew : (t : Timer) (x : Course) → Then Ends (timer_comes me now timer.Probe (disarm t x))
  anew t x = bootstrap_stays b me now other_rank in_map many (disarm t x)

  rung : (t : Timer) (x : Course) → Still x → Then Ends (timer_comes me now t (disarm t x))
  rung timer.Probe x A = anew timer.Probe x
  rung timer.Election x A = election_ends_stays b me now other_rank in_map many x A
  rung timer.Collect x A = anew timer.Collect x
  rung timer.Accept x A = anew timer.Accept x
  rung timer.Renew x A = renew_stays b me now other_rank in_map many x A
  rung timer.LeaseAck x A = anew timer.LeaseAck x
  rung timer.Lease x A = anew timer.Lease x
  rung timer.Sync x A = anew timer.Sync x
  rung timer.Step x A = replay_step_stays b me now other_rank in_map many x A
  rung timer.Propose x A = propose_due_stays b me now other_rank in_map many (disarm timer.Propose x) (disarm_serves timer.Propose x.state.timers (other refl refl refl) A)
  rung timer.Ping x A = ping_stays b me now other_rank in_map many (disarm timer.Ping x) (disarm_serves timer.Ping x.state.timers (other refl refl refl) A)

  runs : (came : Input) → Fits b came → (x : Course) → Still x → Then Ends (running me shared now came x)
  runs input.Start k x A = done (keep A)
  runs (input.Deliver m) k x A = by_test (is_heard me m) (λ _. heard m.from m.epoch m.body k.0 k.1 x A) (λ _. done (keep A))
  runs (input.Timer t) k x A = by_test (is_some (end_of t x.state.timers)) (λ _. rung t x A) (λ _. done (keep A))
  runs (input.Client s r) k x A = hear_client_stays b me now other_rank in_map many s r k x A

  pub reacts_stepping : (w : Readings) (s : State) (came : Input) → Fits b came → Still (at_rest w s) → Then Ends (react me shared now w s came)
  unfolding react
  reacts_stepping w s came k A = by_test (same_phase s.phase phase.Booting)
      (λ t. absurd (false≢true (sym (of_serving (λ p. same_phase p phase.Booting ≡ false) refl refl A.awaits) ∙ t))) (λ _. runs came k (at_rest w s) A)
