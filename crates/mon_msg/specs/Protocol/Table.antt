-- The protocol: what a monitor does at each input.
use Rattle.std.specs.Prelude.{ℕ, suc, not, List, Result, Ok, if◌then◌else◌, [], is_some}
use Rattle.election_rules.specs.Table.{start_scores}
use Rattle.mon_bytes.specs.declared.entry.Entry.{Entry}
use Rattle.mon_msg.specs.Protocol.Changes.{Boot, Epoch}
use Rattle.mon_msg.specs.Protocol.Commands.{propose_due}
use Rattle.mon_msg.specs.Protocol.Course.{Course, ◌▸◌, ◌>>=◌, checked, dropped, change, change_if, elector_is, arm_if, disarm}
use Rattle.mon_msg.specs.Protocol.Elections.{election_ends}
use Rattle.mon_msg.specs.Protocol.Entering.{scores_count, bootstrap}
use Rattle.mon_msg.specs.Protocol.Hearing.{deliver, hear_client}
use Rattle.mon_msg.specs.Protocol.Leader.{renew}
use Rattle.mon_msg.specs.Protocol.Phases.{same_phase}
use Rattle.mon_msg.specs.Protocol.Pings.{ping}
use Rattle.mon_msg.specs.Protocol.Replay.{replay_step}
use Rattle.mon_msg.specs.Protocol.Sending.{reply_to}
use Rattle.mon_msg.specs.Protocol.State.{State}
use Rattle.mon_msg.specs.Protocol.Timers.{is_armed}
use Rattle.mon_msg.specs.Protocol.Readings.{Readings}
use Rattle.mon_msg.specs.declared.election.Elector.{Elector}
use Rattle.mon_msg.specs.declared.input.Input.TheVariants as input
use Rattle.mon_msg.specs.declared.input.Input.{Input}
use Rattle.mon_wire.specs.declared.phase.Phase.TheVariants as phase
use Rattle.mon_wire.specs.declared.phase.Timer.TheVariants as timer
use Rattle.mon_wire.specs.declared.phase.Timer.{Timer}
use Rattle.mon_wire.specs.declared.reply.Reply.TheVariants as reply
use Rattle.mon_msg.specs.declared.view.Me.{Me}
use Rattle.mon_types.specs.Ranks.{no_ranks}
use Rattle.mon_types.specs.declared.names.Which.TheVariants as which
use Rattle.mon_types.specs.declared.names.Which.{Which}

module _ (me : Me) (now : ℕ) where
  -- under connectivity it begins to measure
  abbrev pub first_elector : (boot : ℕ) → Elector → Elector
  first_elector boot elector =
      if scores_count me.rule
      then record elector { scores = start_scores me.member.rank boot; heard = no_ranks; pinged = now }
      else elector

  -- it is counted, and the monitor bootstraps; an epoch that isn't there is put as 1
  unfoldable pub start : Course → Result Course Which
  start x = do
    boot ← checked which.Boot (suc x.readings.boot)
    x
        ▸ change (Boot boot)
        ▸ change_if (not (is_some x.readings.epoch)) (Epoch 1)
        ▸ elector_is (first_elector boot x.state.elector)
        ▸ arm_if (scores_count me.rule) now timer.Ping
        ▸ bootstrap me now

  -- what comes before the start is dropped, and clients get a reply
  abbrev pub before_start : Input → Course → Result Course Which
  before_start input.Start x = start x
  before_start (input.Deliver m) x = dropped x
  before_start (input.Timer t) x = dropped x
  before_start (input.Client session r) x = Ok (reply_to session reply.Unavailable x)

  -- ---- timers

  abbrev pub timer_comes : Timer → Course → Result Course Which
  timer_comes timer.Probe x = bootstrap me now x
  timer_comes timer.Election x = election_ends me now x
  timer_comes timer.Collect x = bootstrap me now x
  timer_comes timer.Accept x = bootstrap me now x
  timer_comes timer.Renew x = renew me now x
  timer_comes timer.LeaseAck x = bootstrap me now x
  timer_comes timer.Lease x = bootstrap me now x
  timer_comes timer.Sync x = bootstrap me now x
  timer_comes timer.Step x = replay_step me now x
  timer_comes timer.Propose x = propose_due me now x
  timer_comes timer.Ping x = ping me now x

  -- a timer that is set is disarmed and takes effect, even before its time; one that isn't set is dropped
  abbrev pub take_timer : Timer → Course → Result Course Which
  take_timer t x = if is_armed t x.state.timers then x ▸ disarm t ▸ timer_comes t else dropped x

-- ---- the join

-- an event before its first act
abbrev pub at_rest : Readings → State → Course
at_rest w s = record { readings = w; changes = []; state = s; out = [] }

module _ (me : Me) (shared : List Entry) (now : ℕ) where
  abbrev pub running : Input → Course → Result Course Which
  running input.Start x = dropped x
  running (input.Deliver m) x = deliver me shared now m x
  running (input.Timer t) x = take_timer me now t x
  running (input.Client session r) x = hear_client me now session r x

  -- What a monitor does at an input, by what its store's readers return, what it remembers and the input; or the number that
  -- runs out. `shared` are the entries of its store that are shared, in order.
  unfoldable pub react : Readings → State → Input → Result Course Which
  react w s came =
      if same_phase s.phase phase.Booting then before_start me now came (at_rest w s) else running came (at_rest w s)
