-- The timer that a monitor waits for if nothing else comes.
use Rattle.mon_msg.specs.Protocol.Leading.{is_alone}
use Rattle.mon_msg.specs.Protocol.Phases.{is_leading}
use Rattle.mon_msg.specs.Protocol.State.{State}
use Rattle.mon_msg.specs.Protocol.Timers.{end_of, is_armed, length_of}
use Rattle.mon_msg.specs.declared.synchronization.SyncStage.TheVariants as sync
use Rattle.mon_msg.specs.declared.synchronization.SyncStage.{SyncStage}
use Rattle.mon_msg.specs.declared.view.Me.{Me}
use Rattle.mon_wire.specs.declared.phase.Phase.TheVariants as phase
use Rattle.mon_wire.specs.declared.phase.Phase.{Phase}
use Rattle.mon_wire.specs.declared.phase.TheConstants.Timer.{COUNT}
use Rattle.mon_wire.specs.declared.phase.Timer.TheVariants as timer
use Rattle.mon_wire.specs.declared.phase.Timer.{Timer}
use Rattle.std.specs.Prelude.{Bool, List, Some, length, true, ℕ, ◌&&◌, ◌+◌, ◌||◌, ◌≡◌, ◌≤◌}

-- ---- the timer of a phase

-- the timer by which a monitor goes on with a copy, or gives it up
abbrev pub copies_by : SyncStage → Timer
copies_by sync.Cookie = timer.Sync
copies_by sync.Chunks = timer.Sync
copies_by (sync.Replay next end) = timer.Step

-- the timer by which a monitor goes on in a phase, or leaves it
abbrev pub timer_of : Phase → SyncStage → Timer
timer_of phase.Booting stage = timer.Probe
timer_of phase.Probing stage = timer.Probe
timer_of phase.Synchronizing stage = copies_by stage
timer_of phase.Electing stage = timer.Election
timer_of phase.Collecting stage = timer.Collect
timer_of phase.Previous stage = timer.Accept
timer_of phase.Active stage = timer.Renew
timer_of phase.Updating stage = timer.Accept
timer_of phase.Peon stage = timer.Lease

-- whether a monitor leads a quorum of itself alone
abbrev pub leads_alone : Me → Phase → List Bool → Bool
leads_alone me p quorum = is_leading p && is_alone me quorum

-- The timer of the monitor's phase is armed, unless it leads a quorum of itself alone. Each timer that is armed ends at
-- most its length after the latest time.
pub record Waits (me : Me) (latest : ℕ) (s : State) : Type 0 where
  pub kinds : length s.timers ≡ COUNT
  pub armed : (is_armed (timer_of s.phase s.requester.stage) s.timers || leads_alone me s.phase s.leader.quorum) ≡ true
  pub soon : (t : Timer) (end : ℕ) → end_of t s.timers ≡ Some end → end ≤ latest + length_of t
