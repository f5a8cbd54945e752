-- The result of an input at a monitor that may be down.
use Rattle.std.specs.Prelude.{◌≡◌, ℕ, Option, Some, None, Result, Ok, Err}
use Rattle.mon_kv.specs.Readers.{is_marked}
use Rattle.mon_msg.specs.Protocol.Reaction.{Reaction, reaction}
use Rattle.mon_msg.specs.Protocol.State.{State}
use Rattle.mon_msg.specs.declared.input.Input.{Input}
use Rattle.mon_msg.specs.declared.view.Me.{Me}
use Rattle.mon_site.specs.declared.injected.InjectedFault.{InjectedFault}
use Rattle.mon_tx.specs.Map.{Store, apply}
use Rattle.mon_types.specs.declared.names.Which.{Which}
use Rattle.quorum_model.specs.Files.{Files}
use Rattle.quorum_model.specs.Growth.{last_of}
use Rattle.quorum_model.specs.Happens.{unless_stopped}
use Rattle.quorum_model.specs.Meets.{state_at}
use Rattle.quorum_model.specs.Scenes.{files_at}
use Rattle.trace_text.specs.declared.step.StateLine.{StateLine}
use Rattle.mon_world.specs.declared.meeting.Crash.{Crash}
use Rattle.mon_world.specs.declared.meeting.Handled.{Handled}
use Rattle.mon_world.specs.declared.monitor.Monitor.{Monitor}
use Rattle.mon_world.specs.declared.stop.WorldStop.{WorldStop}
use Rattle.mon_world.specs.Crashes.{IsDown, StopsKept, keeps, map_remaining}
use Rattle.mon_world.specs.Monitor.{IsDone, Represents, does, files_kept}
use Rattle.mon_world.specs.Step.{state_before, state_of, reported}
use Rattle.mon_world.specs.Stops.{Stops}

-- The monitor, whose state was this, does what the protocol says, and that is kept.
pub record IsHandled (me : Me) (now : ℕ) (m : Store) (s : State) (f : Files) (before : Option StateLine) (came : Input)
    (t : Handled) (new : Monitor) : Type 0 where
  pub state : State
  pub is_done : IsDone me now m s came state t.reaction
  pub stands : Represents me (apply t.reaction.tx m) (Some state) (files_kept m f t.reaction.tx) new
  pub reported_is : t.reported ≡ reported before (state_of (apply t.reaction.tx m) state)
  pub last : t.last ≡ last_of (apply t.reaction.tx m)
  pub marked : t.marked ≡ is_marked (apply t.reaction.tx m)

abbrev pub Handles : Me → (now : ℕ) → Store → State → Files → Option StateLine → Input → Monitor →
    Result Handled WorldStop → Type 0
Handles me now m s f before came new (Ok t) = IsHandled me now m s f before came t new
Handles me now m s f before came new (Err e) = Stops e (does me now m s came)

-- The result of an input: nothing if the monitor is down and doesn't start, otherwise its reaction or why the run
-- stops.
abbrev pub Meets : Me → (now : ℕ) → Store → Option State → Files → Input → Monitor →
    Result (Option Handled) WorldStop → Type 0
Meets me now m s f came new (Ok None) = (state_at me.member.rank s came ≡ None) × Represents me m s f new
Meets me now m s f came new (Ok (Some t)) =
    (before : State) × (state_at me.member.rank s came ≡ Some before)
    × IsHandled me now m before (files_at came f) (state_before m s came) came t new
Meets me now m s f came new (Err e) =
    (before : State) × (state_at me.member.rank s came ≡ Some before) × Stops e (does me now m before came)

-- ---- if a disk fails

-- The monitor is down, and what it wrote is kept or lost.
pub record IsCrash (u : InjectedFault) (me : Me) (m : Store) (f : Files) (came : Input) (r : Result Reaction Which) (crash : Crash)
    (new : Monitor) : Type 0 where
  pub down : IsDown u me m f came r crash.kept new
  pub last : crash.last ≡ last_of (map_remaining u m f came r)

abbrev pub MeetsFault : InjectedFault → Me → (now : ℕ) → Store → Option State → Files → Input → Monitor →
    Result (Option Crash) WorldStop → Type 0
MeetsFault u me now m s f came new (Ok None) = (state_at me.member.rank s came ≡ None) × Represents me m s f new
MeetsFault u me now m s f came new (Ok (Some crash)) =
    (before : State) × (state_at me.member.rank s came ≡ Some before) ×
    IsCrash u me m f came (reaction me now m before came) crash new
MeetsFault u me now m s f came new (Err e) =
    (before : State) × (state_at me.member.rank s came ≡ Some before)
    × StopsKept e (keeps u m f came (reaction me now m before came)) (unless_stopped m (reaction me now m before came))
