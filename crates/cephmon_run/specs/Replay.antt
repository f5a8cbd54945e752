-- What a replay writes.
use Rattle.std.specs.Prelude.{◌≡◌, ℕ, List, Option, Some, None, Result, Ok, Err}
use Rattle.std.specs.Io.KnownBytes.{Appends}
use Rattle.mon_link.specs.Whole.{AppendsPrefix}
use Rattle.schedule_text.specs.declared.event.Event as schedule
use Rattle.trace_text.specs.declared.step.StepLine.{StepLine}
use Rattle.trace_text.specs.Trace.{step_lines}
use Rattle.quorum_model.specs.Happens as happens
use Rattle.quorum_model.specs.Monitors.{Monitors}
use Rattle.quorum_model.specs.Scenes.{Scene}
use Rattle.mon_world.specs.declared.stop.WorldStop.{WorldStop}
use Rattle.mon_world.specs.declared.stop.WorldStop.TheVariants as world_stop
use Rattle.mon_world.specs.declared.world.World.{World}
use Rattle.mon_types.specs.declared.names.Stop.{Stop}
use Rattle.mon_types.specs.declared.names.Stop.TheVariants as outside
use Rattle.cephmon_run.specs.declared.replay.ReplayStop.{ReplayStop}
use Rattle.cephmon_run.specs.declared.replay.ReplayStop.TheVariants as stop
use Rattle.mon_world.specs.Represented.{RepresentsScene}
use Rattle.run_status.specs.declared.status.Status.{Status}
use Rattle.run_status.specs.declared.status.Status.TheVariants as status
use Rattle.cephmon_run.specs.Trace.{Trace, goes_on}

-- What a replay wrote to the sink, by how it ended: all of the trace, up to what stopped its run; or a prefix of it.
abbrev pub Writes : Result Unit ReplayStop → Option (List ℕ) → Option (List ℕ) → Trace → Type 0
Writes (Ok done) old new trace = (trace.stop ≡ None) × Appends old new trace.text
Writes (Err (stop.World (world_stop.Spent which))) old new trace = (trace.stop ≡ Some (happens.Spent which)) × Appends old new trace.text
Writes (Err (stop.World (world_stop.Full would_be))) old new trace = (trace.stop ≡ Some (happens.Full would_be)) ×
    Appends old new trace.text
Writes (Err stop.WriteFault) old new trace = AppendsPrefix old new trace.text
Writes (Err (stop.World world_stop.OutOfMemory)) old new trace = AppendsPrefix old new trace.text

-- What a call that does one event left, and wrote to the sink: the event's lines; or what is written of any trace that
-- continues with it.
abbrev pub Did : Monitors → Result Unit ReplayStop → World → Option (List ℕ) → Option (List ℕ) → ℕ → schedule.Event →
    Result (Scene × StepLine) happens.Stop → Type 0
Did ms (Ok done) world old new number e wanted =
    (next : Scene × StepLine) × (wanted ≡ Ok next) × RepresentsScene ms world next.0 ×
    Appends old new (step_lines number e next.1)
Did ms (Err s) world old new number e wanted = (follow : Scene → Trace) →
    Writes (Err s) old new (goes_on number e follow wanted)

-- memory ran out
abbrev pub no_memory : ReplayStop
no_memory = stop.World world_stop.OutOfMemory

-- the stop of a replay whose output couldn't be written
abbrev pub fault_of : Stop → ReplayStop
fault_of outside.Failed = stop.WriteFault
fault_of outside.OutOfMemory = no_memory

-- what stops a run, unless memory ran out
abbrev pub StopsAs : WorldStop → Option happens.Stop → Type 0
StopsAs world_stop.OutOfMemory stop = Unit {0}
StopsAs (world_stop.Spent which) stop = stop ≡ Some (happens.Spent which)
StopsAs (world_stop.Full would_be) stop = stop ≡ Some (happens.Full would_be)

-- the status of a replay that stopped
abbrev pub status_of : ReplayStop → Status
status_of stop.WriteFault = status.WriteFault
status_of (stop.World (world_stop.Spent which)) = status.Spent which
status_of (stop.World (world_stop.Full would_be)) = status.Full would_be
status_of (stop.World world_stop.OutOfMemory) = status.OutOfMemory
