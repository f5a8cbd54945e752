-- What the trace says of an event, and what the world keeps of it.
use Rattle.std.specs.Prelude.{◌≡◌, ℕ, suc, Bool, ◌++◌, length, map, Option, Some, None, is_some}
use Rattle.mon_kv.specs.Readers.{is_marked}
use Rattle.mon_site.specs.declared.injected.InjectedFault.{InjectedFault}
use Rattle.mon_tx.specs.Map.{Store}
use Rattle.quorum_model.specs.Clients.{messages_of}
use Rattle.quorum_model.specs.Growth.{last_of}
use Rattle.schedule_text.specs.declared.event.Event.{Event}
use Rattle.schedule_text.specs.declared.event.Event.TheVariants as events
use Rattle.schedule_text.specs.declared.event.Plain.{Plain}
use Rattle.trace_text.specs.declared.step.Outcome.{Outcome}
use Rattle.trace_text.specs.declared.step.Outcome.TheVariants as outcome
use Rattle.trace_text.specs.declared.step.StepLine.{StepLine}
use Rattle.mon_world.specs.declared.meeting.Crash.{Crash}
use Rattle.mon_world.specs.declared.meeting.Handled.{Handled}
use Rattle.mon_world.specs.declared.world.Fault.{Fault}
use Rattle.mon_world.specs.declared.world.Fault.TheVariants as fault
use Rattle.mon_world.specs.declared.world.FaultOutcome.{FaultOutcome}
use Rattle.mon_world.specs.declared.world.FaultOutcome.TheVariants as fault_outcome
use Rattle.mon_world.specs.declared.world.World.{World}
use Rattle.mon_world.specs.Represented.{envelope_of}
use Rattle.mon_world.specs.Step.{log_after, numbered, replied}

-- the lines of what the monitor of a rank did, if this many messages were sent before
abbrev pub handled_line : (rank sent : ℕ) → Handled → StepLine
handled_line rank n t = record {
  outcome = outcome.Ran;
  ops = length t.reaction.tx;
  state = t.reported;
  sent = numbered (suc n) (messages_of t.reaction.out);
  replies = replied rank t.reaction.out;
}

-- The world after the reaction of the monitor of a rank: its messages are appended, and the log's length counts what it
-- kept. The line reports the reaction.
pub record Reports (rank : ℕ) (t : Handled) (old new : World) (line : StepLine) : Type 0 where
  pub monitors : new.monitors.items ≡ old.monitors.items
  pub messages : map envelope_of new.messages.items ≡ map envelope_of old.messages.items ++ messages_of t.reaction.out
  pub log : (m : Store) → t.last ≡ last_of m → t.marked ≡ is_marked m → new.log ≡ log_after old.log m
  pub line_is : line ≡ handled_line rank (length old.messages.items) t

-- ---- if a disk fails

-- the outcome that the trace reports; `how` gives that of a monitor that stopped
abbrev pub outcome_of : (Bool → Outcome) → FaultOutcome → Outcome
outcome_of how fault_outcome.NoMessage = outcome.NoMessage
outcome_of how fault_outcome.Down = outcome.Down
outcome_of how (fault_outcome.Stopped kept) = how kept

-- by the kind of fault: the outcome of a monitor that stopped, and below the event that injects the fault
abbrev pub stopped_as : Fault → Bool → Outcome
stopped_as fault.Crash = outcome.Crashed
stopped_as fault.Fail = outcome.Failed

abbrev pub faulty_event : Fault → InjectedFault → Plain → Event
faulty_event fault.Crash u p = events.Crash u.disk u.call u.image p
faulty_event fault.Fail u p = events.Fail u.disk u.call u.image p

-- the log's length counts what a stopped monitor wrote, if that is kept
abbrev pub GrowsIf : Option Bool → (last old new : ℕ) → Type 0
GrowsIf None last old new = new ≡ old
GrowsIf (Some marked) last old new = (m : Store) → last ≡ last_of m → marked ≡ is_marked m → new ≡ log_after old m

-- Noting a crash changes the log's length at most. The outcome says whether the transaction is kept.
pub record Leaves (crash : Crash) (old new : World) (reported : FaultOutcome) : Type 0 where
  pub monitors : new.monitors.items ≡ old.monitors.items
  pub messages : new.messages.items ≡ old.messages.items
  pub log : GrowsIf crash.kept crash.last old.log new.log
  pub reported_is : reported ≡ fault_outcome.Stopped (is_some crash.kept)
