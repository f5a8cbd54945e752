-- What an event's lines say.
use Rattle.std.specs.Prelude.{ℕ, suc, ◌&&◌, Bool, List, [], ◌∷◌, max, length, Option, Some, None, Result, Ok, Err, ◌==◌, if◌then◌else◌}
use Rattle.mon_kv.specs.Readers.{is_marked}
use Rattle.mon_tx.specs.Map.{Store}
use Rattle.mon_msg.specs.Protocol.Phases.{same_phase}
use Rattle.mon_msg.specs.Protocol.Reaction.{Reaction}
use Rattle.mon_msg.specs.Protocol.State.{State}
use Rattle.mon_msg.specs.Protocol.Readings.{readings_of, epoch_of}
use Rattle.mon_msg.specs.declared.input.Input.{Input}
use Rattle.mon_msg.specs.declared.input.Input.TheVariants as input
use Rattle.mon_msg.specs.declared.plan.Sent.{Sent}
use Rattle.mon_msg.specs.declared.plan.Sent.TheVariants as sent
use Rattle.mon_world.specs.Events.{scheduled_of}
use Rattle.quorum_model.specs.Clients.{messages_of}
use Rattle.quorum_model.specs.Growth.{last_of}
use Rattle.quorum_model.specs.Happens.{Stop, map_after}
use Rattle.quorum_model.specs.Meets.{Meeting, NoMessage, Reacts, meets}
use Rattle.quorum_model.specs.Monitors.{Monitors}
use Rattle.quorum_model.specs.Scenes.{Scene, kept_at, scene_after}
use Rattle.quorum_model.specs.InjectedFaults.{InjectedFault}
use Rattle.quorum_model.specs.World.{World, Envelope}
use Rattle.schedule_text.specs.declared.event.Event as schedule
use Rattle.schedule_text.specs.declared.event.Event.TheVariants as events
use Rattle.trace_text.specs.declared.step.Numbered.{Numbered}
use Rattle.trace_text.specs.declared.step.Outcome.{Outcome}
use Rattle.trace_text.specs.declared.step.Outcome.TheVariants as outcome
use Rattle.trace_text.specs.declared.step.Replied.{Replied}
use Rattle.trace_text.specs.declared.step.StateLine.{StateLine}
use Rattle.trace_text.specs.declared.step.StepLine.{StepLine}

abbrev pub state_of : Store → State → StateLine
state_of m s = record { phase = s.phase; epoch = epoch_of (readings_of m); last = last_of m }

abbrev pub same_state : StateLine → StateLine → Bool
same_state a b = same_phase a.phase b.phase && (a.epoch == b.epoch && a.last == b.last)

-- the state is reported after a start, and if it changed
abbrev pub reported : Option StateLine → StateLine → Option StateLine
reported None now = Some now
reported (Some before) now = if same_state before now then None else Some now

abbrev pub state_if_up : Store → Option State → Option StateLine
state_if_up m None = None
state_if_up m (Some s) = Some (state_of m s)

-- the state before an event, to which the new one is compared; a start has none
abbrev pub state_before : Store → Option State → Input → Option StateLine
state_before m s input.Start = None
state_before m s other = state_if_up m s

-- messages, numbered from this one on
abbrev pub numbered : ℕ → List Envelope → List Numbered
numbered n [] = []
numbered n (e ∷ es) = record { number = n; to = e.to; message = e.message } ∷ numbered (suc n) es

abbrev pub replied : ℕ → List Sent → List Replied
replied rank [] = []
replied rank (sent.Reply to reply ∷ sends) = record { rank = rank; session = to; reply = reply } ∷ replied rank sends
replied rank (sent.Message to message ∷ sends) = replied rank sends

-- the log's length after a map is kept; a marked map leaves it unchanged
abbrev pub log_after : ℕ → Store → ℕ
log_after n m = if is_marked m then n else max n (last_of m)

-- the lines of a monitor of a rank that did what its reaction to an input says
abbrev pub ran_line : World → ℕ → Input → Reaction → StepLine
ran_line w rank came r = record {
  outcome = outcome.Ran;
  ops = length r.transaction;
  state = reported (state_before (w.store rank) (w.state rank) came) (state_of (map_after w rank r) r.state);
  sent = numbered (suc (length w.messages)) (messages_of r.sends);
  replies = replied rank r.sends;
}

-- the lines of an event of which the outcome alone is reported
abbrev pub still_line : Outcome → StepLine
still_line what = record { outcome = what; ops = 0; state = None; sent = []; replies = [] }

-- the lines of what was met; a reaction that stops the run has none
abbrev pub met_line : World → Meeting → StepLine
met_line w (Reacts rank came (Ok r)) = ran_line w rank came r
met_line w NoMessage = still_line outcome.NoMessage
met_line w other = still_line outcome.Down

abbrev pub with_line : {A : Type 0} → StepLine → Result A Stop → Result (A × StepLine) Stop
with_line line (Ok next) = Ok (next, line)
with_line line (Err stop) = Err stop

-- ---- with crashes

-- the lines of an event in which a disk of its monitor fails: nothing is sent, and what it writes is kept or lost
abbrev pub injected_line : Scene → InjectedFault → (Bool → Outcome) → Meeting → StepLine
injected_line c u how (Reacts rank came result) = still_line (how (kept_at c u (Reacts rank came result)))
injected_line c u how other = met_line c.world other

abbrev pub line_of : Scene → schedule.Event → Meeting → StepLine
line_of c (events.Plain p) met = met_line c.world met
line_of c (events.Crash disk call image p) met =
    injected_line c (record { disk = disk; call = call; image = image }) outcome.Crashed met
line_of c (events.Fail disk call image p) met =
    injected_line c (record { disk = disk; call = call; image = image }) outcome.Failed met

-- the scene after an event of a schedule, with its lines, or what stops the run before it
abbrev pub step : Monitors → Scene → schedule.Event → Result (Scene × StepLine) Stop
step ms c e = with_line (line_of c e (meets ms c.world (scheduled_of e).plain)) (scene_after ms c (scheduled_of e))
