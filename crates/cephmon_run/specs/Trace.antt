-- The trace of a schedule's run.
use Rattle.std.specs.Prelude.{ℕ, suc, List, [], ◌∷◌, ◌++◌, length, Option, Some, None, Result, Ok, Err}
use Rattle.quorum_model.specs.Happens.{Stop}
use Rattle.quorum_model.specs.Monitors.{Monitors}
use Rattle.quorum_model.specs.Scenes.{Scene, first_scene}
use Rattle.schedule_text.specs.declared.event.Event as schedule
use Rattle.trace_text.specs.declared.step.StepLine.{StepLine}
use Rattle.schedule_text.specs.Encoding.{header, ended_line}
use Rattle.trace_text.specs.Trace.{step_lines, end_text}
use Rattle.mon_world.specs.Step.{step}

-- the text of a trace, and what stopped its run, if anything did
pub record Trace : Type 0 where
  pub text : List ℕ
  pub stop : Option Stop

abbrev pub after_lines : List ℕ → Trace → Trace
after_lines lines trace = record { text = lines ++ trace.text; stop = trace.stop }

-- an event's lines and the trace from its scene on; what stops the run ends the trace before the event
abbrev pub goes_on : ℕ → schedule.Event → (Scene → Trace) → Result (Scene × StepLine) Stop → Trace
goes_on number e follow (Ok done) = after_lines (step_lines number e done.1) (follow done.0)
goes_on number e follow (Err stop) = record { text = []; stop = Some stop }

-- the trace of events from a scene on, after this many earlier ones, with the last line
unfoldable pub trace_from : Monitors → ℕ → Scene → List schedule.Event → Trace
trace_from ms n c [] = record { text = end_text n (length c.world.log); stop = None }
trace_from ms n c (e ∷ events) = goes_on (suc n) e (λ next. trace_from ms (suc n) next events) (step ms c e)

-- the trace of a schedule's run
abbrev pub trace : Monitors → List schedule.Event → Trace
trace ms events = after_lines (ended_line (header ms.count ms.rule)) (trace_from ms 0 first_scene events)
