-- The state that the trace of a schedule's events reaches, and what its lines say.
use Rattle.std.specs.Prelude.{◌≡◌, List, [], ◌∷◌, map, Option, Some, None, Result, Ok, Err}
use Rattle.std.specs.List.{flat_map}
use Rattle.quorum_model.specs.Happens.{Stop}
use Rattle.quorum_model.specs.Monitors.{Monitors}
use Rattle.quorum_model.specs.Runs.{ran, run}
use Rattle.quorum_model.specs.Scenes.{Scene, events_of, first_scene}
use Rattle.quorum_model.specs.World as model
use Rattle.schedule_text.specs.declared.event.Event.{Event}
use Rattle.trace_text.specs.declared.step.Replied.{Replied}
use Rattle.trace_text.specs.declared.step.StepLine.{StepLine}
use Rattle.mon_world.specs.Events.{scheduled_of}
use Rattle.mon_world.specs.Step.{numbered, step}

-- what is reported of each event, the scene after the last one, and what stopped the run there, if anything did
pub record Traced : Type 0 where
  pub lines : List StepLine
  pub scene : Scene
  pub stop : Option Stop

-- the trace that begins with this line and then continues with that trace
abbrev pub reported_first : StepLine → Traced → Traced
reported_first line t = record { lines = line ∷ t.lines; scene = t.scene; stop = t.stop }

abbrev pub traced_on : Scene → (Scene → Traced) → Result (Scene × StepLine) Stop → Traced
traced_on c others (Ok done) = reported_first done.1 (others done.0)
traced_on c others (Err stop) = record { lines = []; scene = c; stop = Some stop }

-- each event is reported from the scene that the one before it led to
unfoldable pub traced_from : Monitors → Scene → List Event → Traced
traced_from ms c [] = record { lines = []; scene = c; stop = None }
traced_from ms c (e ∷ es) = traced_on c (λ next. traced_from ms next es) (step ms c e)

abbrev pub traced : Monitors → List Event → Traced
traced ms es = traced_from ms first_scene es

-- a reply, as a line reports it
abbrev pub as_reported : model.Replied → Replied
as_reported r = record { rank = r.rank; session = r.session; reply = r.reply }

-- The trace is that of the run: it reaches the run's world, what stops the one stops the other, and its lines report each
-- reply and each message of the run, in order, and no others.
pub record TracesRun (ms : Monitors) (es : List Event) : Type 0 where
  pub world : (traced ms es).scene.world ≡ run ms (events_of ms (map scheduled_of es))
  pub stop : (traced ms es).stop ≡ (ran ms (events_of ms (map scheduled_of es))).stop
  pub replies : flat_map (λ (l : StepLine). l.replies) (traced ms es).lines ≡
      map as_reported (run ms (events_of ms (map scheduled_of es))).replied
  pub messages : flat_map (λ (l : StepLine). l.sent) (traced ms es).lines ≡
      numbered 1 (run ms (events_of ms (map scheduled_of es))).messages
