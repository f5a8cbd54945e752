-- What the code's world represents.
use Rattle.std.specs.Prelude.{◌≡◌, ℕ, ◌<◌, ◌≤◌, List, [], ◌∷◌, ◌++◌, length, map, slice_get, Option, Some, None, Result, Ok, Err}
use Rattle.std.specs.List.{AllByRecursion}
use Rattle.mon_bounds.specs.Fitting.{IsValidInput}
use Rattle.mon_msg.specs.Protocol.State.{State}
use Rattle.mon_msg.specs.declared.input.Input.TheVariants as input
use Rattle.mon_msg.specs.declared.view.Me.{Me}
use Rattle.mon_tx.specs.Map.{Store}
use Rattle.quorum_model.specs.Events.{AllFit}
use Rattle.quorum_model.specs.Files.{Files}
use Rattle.quorum_model.specs.Happens as happens
use Rattle.quorum_model.specs.Meets as meeting
use Rattle.quorum_model.specs.Meets.{Meeting, NoMessage, Down, Reacts, meets}
use Rattle.quorum_model.specs.Monitors.{Monitors, me_of}
use Rattle.quorum_model.specs.Runs.{ran, run}
use Rattle.quorum_model.specs.Scenes.{Scene, event_in, kept_at, scene_after}
use Rattle.quorum_model.specs.InjectedFaults.{InjectedFault}
use Rattle.quorum_model.specs.World as model
use Rattle.schedule_text.specs.declared.event.Event.{Event}
use Rattle.schedule_text.specs.declared.event.Event.TheVariants as events
use Rattle.schedule_text.specs.declared.event.Plain.{Plain}
use Rattle.schedule_text.specs.declared.event.Plain.TheVariants as plain
use Rattle.trace_text.specs.declared.step.StepLine.{StepLine}
use Rattle.mon_world.specs.declared.monitor.Monitor.{Monitor}
use Rattle.mon_world.specs.declared.stop.WorldStop.{WorldStop}
use Rattle.mon_world.specs.declared.world.Arrival.{Arrival}
use Rattle.mon_world.specs.declared.sending.Envelope.{Envelope}
use Rattle.mon_world.specs.declared.world.FaultOutcome.{FaultOutcome}
use Rattle.mon_world.specs.declared.world.FaultOutcome.TheVariants as fault_outcome
use Rattle.mon_world.specs.declared.world.World.{World}
use Rattle.mon_world.specs.Events.{scheduled_of}
use Rattle.mon_world.specs.Monitor.{Represents}
use Rattle.mon_world.specs.Stops.{Stops}

-- a message, and below an arrival, as the model has them
abbrev pub envelope_of : Envelope → model.Envelope
envelope_of e = record { to = e.to; message = e.message }

abbrev pub arrival_of : Arrival → meeting.Arrival
arrival_of a = record { rank = a.rank; at = a.at; input = a.input }

-- a message to one of this many monitors, which may be delivered
pub record MayArrive (n : ℕ) (e : model.Envelope) : Type 0 where
  pub to : e.to < n
  pub comes : IsValidInput (input.Deliver e.message)

-- the monitor of a rank represents a store, a state and files
abbrev pub RepresentsAt : Monitors → List Monitor → ℕ → Store → Option State → Files → Type 0
RepresentsAt ms monitors i m s f = (me : Me) (monitor : Monitor) → me_of ms i ≡ Some me →
    slice_get monitors i ≡ Some monitor → Represents me m s f monitor

-- each monitor represents its store, state and files of the scene
abbrev pub EachRepresents : Monitors → List Monitor → Scene → Type 0
EachRepresents ms monitors c = (i : ℕ) → RepresentsAt ms monitors i (c.world.store i) (c.world.state i) (c.files i)

-- The monitors are the map's, and all messages and the log's length are the scene's.
pub record RepresentsScene (ms : Monitors) (world : World) (c : Scene) : Type 0 where
  pub count : length world.monitors.items ≡ ms.count
  pub each : EachRepresents ms world.monitors.items c
  pub messages : map envelope_of world.messages.items ≡ c.world.messages
  pub arrive : AllByRecursion (MayArrive ms.count) c.world.messages
  pub log : world.log ≡ length c.world.log

-- for some scene
abbrev pub IsWorld : World → Type 0
IsWorld world = (ms : Monitors) × (c : Scene) × RepresentsScene ms world c

-- It represents a list of events: their run ends in the scene's world, and nothing stops it.
pub record RepresentsRun (ms : Monitors) (events : List model.Event) (world : World) (c : Scene) : Type 0 where
  pub fit : AllFit ms.count events
  pub comes_to : run ms events ≡ c.world
  pub goes_on : (ran ms events).stop ≡ None
  pub stands : RepresentsScene ms world c

-- a list of events with one of a schedule after it, which happens in this scene
abbrev pub and_event : Monitors → List model.Event → Scene → Event → List model.Event
and_event ms events c e = events ++ event_in ms c (scheduled_of e) ∷ []

-- An event that may happen to n monitors: its rank is that of one of them, and its request may come. The number of a
-- message may be any.
abbrev pub FitsPlain : ℕ → Plain → Type 0
FitsPlain n (plain.Start rank at) = rank < n
FitsPlain n (plain.Deliver message at) = Unit {0}
FitsPlain n (plain.Timer rank kind at) = rank < n
FitsPlain n (plain.Client rank at session request) = (rank < n) × IsValidInput (input.Client session request)

-- the same of an event in which a disk fails: in one of its first thousand calls, with one of four images
abbrev pub FitsInjected : ℕ → (call image : ℕ) → Plain → Type 0
FitsInjected n call image p = (1 ≤ call) × (call ≤ 1000) × (image ≤ 3) × FitsPlain n p

abbrev pub Fits : ℕ → Event → Type 0
Fits n (events.Plain p) = FitsPlain n p
Fits n (events.Crash disk call image p) = FitsInjected n call image p
Fits n (events.Fail disk call image p) = FitsInjected n call image p

-- A call returned the lines of the model's step, and `there` holds of the scene after it; or the run stops as the
-- model's.
abbrev pub Leads : (Scene → Type 0) → Result StepLine WorldStop → Result (Scene × StepLine) happens.Stop → Type 0
Leads there (Ok line) wanted = (next : Scene) × (wanted ≡ Ok (next, line)) × there next
Leads there (Err e) wanted = Stops e wanted

abbrev pub Does : Monitors → Result StepLine WorldStop → World → Result (Scene × StepLine) happens.Stop → Type 0
Does ms result new wanted = Leads (RepresentsScene ms new) result wanted

-- the result of what was met, if a disk is to fail
abbrev pub fault_outcome_at : Scene → InjectedFault → Meeting → FaultOutcome
fault_outcome_at c u (Reacts i came result) = fault_outcome.Stopped (kept_at c u (Reacts i came result))
fault_outcome_at c u NoMessage = fault_outcome.NoMessage
fault_outcome_at c u Down = fault_outcome.Down

-- the scene after an input, if a disk fails
abbrev pub injected_step : Monitors → Scene → InjectedFault → model.Plain → Result Scene happens.Stop
injected_step ms c u p = scene_after ms c (record { plain = p; injected = Some u })

abbrev pub DoesInjected : Monitors → Result FaultOutcome WorldStop → World → Scene → InjectedFault → model.Plain
    → Type 0
DoesInjected ms (Ok reported) new c u p =
    (next : Scene) × (injected_step ms c u p ≡ Ok next) × (reported ≡ fault_outcome_at c u (meets ms c.world p)) ×
    RepresentsScene ms new next
DoesInjected ms (Err e) new c u p = Stops e (injected_step ms c u p)
