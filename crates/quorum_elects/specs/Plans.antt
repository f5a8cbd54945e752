-- Plans: which events follow, by the world that is reached.
use Rattle.mon_bytes.specs.declared.command.Command.{Command}
use Rattle.mon_decode.specs.Headers.{kind_in, same_kind}
use Rattle.mon_wire.specs.declared.kind.Kind.{Kind}
use Rattle.mon_wire.specs.declared.phase.Timer.{Timer}
use Rattle.mon_wire.specs.declared.request.Session.{Session}
use Rattle.quorum_elects.specs.Ways.{Clock, HasWay}
use Rattle.quorum_model.specs.CalmSchedule.{request_of}
use Rattle.quorum_model.specs.Meets.{message_at}
use Rattle.quorum_model.specs.Monitors.{Monitors}
use Rattle.quorum_model.specs.Runs.{run, run_from}
use Rattle.quorum_model.specs.World.{Client, Arrives, Deliver, Envelope, Event, Ring, Start, World}
use Rattle.std.specs.List.{enumerate_from, filter, last_or}
use Rattle.std.specs.Option.{option_map}
use Rattle.std.specs.Prelude.{Bool, List, None, Option, Some, [], drop, map, suc, ℕ, ◌&&◌, ◌++◌, ◌==◌, ◌∷◌, ◌≡◌}

-- A planned event: a monitor starts, gets a message of a kind from another one, is asked a command, or a timer fires.
pub data Planned : Type 0 where
  Starts : (rank : ℕ) → Planned
  Hears : (rank from : ℕ) → (kind : Kind) → Planned
  Rings : (rank : ℕ) → (timer : Timer) → Planned
  Asks : (rank : ℕ) → (session : Session) → (command : Command) → Planned

-- A step of a plan gives the events that follow in a world, in order. A plan is a list of steps.
abbrev pub PlanStep : Type 0
PlanStep = World → List Planned

-- ---- which events follow a plan

-- the event delivers a message of this kind from the one monitor to the other
pub record Delivers (clock : Clock) (w : World) (rank from : ℕ) (kind : Kind) (e : Event) : Type 0 where
  pub number : ℕ
  pub is : e ≡ Arrives (Deliver number (clock.event w))
  pub envelope : Envelope
  pub there : message_at w.messages number ≡ Some envelope
  pub to : envelope.to ≡ rank
  pub sender : envelope.message.from ≡ from
  pub kind_is : kind_in envelope.message.body ≡ kind

-- in world w this event is the planned one, at the time of the clock
abbrev pub IsPlanned : Clock → World → Planned → Event → Type 0
IsPlanned clock w (Starts rank) e = e ≡ Arrives (Start rank (clock.event w))
IsPlanned clock w (Hears rank from kind) e = Delivers clock w rank from kind e
IsPlanned clock w (Rings rank timer) e = e ≡ Arrives (Ring rank timer (clock.event w))
IsPlanned clock w (Asks rank session command) e =
    e ≡ Arrives (Client rank (clock.command w) session (request_of command))

-- From world w on, the events are the planned ones, in order, and no others.
abbrev pub ArePlanned : Monitors → Clock → World → List Planned → List Event → Type 0
ArePlanned ms clock w [] es = es ≡ []
ArePlanned ms clock w (p ∷ ps) [] = ⊥
ArePlanned ms clock w (p ∷ ps) (e ∷ es) =
    IsPlanned clock w p e × ArePlanned ms clock (run_from ms w (e ∷ [])) ps es

-- from this world on, the events follow the steps, each of which sees the world that the events before it lead to
abbrev pub Follow : Monitors → Clock → World → List PlanStep → List Event → Type 0
Follow ms clock w [] es = es ≡ []
Follow ms clock w (step ∷ steps) es =
    (first : List Event) × (others : List Event) × (es ≡ first ++ others)
    × ArePlanned ms clock w (step w) first × Follow ms clock (run_from ms w first) steps others

-- A way on (`HasWay`) whose events follow the plan.
pub record PlannedWay (ms : Monitors) (events : List Event) (q : List Bool) (asks : Option (Session × Command))
    (clock : Clock) (plan : List PlanStep) (most : ℕ) (Leads : World → World → Type 0) : Type 0 where
  pub way : HasWay ms events q asks clock most Leads
  pub follows : Follow ms clock (run ms events) plan way.more

-- ---- one event for each planned event

-- whether a message goes from the one monitor to the other, and has this kind
abbrev pub goes : (rank from : ℕ) → Kind → Envelope → Bool
goes rank from kind e = e.to == rank && (e.message.from == from && same_kind (kind_in e.message.body) kind)

-- the number of the newest such message after the first `sent`, if there is one
unfoldable pub newest : (sent rank from : ℕ) → Kind → List Envelope → Option ℕ
newest sent rank from kind messages =
    last_or None (map (λ m. m.0) (filter (λ m. goes rank from kind m.1) (enumerate_from (suc sent) (drop sent messages))))

-- The planned event, at this time. If it delivers a message, that is the newest one after the first `sent`; None if there
-- is none.
abbrev pub event_of : (sent at : ℕ) → World → Planned → Option Event
event_of sent at w (Starts rank) = Some (Arrives (Start rank at))
event_of sent at w (Hears rank from kind) =
    option_map (λ k. Arrives (Deliver k at)) (newest sent rank from kind w.messages)
event_of sent at w (Rings rank timer) = Some (Arrives (Ring rank timer at))
event_of sent at w (Asks rank session command) = Some (Arrives (Client rank at session (request_of command)))
