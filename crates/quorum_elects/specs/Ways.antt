-- Ways on: further events of some monitors alone, and their times.
use Rattle.mon_bytes.specs.declared.command.Command.{Command}
use Rattle.mon_types.specs.Ranks.{has}
use Rattle.mon_wire.specs.declared.phase.Phase.TheVariants as phase
use Rattle.mon_wire.specs.declared.request.Request.{Request}
use Rattle.mon_wire.specs.declared.request.Session.{Session}
use Rattle.quorum_model.specs.CalmSchedule.{request_of}
use Rattle.quorum_model.specs.Events.{AllFit}
use Rattle.quorum_model.specs.Meets.{message_at}
use Rattle.quorum_model.specs.Monitors.{Monitors}
use Rattle.quorum_model.specs.Runs.{ran, run, run_from}
use Rattle.quorum_model.specs.World.{Client, Arrives, Crash, Deliver, Event, Ring, Start, World}
use Rattle.std.specs.Prelude.{Bool, IfSome, IsSomeAnd, List, None, Option, Some, [], false, length, true, ℕ, ⊤, ◌++◌, ◌-◌, ◌<◌, ◌∷◌, ◌≡◌, ◌≤◌}

-- When events come: in each world, the time of the next one, and that of the command if it comes next. The clock may
-- stand still, or go back.
pub record Clock : Type 0 where
  pub event : World → ℕ
  pub command : World → ℕ

-- If a member of q is an active leader with a lease, the command comes before the end of the lease, at least one
-- millisecond.
abbrev pub ComesInLease : List Bool → Clock → Type 0
ComesInLease q clock =
    (w : World) (i : ℕ) → has q i ≡ true
    → IfSome (w.state i) (λ s. s.phase ≡ phase.Active → IfSome s.leader.lease (λ end. clock.command w ≤ end - 1))

-- the request is this session's command, if there is one
abbrev pub IsAskedBy : Option (Session × Command) → Session → Request → Type 0
IsAskedBy None s r = ⊥
IsAskedBy (Some (by, command)) s r = (s ≡ by) × (r ≡ request_of command)

-- A step of the monitors of q in a world: one of them starts, a timer of one fires, one is asked the request, or one gets
-- a message that isn't among the first `sent`. It comes at the time of the clock. Nothing crashes.
abbrev pub IsStep : List Bool → (sent : ℕ) → Option (Session × Command) → Clock → World → Event → Type 0
IsStep q sent asks clock w (Arrives (Start rank at)) = (at ≡ clock.event w) × (has q rank ≡ true)
IsStep q sent asks clock w (Arrives (Deliver message at)) =
    (at ≡ clock.event w) × (sent < message) × IsSomeAnd (message_at w.messages message) (λ e. has q e.to ≡ true)
IsStep q sent asks clock w (Arrives (Ring rank timer at)) = (at ≡ clock.event w) × (has q rank ≡ true)
IsStep q sent asks clock w (Arrives (Client rank at session r)) =
    (at ≡ clock.command w) × (has q rank ≡ true) × IsAskedBy asks session r
IsStep q sent asks clock w (Crash p kept) = ⊥

-- From world w on, each event is a step in the world that the events before it lead to.
abbrev pub AreSteps : Monitors → List Bool → (sent : ℕ) → Option (Session × Command) → Clock → World → List Event
    → Type 0
AreSteps ms q sent asks clock w [] = ⊤
AreSteps ms q sent asks clock w (e ∷ es) =
    IsStep q sent asks clock w e × AreSteps ms q sent asks clock (run_from ms w (e ∷ [])) es

-- The monitors outside of q have the same states and stores in both worlds.
abbrev pub OthersRest : List Bool → (before after : World) → Type 0
OthersRest q before after =
    (i : ℕ) → has q i ≡ false → (after.state i ≡ before.state i) × (after.store i ≡ before.store i)

-- After the run there are at most `most` further events, all of them at the monitors of q, that come at the times of the
-- clock and deliver only messages sent since. None of them stops the run. In the end all other monitors are as they
-- were, and `Leads` holds of the world after the run and of the last one.
pub record HasWay (ms : Monitors) (events : List Event) (q : List Bool) (asks : Option (Session × Command))
    (clock : Clock) (most : ℕ) (Leads : World → World → Type 0) : Type 0 where
  pub more : List Event
  pub few : length more ≤ most
  pub steps : AreSteps ms q (length (run ms events).messages) asks clock (run ms events) more
  pub fits : AllFit ms.count more
  pub goes_on : (ran ms (events ++ more)).stop ≡ None
  pub rest : OthersRest q (run ms events) (run ms (events ++ more))
  pub leads : Leads (run ms events) (run ms (events ++ more))
