-- A leader that lost a monitor of its quorum.
use Rattle.mon_msg.specs.Protocol.Leader.{is_one_of}
use Rattle.mon_msg.specs.Protocol.State.{State}
use Rattle.mon_types.specs.Ranks.{has}
use Rattle.mon_wire.specs.declared.phase.Phase.TheVariants as phase
use Rattle.mon_wire.specs.declared.phase.Phase.{Phase}
use Rattle.quorum_model.specs.Meets.{message_at}
use Rattle.quorum_model.specs.Monitors.{Monitors}
use Rattle.quorum_model.specs.World.{Arrives, Client, Deliver, Event, World}
use Rattle.quorum_stays.specs.Reading.{Reads}
use Rattle.quorum_stays.specs.Serving.{IsForward}
use Rattle.quorum_timed.specs.Timed.{Leads, Pace, Timed}
use Rattle.std.specs.Prelude.{Bool, IfSome, IsSomeAnd, List, [], true, ℕ, ◌++◌, ◌∷◌, ◌≡◌, ◌≤◌}

-- a leader that answers clients, or will when its value is committed
abbrev pub serving : List Phase
serving = phase.Active ∷ phase.Updating ∷ []

-- The monitor is active or updating, and leads a quorum that has monitor m.
pub record ServesWith (m : ℕ) (s : State) : Type 0 where
  pub serves : is_one_of serving s.phase ≡ true
  pub among : has s.leader.quorum m ≡ true

-- ---- what arrives at it

-- The event brings monitor i no command: no client asks it for one, and no FORWARD arrives at it.
abbrev pub BringsNone : (i : ℕ) → World → Event → Type 0
BringsNone i w (Arrives (Client rank at session request)) = rank ≡ i → Reads request
BringsNone i w (Arrives (Deliver k at)) =
    IfSome (message_at w.messages k) (λ m. m.to ≡ i → IsForward m.message.body → ⊥)
BringsNone i w other = Unit {0}

-- E holds of each event of the run, and of the world in which it comes.
abbrev pub EachIs : (ms : Monitors) (q : List Bool) (pace : Pace) (E : World → Event → Type 0) (t : Timed)
    (more : List (ℕ × Event)) (last : Timed) → Leads ms q pace t more last → Type 0
EachIs ms q pace E t [] last run = Unit {0}
EachIs ms q pace E t ((u, e) ∷ more) last run = E t.world e × EachIs ms q pace E run.1.0 more last run.1.2

-- ---- stepping down

-- At some time of the run, and by time u, monitor i is up and doesn't serve with monitor m.
pub record StepsDown (ms : Monitors) (q : List Bool) (pace : Pace) (t : Timed) (more : List (ℕ × Event))
    (i m u : ℕ) : Type 0 where
  pub before : List (ℕ × Event)
  pub after : List (ℕ × Event)
  pub parts : more ≡ before ++ after
  pub reached : Timed
  pub leads : Leads ms q pace t before reached
  pub by : reached.time ≤ u
  pub left : IsSomeAnd (reached.world.state i) (λ s. ServesWith m s → ⊥)
