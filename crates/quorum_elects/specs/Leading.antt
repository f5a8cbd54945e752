-- A leader, and a majority that follows it.
use Rattle.mon_msg.specs.Protocol.Readings.{epoch_of}
use Rattle.mon_msg.specs.Protocol.State.{State}
use Rattle.mon_types.specs.Ranks.{has}
use Rattle.mon_wire.specs.declared.phase.Phase.TheVariants as phase
use Rattle.quorum_laws.specs.Accepting.{IsMajorityOf, readings_at}
use Rattle.quorum_model.specs.World.{World}
use Rattle.std.specs.Prelude.{Bool, List, Some, true, ℕ, ◌≡◌}

-- monitor i is up, and this holds of what it remembers
pub record IsUp (w : World) (i : ℕ) (As : State → Type 0) : Type 0 where
  pub state : State
  pub up : w.state i ≡ Some state
  pub is : As state

-- The monitor leads this quorum, and is collecting: it asks the members what they accepted.
pub record Collects (members : List Bool) (s : State) : Type 0 where
  pub collects : s.phase ≡ phase.Collecting
  pub quorum : s.leader.quorum ≡ members

pub record Follows (by : ℕ) (members : List Bool) (s : State) : Type 0 where
  pub follows : s.phase ≡ phase.Peon
  pub leader : s.peon.leader ≡ by
  pub quorum : s.peon.quorum ≡ members

-- A monitor leads a quorum that is a majority of n monitors, all of them in the set. The others of the quorum follow
-- it, in the same epoch.
pub record HasLeader (n : ℕ) (set : List Bool) (before after : World) : Type 0 where
  pub leader : ℕ
  pub quorum : List Bool
  pub among : has quorum leader ≡ true
  pub within : (f : ℕ) → has quorum f ≡ true → has set f ≡ true
  pub major : IsMajorityOf n quorum
  pub leads : IsUp after leader (Collects quorum)
  pub follow : (f : ℕ) → has quorum f ≡ true → (f ≡ leader → ⊥) → IsUp after f (Follows leader quorum)
  pub epoch : (f : ℕ) → has quorum f ≡ true → epoch_of (readings_at after f) ≡ epoch_of (readings_at after leader)
