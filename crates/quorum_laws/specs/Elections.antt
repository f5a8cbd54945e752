-- Who leads an epoch, and who is in its quorum.
use Rattle.mon_msg.specs.Protocol.Entering.{is_even}
use Rattle.mon_msg.specs.Protocol.Phases.{is_member, is_peon}
use Rattle.mon_msg.specs.Protocol.Readings.{epoch_of}
use Rattle.mon_msg.specs.Protocol.State.{State, quorum_of}
use Rattle.mon_types.specs.Ranks.{has}
use Rattle.quorum_laws.specs.Accepting.{IsMajorityOf, readings_at}
use Rattle.quorum_model.specs.World.{Envelope, World}
use Rattle.std.proofs.Common.{Bool, List, Some, true, ℕ, ◌≡◌, ◌≤◌}
use Rattle.std.specs.List.{Contains}
use Rattle.std.specs.Prelude.{if◌then◌else◌}

-- a monitor's epoch is at least that of each message that it sent
abbrev pub EpochsSent : World → Type 0
EpochsSent w = (e : Envelope) → Contains w.messages e → e.message.epoch ≤ epoch_of (readings_at w e.message.from)

-- the leader of a monitor that is in a quorum: monitor i itself unless it is a peon
abbrev pub leader_of : ℕ → State → ℕ
leader_of i s = if is_peon s.phase then s.peon.leader else i

-- a monitor is in this quorum in its epoch, under this leader
pub record IsMember (w : World) (i e l : ℕ) (q : List Bool) : Type 0 where
  pub state : State
  pub up : w.state i ≡ Some state
  pub member : is_member state.phase ≡ true
  pub epoch : epoch_of (readings_at w i) ≡ e
  pub leader : leader_of i state ≡ l
  pub quorum : quorum_of state ≡ q

-- the epoch is even, and the monitor and its leader are in the quorum, which is a majority
pub record IsQuorum (n i e l : ℕ) (q : List Bool) : Type 0 where
  pub even : is_even e ≡ true
  pub self : has q i ≡ true
  pub leader : has q l ≡ true
  pub major : IsMajorityOf n q

-- Leader l of epoch e has its whole quorum: all of it reached the epoch, and each of it that is in a quorum in that
-- epoch is in this one, under this leader.
pub record IsLed (n : ℕ) (w : World) (e l : ℕ) : Type 0 where
  pub quorum : List Bool
  pub even : is_even e ≡ true
  pub leader : has quorum l ≡ true
  pub major : IsMajorityOf n quorum
  pub reached : (m : ℕ) → has quorum m ≡ true → e ≤ epoch_of (readings_at w m)
  pub under : (m k : ℕ) (q : List Bool) → has quorum m ≡ true → IsMember w m e k q → (k ≡ l) × (q ≡ quorum)

abbrev pub ActiveAreLed : ℕ → World → Type 0
ActiveAreLed n w = (e l : ℕ) → Contains w.active (e, l) → IsLed n w e l
