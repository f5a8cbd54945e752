-- A leader under the newest proposal number.
use Rattle.mon_msg.specs.Protocol.Readings.{promise_of}
use Rattle.mon_msg.specs.Protocol.State.{State}
use Rattle.mon_types.specs.Ranks.{has}
use Rattle.mon_wire.specs.declared.phase.Phase.TheVariants as phase
use Rattle.quorum_laws.specs.Accepting.{IsMajorityOf, readings_at}
use Rattle.quorum_model.specs.World.{World}
use Rattle.std.specs.Prelude.{Bool, List, true, ℕ, ◌≡◌, ◌≤◌, ◌⊎◌}

-- The monitor is active or updating. The members of a majority, all of them in its quorum, promised no greater number
-- than its own.
pub record IsNewest (n : ℕ) (w : World) (s : State) : Type 0 where
  pub serves : (s.phase ≡ phase.Active) ⊎ (s.phase ≡ phase.Updating)
  pub by : List Bool
  pub major : IsMajorityOf n by
  pub within : (i : ℕ) → has by i ≡ true → has s.leader.quorum i ≡ true
  pub promised : (i : ℕ) → has by i ≡ true → promise_of (readings_at w i) ≤ s.leader.pn
