-- A quorum that is led after some run of events.
use Rattle.mon_types.specs.Ranks.{has}
use Rattle.quorum_elects.specs.Ready.{LacksAtMost}
use Rattle.quorum_laws.specs.Accepting.{readings_at}
use Rattle.quorum_model.specs.World.{World}
use Rattle.quorum_stays.specs.Steady.{Reign}
use Rattle.std.specs.Prelude.{Bool, List, length, true, ℕ, ◌≡◌}

-- The leader has the whole log. No member is in a full synchronization, or lacks more than one version.
pub record IsAsLed (q : List Bool) (reign : Reign) (w : World) : Type 0 where
  pub leader : (readings_at w reign.leader).last ≡ length w.log
  pub members : (i : ℕ) → has q i ≡ true → LacksAtMost 1 w i
