-- The worlds that runs reach.
use Rattle.std.specs.Prelude.{List, None, ◌≡◌}
use Rattle.quorum_model.specs.Events.{AllFit}
use Rattle.quorum_model.specs.Monitors.{Monitors}
use Rattle.quorum_model.specs.Runs.{ran}
use Rattle.quorum_model.specs.World.{Event, World}

-- The world is the end of a run of events that fit, and nothing stopped the run.
pub record Reached (ms : Monitors) (w : World) : Type 0 where
  pub events : List Event
  pub fit : AllFit ms.count events
  pub is : ran ms events ≡ record { world = w; stop = None }
