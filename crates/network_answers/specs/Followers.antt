-- A client that follows the monitors of a network.
use Rattle.std.specs.Prelude.{◌≡◌, ℕ, ◌<◌, List, [], ◌∷◌, ◌++◌, Option, option_map, Result, Ok, Err}
use Rattle.std.specs.List.{AllByRecursion, flat_map}
use Rattle.map_follower.specs.Following.{Holds}
use Rattle.map_follower.specs.Iterations.{copy_text}
use Rattle.map_follower.specs.declared.follower.Follower.{Follower}
use Rattle.mon_link.specs.declared.link.Got.{Got}
use Rattle.mon_link.specs.declared.link.Got.TheVariants.{Datagram, Idle, Closed}
use Rattle.mon_types.specs.declared.names.Stop.{Stop}
use Rattle.mon_wire.specs.declared.request.Service.{Service}
use Rattle.quorum_network.specs.Network.{Posted}
use Rattle.quorum_network.specs.Promises.{Numbers, ReachesClient}

-- A link may return this to a client that monitors know by these numbers. A datagram from a monitor is one that this
-- monitor sent to a number of this client, at any time. From others any bytes may come.
abbrev pub Reaches : List Posted → Numbers → Result Got Stop → Type 0
Reaches sent numbers (Ok (Datagram from bytes)) = ReachesClient sent numbers from bytes
Reaches sent numbers (Ok Idle) = Unit {0}
Reaches sent numbers (Ok Closed) = Unit {0}
Reaches sent numbers (Err e) = Unit {0}

-- each copy is of a higher version than those before it
abbrev pub AreRising : List Follower → Type 0
AreRising [] = Unit {0}
AreRising (f ∷ later) = AllByRecursion (λ (g : Follower). f.version < g.version) later × AreRising later

-- The new output is the old one and further lines. Each line has a copy that is the log's map at its version, and the
-- versions increase from line to line.
pub record Writes (s : Service) (log : List (List ℕ)) (old new : Option (List ℕ)) : Type 0 where
  pub copies : List Follower
  pub hold : AllByRecursion (Holds s log) copies
  pub rising : AreRising copies
  pub lines : new ≡ option_map (λ (w : List ℕ). w ++ flat_map copy_text copies) old
