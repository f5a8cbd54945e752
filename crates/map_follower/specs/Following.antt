-- The copy of a follower that takes the replies of one run.
use Rattle.std.specs.Prelude.{◌≡◌, ℕ, ◌≤◌, List, length}
use Rattle.std.specs.List.{Contains}
use Rattle.mon_msg.specs.Fold.{incrementals}
use Rattle.mon_wire.specs.declared.reply.Reply.{Reply}
use Rattle.mon_wire.specs.declared.request.Service.{Service}
use Rattle.quorum_model.specs.World.{World, Replied}
use Rattle.map_follower.specs.declared.follower.Follower.{Follower}
use Rattle.map_follower.specs.Copies.{at}

-- a client was given this reply
pub record WasGiven (w : World) (r : Reply) : Type 0 where
  pub replied : Replied
  pub there : Contains w.replied replied
  pub is : replied.reply ≡ r

-- the map that a log gives a service at the copy's version, which the log reaches
pub record Holds (s : Service) (log : List (List ℕ)) (f : Follower) : Type 0 where
  pub map : f.map ≡ at s log f.version
  pub within : f.version ≤ length (incrementals s log (length log))
