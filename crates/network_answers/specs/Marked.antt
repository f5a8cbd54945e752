-- A map that has a client's marker has everything that was acknowledged before the client asked for it.
use Rattle.std.specs.Prelude.{◌≡◌, ℕ, ◌≤◌, List, Some, Ok}
use Rattle.std.specs.FinMap.{get}
use Rattle.std.specs.List.{Contains}
use Rattle.map_kv.specs.Decode as kv_decode
use Rattle.map_kv.specs.declared.inc.KvInc.TheVariants as kv
use Rattle.map_log.specs.Decode as log_decode
use Rattle.map_log.specs.declared.inc.LogInc.{LogInc}
use Rattle.mon_msg.specs.Fold.{map_of_log}
use Rattle.mon_wire.specs.declared.reply.Reply.TheVariants as reply
use Rattle.mon_wire.specs.declared.reply.ShownMap.{ShownMap}
use Rattle.mon_wire.specs.declared.reply.ShownMap.TheVariants as map
use Rattle.mon_wire.specs.declared.request.Service.{Service}
use Rattle.mon_wire.specs.declared.request.Service.TheVariants as service
use Rattle.network_answers.specs.Answers.{Answer}
use Rattle.network_answers.specs.Epochs.{IsUnasked}
use Rattle.quorum_model.specs.World.{Acknowledgement, Asked}

-- The map has a marker: a key with a value that none of these requests sets it to, or an entry of the cluster log that
-- none of them adds. The bytes are those of changes that do so.
abbrev pub HasMarker : List Asked → ShownMap → Type 0
HasMarker before (map.Kv m) =
    (key value : List ℕ) × (get m key ≡ Some value)
    × ((bytes : List ℕ) → kv_decode.inc_of bytes ≡ Ok (kv.Set key value) → IsUnasked before service.Kv bytes)
HasMarker before (map.Log entries) =
    (entry : LogInc) × Contains entries entry
    × ((bytes : List ℕ) → log_decode.inc_of bytes ≡ Ok entry → IsUnasked before service.Log bytes)

-- the answer shows a map with a marker for which nobody had asked by then
pub record ShowsMarker (before : List Asked) (a : Answer) : Type 0 where
  pub service : Service
  pub paxos : ℕ
  pub version : ℕ
  pub map : ShownMap
  pub is : a.reply ≡ reply.Shown service paxos version map
  pub has : HasMarker before map

-- The map that is shown is that of the log up to a version which is no lower than the acknowledged one. So it includes
-- what was acknowledged, if that is of its service.
pub record Includes (log : List (List ℕ)) (before : List Asked) (a : Answer) (M : ShowsMarker before a)
    (what : Acknowledgement) : Type 0 where
  pub of_log : M.map ≡ map_of_log M.service log M.paxos
  pub within : what.version ≤ M.paxos
