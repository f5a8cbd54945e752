-- Puts under named keys, and the prefix of each service's map.
use Rattle.mon_tx.specs.declared.key.Area.{Area}
use Rattle.mon_tx.specs.declared.key.Area.TheVariants as area
pub use Rattle.mon_tx.specs.Puts.{put, put_number}
use Rattle.mon_wire.specs.declared.request.Service.{Service}
use Rattle.mon_wire.specs.declared.request.Service.TheVariants.{Kv, Log}

-- the prefix under which a service keeps its map
abbrev pub area_of : Service → Area
area_of Kv = area.Kv
area_of Log = area.Logm
