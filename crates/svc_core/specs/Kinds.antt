-- Which service a map is of.
use Rattle.std.specs.Prelude.{◌≡◌, ◌≤◌, Bool, true, false, length, Option, Some, None}
use Rattle.mon_msg.specs.Protocol.Maps.{most_map}
use Rattle.mon_msg.specs.Protocol.Parts.{map_text}
use Rattle.mon_wire.specs.declared.reply.ShownMap.{ShownMap}
use Rattle.mon_wire.specs.declared.reply.ShownMap.TheVariants as map
use Rattle.mon_wire.specs.declared.request.Service.{Service}
use Rattle.mon_wire.specs.declared.request.Service.TheVariants.{Kv, Log}

abbrev pub kind : ShownMap → Service
kind (map.Kv m) = Kv
kind (map.Log es) = Log

-- a map of the service that is no longer than such a map may be
pub record IsMapOf (s : Service) (m : ShownMap) : Type 0 where
  pub kind_is : kind m ≡ s
  pub short : length (map_text m) ≤ most_map s

-- A map took a step, or no step was possible and the map stayed.
abbrev pub Stepped : ShownMap → ShownMap → Option ShownMap → Bool → Type 0
Stepped old new next true = next ≡ Some new
Stepped old new next false = (next ≡ None) × (new ≡ old)
