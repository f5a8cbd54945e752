-- The maps of the services: their texts, and what an incremental makes of them.
use Rattle.std.specs.FinMap.{empty}
use Rattle.std.specs.Option.{option_map, option_and_then}
use Rattle.std.specs.Prelude.{ℕ, nat_le, List, Option, Some, None, Result, Ok, if◌then◌else◌, [], Err, length}
use Rattle.map_kv.specs.declared.command.TheConstants as of_kv
use Rattle.map_kv.specs.Decode as kv_decode
use Rattle.map_kv.specs.Map as kv
use Rattle.map_log.specs.declared.surplus.TheConstants as of_log
use Rattle.map_log.specs.Decode as log_decode
use Rattle.map_log.specs.Map as log
use Rattle.mon_msg.specs.Protocol.Parts.{map_text}
use Rattle.mon_wire.specs.declared.reply.ShownMap.TheVariants as map
use Rattle.mon_wire.specs.declared.reply.ShownMap.{ShownMap}
use Rattle.mon_wire.specs.declared.request.Service.TheVariants.{Kv, Log}
use Rattle.mon_wire.specs.declared.request.Service.{Service}

abbrev pub if_ok : {A E : Type 0} → Result A E → Option A
if_ok (Ok x) = Some x
if_ok (Err e) = None

abbrev pub empty_map : Service → ShownMap
empty_map Kv = map.Kv empty
empty_map Log = map.Log []

-- the longest text of a service's map, in bytes
abbrev pub most_map : Service → ℕ
most_map Kv = of_kv.MOST_KV_MAP
most_map Log = of_log.MOST_LOG_MAP

abbrev pub short_map : Service → ShownMap → Option ShownMap
short_map s m = if nat_le (length (map_text m)) (most_map s) then Some m else None

abbrev pub map_of : Service → List ℕ → Option ShownMap
map_of Kv bytes = option_map map.Kv (if_ok (kv_decode.map_of bytes))
map_of Log bytes = option_map map.Log (if_ok (log_decode.map_of bytes))

-- the map that bytes encode, if they are no longer than a map's encoding may be
abbrev pub decoded_map : Service → List ℕ → Option ShownMap
decoded_map s bytes = if nat_le (length bytes) (most_map s) then map_of s bytes else None

-- the map after the incremental that bytes encode, if they encode one
abbrev pub with_incremental : ShownMap → List ℕ → Option ShownMap
with_incremental (map.Kv m) bytes = option_map (λ inc. map.Kv (kv.with_inc m inc)) (if_ok (kv_decode.inc_of bytes))
with_incremental (map.Log es) bytes = option_map (λ inc. map.Log (log.with_inc es inc)) (if_ok (log_decode.inc_of bytes))

-- the same, if the map isn't longer than a map may be
abbrev pub next_map : Service → ShownMap → List ℕ → Option ShownMap
next_map s m bytes = option_and_then (short_map s) (with_incremental m bytes)
