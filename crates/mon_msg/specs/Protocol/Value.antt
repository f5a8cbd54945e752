-- The value of a command.
use Rattle.std.specs.Prelude.{ℕ, suc, List, Result, Ok, Err}
use Rattle.map_kv.specs.Made as kv_made
use Rattle.map_kv.specs.Map as kv
use Rattle.map_kv.specs.Text as kv_text
use Rattle.map_kv.specs.declared.inc.KvInc.{KvInc}
use Rattle.map_log.specs.Made as log_made
use Rattle.map_log.specs.Map as log
use Rattle.map_log.specs.Text as log_text
use Rattle.map_log.specs.declared.inc.LogInc.{LogInc}
use Rattle.mon_bytes.specs.declared.command.Command.TheVariants as command
use Rattle.mon_bytes.specs.declared.command.Command.{Command}
use Rattle.mon_bytes.specs.declared.command.CommandRefused.TheVariants as refused
use Rattle.mon_bytes.specs.declared.command.CommandRefused.{CommandRefused}
use Rattle.mon_msg.specs.Protocol.Parts.{map_text}
use Rattle.mon_msg.specs.Protocol.Services.{service_first, service_last, read_map}
use Rattle.mon_msg.specs.Protocol.Rules.{value_ops}
use Rattle.mon_msg.specs.Protocol.Readings.{Readings}
use Rattle.mon_msg.specs.Puts.{area_of}
use Rattle.mon_wire.specs.declared.reply.ShownMap.TheVariants as map
use Rattle.mon_wire.specs.declared.reply.ShownMap.{ShownMap}
use Rattle.mon_wire.specs.declared.request.Service.TheVariants.{Kv, Log}
use Rattle.mon_wire.specs.declared.request.Service.{Service}
use Rattle.mon_tx.specs.Text.{text}
use Rattle.mon_tx.specs.declared.op.Op.{Op}

abbrev pub service_of : Command → Service
service_of (command.Set key value) = Kv
service_of (command.Remove key) = Kv
service_of (command.Log text) = Log

abbrev pub made_kv : kv.Kv → Result KvInc CommandRefused → Result (List ℕ × ShownMap) CommandRefused
made_kv m (Ok inc) = Ok (kv_text.inc_text inc, map.Kv (kv.with_inc m inc))
made_kv m (Err e) = Err e

abbrev pub made_log : List LogInc → Result LogInc CommandRefused → Result (List ℕ × ShownMap) CommandRefused
made_log es (Ok inc) = Ok (log_text.inc_text inc, map.Log (log.with_inc es inc))
made_log es (Err e) = Err e

-- the incremental that a command makes of a map, encoded, and the map after it; `asked` is the monitor that was asked
abbrev pub made : ShownMap → (asked : ℕ) → Command → Result (List ℕ × ShownMap) CommandRefused
made (map.Kv m) asked c = made_kv m (kv_made.made m c)
made (map.Log es) asked (command.Log text) = made_log es (log_made.made asked text)
made (map.Log es) asked c = Err refused.NoSuch

-- the value of an incremental after which the map is `next`
abbrev pub value_of : Readings → Service → List ℕ → ShownMap → List Op
value_of w s incremental next =
    value_ops w.first w.last (area_of s) (suc (service_last w s)) (service_first w s) incremental (map_text next)

abbrev pub value_if_made : Readings → Service
    → Result (List ℕ × ShownMap) CommandRefused → Result (List Op) CommandRefused
value_if_made w s (Ok (incremental, next)) = Ok (value_of w s incremental next)
value_if_made w s (Err e) = Err e

-- the value of a command over what a store's readers return, where `asked` is the monitor that was asked; or why there is
-- none
unfoldable pub value : Readings → Command → (asked : ℕ) → Result (List Op) CommandRefused
value w c asked = value_if_made w (service_of c) (made (read_map w (service_of c)) asked c)
