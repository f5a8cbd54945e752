-- The parts of a value: the incremental, and the map's encoding if a full map is due.
use Rattle.std.specs.Prelude.{◌≡◌, ℕ, suc, ◌+◌, ◌≤◌, Bool, List, [], length, Result, Ok, Err, if◌then◌else◌}
use Rattle.mon_bytes.specs.declared.command.Command.{Command}
use Rattle.mon_bytes.specs.declared.command.CommandRefused.{CommandRefused}
use Rattle.mon_bytes.specs.declared.command.CommandRefused.TheVariants as refused
use Rattle.map_kv.specs.Made as kv_made
use Rattle.map_kv.specs.declared.command.TheConstants.{MOST_KV_MAP, MOST_KV_VALUE}
use Rattle.map_kv.specs.declared.inc.KvInc.{KvInc}
use Rattle.mon_msg.specs.Protocol.Parts.{map_text}
use Rattle.mon_wire.specs.declared.reply.ShownMap.{ShownMap}
use Rattle.mon_wire.specs.declared.reply.ShownMap.TheVariants as map
use Rattle.mon_wire.specs.declared.request.Service.{Service}
use Rattle.mon_msg.specs.Protocol.Services.{service_first, service_last}
use Rattle.mon_msg.specs.Protocol.Rules.{value_ops}
use Rattle.mon_msg.specs.Protocol.Readings.{Readings}
use Rattle.mon_msg.specs.Puts.{area_of}
use Rattle.mon_tx.specs.declared.op.Op.{Op}
use Rattle.svc_core.specs.declared.made.Draft.{Draft}

-- the longest incremental: a set of the longest key to the longest value
abbrev pub most_incremental : ℕ
most_incremental = MOST_KV_VALUE + 261

-- the incremental that a command makes of a key-value map
abbrev pub kv_incremental : ShownMap → Command → Result KvInc CommandRefused
kv_incremental (map.Kv m) c = kv_made.made m c
kv_incremental (map.Log es) c = Err refused.NoSuch

abbrev pub text_if : Bool → ShownMap → List ℕ
text_if due next = if due then map_text next else []

abbrev pub drafted : Bool → Result (List ℕ × ShownMap) CommandRefused → Result Draft CommandRefused
drafted due (Ok (incremental, next)) = Ok (record { incremental = incremental; text = text_if due next })
drafted due (Err e) = Err e

-- the incremental and the map's text are no longer than they may be
pub record IsShort (d : Draft) : Type 0 where
  pub incremental : length d.incremental ≤ most_incremental
  pub text : length d.text ≤ MOST_KV_MAP

-- the value that makes the next version of a service by an incremental and a map's text that are no longer than they
-- may be
pub record IsShortValue (w : Readings) (s : Service) (ops : List Op) : Type 0 where
  pub incremental : List ℕ
  pub text : List ℕ
  pub is : ops ≡ value_ops w.first w.last (area_of s) (suc (service_last w s)) (service_first w s) incremental text
  pub short_incremental : length incremental ≤ most_incremental
  pub short_text : length text ≤ MOST_KV_MAP
