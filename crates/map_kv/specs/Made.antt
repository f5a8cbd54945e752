-- What the commands of clients make.
use Rattle.std.specs.Prelude.{length, Result, Ok, Err, nat_lt, if◌then◌else◌}
use Rattle.std.specs.FinMap.{insert, contains_key}
use Rattle.mon_bytes.specs.declared.command.Command.{Command}
use Rattle.mon_bytes.specs.declared.command.Command.TheVariants as command
use Rattle.mon_bytes.specs.declared.command.CommandRefused.{CommandRefused}
use Rattle.mon_bytes.specs.declared.command.CommandRefused.TheVariants.{NoSuch, TooLong, MapFull}
use Rattle.map_kv.specs.declared.command.TheConstants.{MOST_KV_MAP, MOST_KV_VALUE}
use Rattle.map_kv.specs.Map.{Kv}
use Rattle.map_kv.specs.Text.{map_text}
use Rattle.map_kv.specs.declared.inc.KvInc.{KvInc}
use Rattle.map_kv.specs.declared.inc.KvInc.TheVariants.{Set, Remove}

-- the commands of this service
abbrev pub IsOfKv : Command → Type 0
IsOfKv (command.Set key value) = Unit {0}
IsOfKv (command.Remove key) = Unit {0}
IsOfKv (command.Log text) = ⊥

-- the incremental of a command: a value, and the map with it, may not be too long; a key to remove must be there
abbrev pub made : Kv → Command → Result KvInc CommandRefused
made m (command.Set key value) =
    if nat_lt MOST_KV_VALUE (length value) then Err (TooLong (length value) MOST_KV_VALUE) else (
    if nat_lt MOST_KV_MAP (length (map_text (insert m key value))) then Err (MapFull (length (map_text (insert m key value)))) else Ok (Set key value))
made m (command.Remove key) = if contains_key m key then Ok (Remove key) else Err NoSuch
made m (command.Log text) = Err NoSuch
