-- The log's fold, and a service's map as the fold of the log's incrementals.
use Rattle.std.specs.Prelude.{ℕ, zero, suc, ◌&&◌, List, [], ◌∷◌, ◌++◌, length, get_or, Option, Some, None, if◌then◌else◌}
use Rattle.std.specs.FinMap.{empty}
use Rattle.std.specs.Str.{bytes_eq}
use Rattle.mon_tx.specs.declared.op.Op.{Op}
use Rattle.mon_tx.specs.declared.op.Op.TheVariants.{Put, Erase, ErasePrefix, EraseRange}
use Rattle.mon_tx.specs.declared.key.Area.TheVariants as area
use Rattle.mon_tx.specs.declared.key.Key.TheVariants as key
use Rattle.mon_tx.specs.Map.{Store, is_decimal, apply}
use Rattle.mon_tx.specs.Keys.{area_text}
use Rattle.mon_tx.specs.Decode.{ops_in}
use Rattle.map_kv.specs.declared.inc.KvInc.{KvInc}
use Rattle.map_kv.specs.Map.{Kv, with_inc}
use Rattle.map_kv.specs.Decode as kv_decode
use Rattle.map_log.specs.declared.inc.LogInc.{LogInc}
use Rattle.map_log.specs.Map as log
use Rattle.map_log.specs.Decode as log_decode
use Rattle.mon_wire.specs.declared.reply.ShownMap.{ShownMap}
use Rattle.mon_wire.specs.declared.reply.ShownMap.TheVariants as map
use Rattle.mon_wire.specs.declared.request.Service.{Service}
use Rattle.mon_wire.specs.declared.request.Service.TheVariants as service
use Rattle.mon_msg.specs.Puts.{area_of, put}
use Rattle.mon_msg.specs.Protocol.Maps.{if_ok}

-- the entry of version v of a log, counted from 1
abbrev pub entry : List (List ℕ) → ℕ → List ℕ
entry log zero = []
entry log (suc v) = get_or log v []

-- the map after the first versions of a log: each puts its record, and then makes the changes that its entry encodes
unfoldable pub fold : List (List ℕ) → ℕ → Store
fold log zero = empty
fold log (suc c) = apply (put area.Paxos (key.Version (suc c)) (entry log (suc c)) ∷ ops_in (entry log (suc c))) (fold log c)

-- what changes put under a decimal key of a service
abbrev pub put_in : Service → List Op → List (List ℕ)
put_in s [] = []
put_in s (Put prefix k v ∷ ops) = if bytes_eq prefix (area_text (area_of s)) && is_decimal k then v ∷ put_in s ops else put_in s ops
put_in s (Erase prefix k ∷ ops) = put_in s ops
put_in s (ErasePrefix prefix ∷ ops) = put_in s ops
put_in s (EraseRange prefix from to ∷ ops) = put_in s ops

-- the incrementals of a service that the first versions of a log put, in order
unfoldable pub incrementals : Service → List (List ℕ) → ℕ → List (List ℕ)
incrementals s log zero = []
incrementals s log (suc c) = incrementals s log c ++ put_in s (ops_in (entry log (suc c)))

-- the map after incrementals; bytes that encode none change nothing
abbrev pub stepped : Kv → Option KvInc → Kv
stepped map None = map
stepped map (Some inc) = with_inc map inc

abbrev pub after_all : Kv → List (List ℕ) → Kv
after_all map [] = map
after_all map (bytes ∷ others) = after_all (stepped map (if_ok (kv_decode.inc_of bytes))) others

-- the entries after incrementals; bytes that encode none change nothing
abbrev pub stepped_log : List LogInc → Option LogInc → List LogInc
stepped_log entries None = entries
stepped_log entries (Some inc) = log.with_inc entries inc

abbrev pub log_after_all : List LogInc → List (List ℕ) → List LogInc
log_after_all entries [] = entries
log_after_all entries (bytes ∷ others) = log_after_all (stepped_log entries (if_ok (log_decode.inc_of bytes))) others

-- the map that a service's incrementals make, one after the other, from nothing; full maps and trimming don't occur in it
abbrev pub map_after : Service → List (List ℕ) → ShownMap
map_after service.Kv is = map.Kv (after_all empty is)
map_after service.Log is = map.Log (log_after_all [] is)

-- the map of a service that the first versions of a log make
abbrev pub map_of_log : Service → List (List ℕ) → ℕ → ShownMap
map_of_log s log c = map_after s (incrementals s log c)

-- a service's version: how many incrementals there are
abbrev pub version_of_log : Service → List (List ℕ) → ℕ → ℕ
version_of_log s log c = length (incrementals s log c)
