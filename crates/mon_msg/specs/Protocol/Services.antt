-- What a monitor keeps of a service: its map, and what changed it.
use Rattle.std.specs.Option.{option_and_then}
use Rattle.std.specs.Prelude.{ℕ, suc, ◌+◌, Bool, ◌&&◌, nat_le, List, Option, Some, None, if◌then◌else◌, [], ◌∷◌, zero, ◌-◌, length, sum_by}
use Rattle.mon_msg.specs.declared.limits.TheConstants.{MOST_SINCE_BYTES}
use Rattle.mon_msg.specs.Protocol.Maps.{empty_map, decoded_map, next_map}
use Rattle.mon_msg.specs.Protocol.Readings.{Readings}
use Rattle.mon_wire.specs.declared.reply.ShownMap.{ShownMap}
use Rattle.mon_wire.specs.declared.write_lists.TheConstants.{MOST_ITEMS}
use Rattle.mon_wire.specs.declared.request.Service.{Service}
use Rattle.mon_tx.specs.Map.{number_in}
use Rattle.mon_tx.specs.declared.key.Key.TheVariants as key

abbrev pub service_first : Readings → Service → ℕ
service_first w s = number_in (w.row s key.FirstCommitted)

abbrev pub service_last : Readings → Service → ℕ
service_last w s = number_in (w.row s key.LastCommitted)

abbrev pub full_latest : Readings → Service → ℕ
full_latest w s = number_in (w.row s key.FullLatest)

-- The map after this many incrementals from version v on. Reading ends before the first that is missing, is invalid or makes
-- the map too long.
unfoldable pub read_on : Readings → Service → ℕ → ℕ → ShownMap → ShownMap
read_on w s zero v m = m
read_on w s (suc count) v m = elim (option_and_then (next_map s m) (w.row s (key.Version v))) as (λ _. ShownMap) [
  | None ↦ m
  | Some next ↦ read_on w s count (suc v) next
]

-- the newest full map, if it is there, can be read and isn't newer than the last version
abbrev pub full_map : Readings → Service → Option ShownMap
full_map w s =
    if nat_le (full_latest w s) (service_last w s) then option_and_then (decoded_map s) (w.row s (key.Full (full_latest w s))) else None

abbrev pub read_from : Readings → Service → Option ShownMap → ShownMap
read_from w s (Some m) = read_on w s (service_last w s - full_latest w s) (suc (full_latest w s)) m
read_from w s None = read_on w s (service_last w s) 1 (empty_map s)

-- the map that a monitor keeps: its newest full map and the incrementals after it, or else the incrementals from the first on
unfoldable pub read_map : Readings → Service → ShownMap
read_map w s = read_from w s (full_map w s)

-- ---- what changed

-- this many incrementals from version v on, up to the first that isn't there
unfoldable pub kept_from : Readings → Service → ℕ → ℕ → List (List ℕ)
kept_from w s zero v = []
kept_from w s (suc count) v = elim (w.row s (key.Version v)) as (λ _. List (List ℕ)) [
  | None ↦ []
  | Some bytes ↦ bytes ∷ kept_from w s count (suc v)
]

abbrev pub fits_reply : List (List ℕ) → Bool
fits_reply incrementals = nat_le (length incrementals) MOST_ITEMS && nat_le (sum_by (λ bytes. length bytes + 4) incrementals) MOST_SINCE_BYTES
