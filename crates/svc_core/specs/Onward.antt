-- Whether a reading reaches a service's last version.
use Rattle.std.specs.Option.{option_and_then}
use Rattle.std.specs.Prelude.{ℕ, zero, suc, ◌-◌, Bool, true, false, Option, Some, None}
use Rattle.mon_msg.specs.Protocol.Maps.{empty_map, next_map}
use Rattle.mon_msg.specs.Protocol.Services.{service_last, full_latest, full_map}
use Rattle.mon_msg.specs.Protocol.Readings.{Readings}
use Rattle.mon_wire.specs.declared.reply.ShownMap.{ShownMap}
use Rattle.mon_wire.specs.declared.request.Service.{Service}
use Rattle.mon_tx.specs.declared.key.Key.TheVariants as key

-- the map after the incremental that made version v, if there is one that gives a map of a valid length
abbrev pub step_at : Readings → Service → ℕ → ShownMap → Option ShownMap
step_at w s v m = option_and_then (next_map s m) (w.row s (key.Version v))

-- this many incrementals from version v on are there, are valid, and give maps of valid lengths
unfoldable pub goes_on : Readings → Service → ℕ → ℕ → ShownMap → Bool
goes_on w s zero v m = true
goes_on w s (suc count) v m = elim (step_at w s v m) as (λ _. Bool) [
  | None ↦ false
  | Some next ↦ goes_on w s count (suc v) next
]

-- the reading of a service's map ends at no version before the last one
unfoldable pub reaches_last : Readings → Service → Bool
reaches_last w s = from_full (full_map w s)
  where
    from_full : Option ShownMap → Bool
    from_full (Some m) = goes_on w s (service_last w s - full_latest w s) (suc (full_latest w s)) m
    from_full None = goes_on w s (service_last w s) 1 (empty_map s)
