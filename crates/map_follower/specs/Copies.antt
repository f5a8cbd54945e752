-- A client's copy of a service's map, and what a reply makes of it.
use Rattle.std.specs.Prelude.{ℕ, suc, ◌+◌, ◌-◌, ◌^◌, Bool, true, false, ◌&&◌, nat_le, nat_lt, List, [], ◌∷◌, length, take, drop, Option, Some, None, Result, Ok, Err, if◌then◌else◌}
use Rattle.mon_msg.specs.Fold.{incrementals, map_after}
use Rattle.mon_msg.specs.Protocol.Maps.{empty_map, with_incremental}
use Rattle.mon_wire.specs.declared.reply.Reply.{Reply}
use Rattle.mon_wire.specs.declared.reply.Reply.TheVariants as reply
use Rattle.mon_wire.specs.declared.reply.ShownMap.{ShownMap}
use Rattle.mon_wire.specs.declared.reply.ShownMap.TheVariants as map
use Rattle.mon_wire.specs.declared.request.Service.{Service}
use Rattle.mon_wire.specs.declared.request.Service.TheVariants as service
use Rattle.map_follower.specs.declared.follower.Follower.{Follower}
use Rattle.map_follower.specs.declared.took.Took.{Took}
use Rattle.map_follower.specs.declared.took.Took.TheVariants as took

-- the map of a service after the first k incrementals that a log holds for it
abbrev pub at : Service → List (List ℕ) → ℕ → ShownMap
at s log k = map_after s (take k (incrementals s log (length log)))

-- ---- a follower

abbrev pub service_of : ShownMap → Service
service_of (map.Kv m) = service.Kv
service_of (map.Log es) = service.Log

abbrev pub is_of : Service → ShownMap → Bool
is_of service.Kv (map.Kv m) = true
is_of service.Log (map.Log es) = true
is_of s m = false

abbrev pub first : Service → Follower
first s = record { version = 0; map = empty_map s }

-- ---- replies

-- a map after incrementals, or the place of the first that isn't one, counted from i
abbrev pub step_then : ℕ → (ShownMap → Result ShownMap ℕ) → Option ShownMap → Result ShownMap ℕ
step_then i others None = Err i
step_then i others (Some m) = others m

abbrev pub applied_from : ℕ → ShownMap → List (List ℕ) → Result ShownMap ℕ
applied_from i m [] = Ok m
applied_from i m (bytes ∷ updates) = step_then i (λ next. applied_from (suc i) next updates) (with_incremental m bytes)

-- the copy, and what a reply was for it
abbrev pub Taken : Type 0
Taken = Follower × Took

abbrev pub if_applied : Follower → (reached : ℕ) → Result ShownMap ℕ → Taken
if_applied f reached (Ok m) = (record { version = reached; map = m }, took.Newer reached)
if_applied f reached (Err i) = (f, took.Bad i)

abbrev pub since_taken : Follower → (from : ℕ) → List (List ℕ) → Taken
since_taken f from updates =
    if nat_lt f.version from then (f, took.Ahead from)
    else (if nat_le (from + length updates) f.version then (f, took.Known f.version)
    else if_applied f (from + length updates) (applied_from (f.version - from) f.map (drop (f.version - from) updates)))

abbrev pub shown_taken : Follower → (version : ℕ) → ShownMap → Taken
shown_taken f version m = if nat_lt f.version version then (record { version = version; map = m }, took.Newer version) else (f, took.Known f.version)

abbrev pub taken : Follower → Reply → Taken
taken f (reply.Shown s paxos version m) = if is_of s f.map && is_of s m then shown_taken f version m else (f, took.Other)
taken f (reply.Since s from updates more) = if is_of s f.map && nat_le (from + length updates) (2 ^ 62) then since_taken f from updates else (f, took.Other)
taken f other = (f, took.Other)

abbrev pub taken_all : Follower → List Reply → Follower
taken_all f [] = f
taken_all f (r ∷ rs) = taken_all (taken f r).0 rs
