-- A cache of the services' maps: what it knows, what it must know to follow a store, and what it knows after its calls.
use Rattle.std.specs.Option.{option_map, option_and_then}
use Rattle.std.specs.Prelude.{◌≡◌, ℕ, suc, ◌+◌, ◌-◌, ◌≤◌, Bool, true, false, ◌&&◌, ◌==◌, nat_le, if◌then◌else◌, List, [], ◌∷◌, Option, Some, None, IfSome, Result, Ok, Err}
use Rattle.std.specs.Str.{bytes_eq}
use Rattle.mon_msg.specs.Protocol.Maps.{next_map}
use Rattle.mon_msg.specs.Protocol.Services.{service_last, full_latest, read_map}
use Rattle.mon_msg.specs.Protocol.Readings.{Readings}
use Rattle.mon_msg.specs.Puts.{area_of}
use Rattle.mon_wire.specs.declared.reply.ShownMap.{ShownMap}
use Rattle.mon_wire.specs.declared.request.Service.{Service}
use Rattle.mon_wire.specs.declared.request.Service.TheVariants as service
use Rattle.mon_tx.specs.Keys.{area_text, key_text}
use Rattle.mon_tx.specs.Map.{number_in}
use Rattle.mon_tx.specs.declared.key.Key.TheVariants as key
use Rattle.mon_tx.specs.declared.op.Op.{Op}
use Rattle.mon_tx.specs.declared.op.Op.TheVariants.{Put, Erase, ErasePrefix, EraseRange}
use Rattle.svc_core.specs.Onward.{reaches_last}
use Rattle.svc_core.specs.declared.cache.Cache.{Cache}
use Rattle.svc_core.specs.declared.cache.Kept.{Kept}
use Rattle.svc_core.specs.declared.cache.Kept.TheVariants as kept
use Rattle.svc_core.specs.declared.cache.Known.{Known}
use Rattle.svc_core.specs.declared.progress.Progress.{Progress}

abbrev pub known_in : Kept → Option Known
known_in kept.Nothing = None
known_in (kept.Followed k) = Some k
known_in (kept.Read m) = None

-- the map that is kept, known or not
abbrev pub map_in : Kept → Option ShownMap
map_in kept.Nothing = None
map_in (kept.Followed k) = Some k.map
map_in (kept.Read m) = Some m

abbrev pub kept_of : Cache → Service → Kept
kept_of c service.Kv = c.kv
kept_of c service.Log = c.log

-- what a cache knows of a service
abbrev pub known : Cache → Service → Option Known
known c s = known_in (kept_of c s)

-- ---- following

-- A known map is what is read from the store, the reading reaches the last version, and no full map is newer.
pub record IsCurrent (w : Readings) (s : Service) (k : Known) : Type 0 where
  pub map_is : k.map ≡ read_map w s
  pub version_is : k.version ≡ service_last w s
  pub reached : reaches_last w s ≡ true
  pub not_newer : full_latest w s ≤ k.version

-- a cache follows a store of which each service that it knows is current
abbrev pub Follows : Cache → Readings → Type 0
Follows c w = (s : Service) → IfSome (known c s) (IsCurrent w s)

-- ---- reading

-- a service that wasn't known becomes known if its reading reaches the last version and no full map is newer
abbrev pub known_once_read : Readings → Service → Option Known → Option Known
known_once_read w s (Some k) = Some k
known_once_read w s None =
    if reaches_last w s && nat_le (full_latest w s) (service_last w s)
    then Some (record { version = service_last w s; map = read_map w s }) else None

-- ---- a transaction

-- During a transaction the cache has, for each service, the version and the map so far, and whether its last version was
-- written since it rose.

-- a put that can be followed puts the next version's incremental, the first version, or the version so far as the last
-- one
abbrev pub after_put : Service → List ℕ → List ℕ → Progress → Option Progress
after_put s k value t =
    if bytes_eq k (key_text (key.Version (suc t.version)))
    then option_map (λ m. record { version = suc t.version; map = m; version_written = false })
    (next_map s t.map value) else (
    if bytes_eq k (key_text key.FirstCommitted) then Some t else (
    if bytes_eq k (key_text key.LastCommitted) && number_in (Some value) == t.version
    then Some (record { version = t.version; map = t.map; version_written = true }) else None))

abbrev pub of_service : Service → List ℕ → Bool
of_service s prefix = bytes_eq prefix (area_text (area_of s))

-- no other change of the service's keys can be followed
abbrev pub after_op : Service → Op → Progress → Option Progress
after_op s (Put prefix k value) t = if of_service s prefix then after_put s k value t else Some t
after_op s (Erase prefix k) t = if of_service s prefix then None else Some t
after_op s (ErasePrefix prefix) t = if of_service s prefix then None else Some t
after_op s (EraseRange prefix from to) t = if of_service s prefix then None else Some t

abbrev pub after_ops : Service → List Op → Progress → Option Progress
after_ops s [] t = Some t
after_ops s (op ∷ ops) t = option_and_then (after_ops s ops) (after_op s op t)

abbrev pub if_version_written : Progress → Option Known
if_version_written t = if t.version_written then Some (record { version = t.version; map = t.map }) else None

-- what is known of a service after a transaction
abbrev pub known_after : Service → List Op → Option Known → Option Known
known_after s ops k = option_and_then (λ k. option_and_then if_version_written
    (after_ops s ops (record { version = k.version; map = k.map; version_written = true }))) k

-- by how many versions a service's known map rose; 0 if it isn't known before and after
abbrev pub risen : Option Known → Option Known → ℕ
risen (Some before) (Some now) = now.version - before.version
risen before now = 0

-- the changes were followed up to `next`, or one of them can't be followed
abbrev pub FollowedTo : Progress → Option Progress → Bool → Type 0
FollowedTo new next true = next ≡ Some new
FollowedTo new next false = next ≡ None

-- how many incrementals were applied
abbrev pub applied : Cache → Cache → ℕ
applied before now =
    risen (known before service.Kv) (known now service.Kv) + risen (known before service.Log) (known now service.Log)

-- What a cache knows once a service was read, given that it follows the store. It keeps the map that was read.
pub record IsAnswered (old new : Cache) (w : Readings) (s : Service) : Type 0 where
  pub known_is : known new s ≡ known_once_read w s (known old s)
  pub others : (t : Service) → (t ≡ s → ⊥) → known new t ≡ known old t
  pub map_is : map_in (kept_of new s) ≡ Some (read_map w s)
  pub follows : Follows new w

-- after `OutOfMemory` it knows nothing
abbrev pub Answers : {A E : Type 0} → Cache → Readings → Service → Result A E → Cache → Type 0
Answers old w s (Ok x) new = IsAnswered old new w s
Answers old w s (Err e) new = (t : Service) → known new t ≡ None
