-- What is kept of a log whose versions are values of commands: its own records, and of each service the incrementals and the
-- full maps. All of it follows from how many versions there are.
use Rattle.std.specs.Prelude.{◌≡◌, ℕ, zero, suc, ◌+◌, ◌-◌, ◌*◌, ◌/◌, ◌%◌, ◌≤◌, Bool, true, false, ◌&&◌, ◌==◌, nat_le, nat_lt, List, drop, length, take, Some, None, if◌then◌else◌}
use Rattle.mon_tx.specs.declared.key.Area.{Area}
use Rattle.mon_tx.specs.declared.key.Area.TheVariants as area
use Rattle.mon_tx.specs.declared.key.Key.{Key}
use Rattle.mon_tx.specs.declared.key.Key.TheVariants as key
use Rattle.mon_tx.specs.Decision.{Cell}
use Rattle.mon_tx.specs.Keys.{place, covers}
use Rattle.mon_tx.specs.Map.{Place, number_bytes}
use Rattle.mon_wire.specs.declared.reply.Reply.TheVariants as reply
use Rattle.mon_wire.specs.declared.request.Service.{Service}
use Rattle.mon_msg.specs.Fold.{entry, incrementals, map_after, map_of_log, version_of_log}
use Rattle.mon_msg.specs.Protocol.Parts.{map_text}
use Rattle.mon_msg.specs.Protocol.Services.{service_last, read_map}
use Rattle.mon_msg.specs.Protocol.Reads.{changes_after, since}
use Rattle.mon_msg.specs.Protocol.Readings.{Readings}
use Rattle.mon_msg.specs.declared.limits.TheConstants.{FULL_EVERY, PAXOS_DUE, PAXOS_KEEPS, SERVICE_GOES, SERVICE_KEEPS}

-- ---- which versions

-- The first kept version of a service that has n versions. When enough versions follow it for a trim, `SERVICE_GOES`
-- versions are erased, and `SERVICE_KEEPS` then follow the new first one.
abbrev pub service_from : ℕ → ℕ
service_from n = SERVICE_GOES * ((n - suc SERVICE_KEEPS) / SERVICE_GOES) + 1

-- How many versions of the log are erased at a time. The log is trimmed if more than `PAXOS_DUE` versions follow the
-- first one. `PAXOS_KEEPS` versions then follow the new first one.
abbrev pub log_goes : ℕ
log_goes = suc PAXOS_DUE - PAXOS_KEEPS

-- The first kept version of a log that has c versions. A version's trim counts only the versions before it.
abbrev pub log_from : ℕ → ℕ
log_from c = log_goes * ((c - suc (suc PAXOS_KEEPS)) / log_goes) + 1

-- whether a version is at or after `from`, and before `to`
abbrev pub within : ℕ → ℕ → ℕ → Bool
within from to v = covers from to (key.Version v)

abbrev pub is_full : ℕ → Bool
is_full v = v % FULL_EVERY == 0

-- ---- what is kept

-- the bytes if there is a version, and nothing if there is none
abbrev pub if_any : ℕ → List ℕ → Cell
if_any zero bytes = None
if_any (suc n) bytes = Some bytes

-- What a service with n versions keeps under each key. `incremental` and `full` give the bytes of a version's
-- incremental and of the map after it.
abbrev pub service_row : ℕ → (incremental full : ℕ → List ℕ) → Key → Cell
service_row n incremental full key.FirstCommitted = if_any n (number_bytes (service_from n))
service_row n incremental full key.LastCommitted = if_any n (number_bytes n)
service_row n incremental full key.FullLatest = if nat_lt n FULL_EVERY then None else Some (number_bytes (FULL_EVERY * (n / FULL_EVERY)))
service_row n incremental full (key.Version v) = if within (service_from n) (suc n) v then Some (incremental v) else None
service_row n incremental full (key.Full v) = if within (service_from n) (suc n) v && is_full v then Some (full v) else None
service_row n incremental full other = None

abbrev pub row_after : Service → List (List ℕ) → Key → Cell
row_after s is = service_row (length is) (entry is) (λ v. map_text (map_after s (take v is)))

-- the record of version v that is kept, if the log has c versions
abbrev pub record_after : List (List ℕ) → ℕ → ℕ → Cell
record_after log c v = if within (log_from c) (suc c) v then Some (entry log v) else None

-- whether the fold of a log of values may have a key
abbrev pub is_kept_key : Area → Key → Bool
is_kept_key area.Paxos key.FirstCommitted = true
is_kept_key area.Paxos (key.Version v) = true
is_kept_key area.Kv k = true
is_kept_key area.Logm k = true
is_kept_key a k = false

pub record IsKeptKey (at : Place) : Type 0 where
  pub area : Area
  pub key : Key
  pub is : at ≡ place area key
  pub kept : is_kept_key area key ≡ true

-- the first version's number, as it is read: 0 if there is no version
abbrev pub first_read : (ℕ → ℕ) → ℕ → ℕ
first_read from zero = 0
first_read from (suc n) = from (suc n)

-- A store's readers return what the first c versions of a log leave. What they return of later versions is left open.
pub record Keeps (log : List (List ℕ)) (c : ℕ) (w : Readings) : Type 0 where
  pub first : w.first ≡ first_read log_from c
  pub records : (v : ℕ) → v ≤ c → w.record_of v ≡ record_after log c v
  pub rows : (s : Service) (k : Key) → w.row s k ≡ row_after s (incrementals s log c) k

-- What a monitor shows of each service is what the first c versions of a log make of it: its map, its version, and the
-- incrementals after version v. If these aren't all kept any more, the map is shown in their place.
pub record Shows (log : List (List ℕ)) (c : ℕ) (w : Readings) : Type 0 where
  pub version : (s : Service) → service_last w s ≡ version_of_log s log c
  pub map : (s : Service) → read_map w s ≡ map_of_log s log c
  pub since : (s : Service) (v : ℕ) → since w s v ≡ (if nat_le (first_read service_from (version_of_log s log c)) (suc v)
      then changes_after w s v (drop v (incrementals s log c)) else reply.Shown s w.last (version_of_log s log c) (map_of_log s log c))
