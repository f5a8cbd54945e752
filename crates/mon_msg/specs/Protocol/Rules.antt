-- The rules of a value: what it changes in every monitor's store.
use Rattle.std.specs.List.{range_with_len}
use Rattle.std.specs.Prelude.{ℕ, ◌+◌, ◌==◌, nat_le, nat_lt, List, if◌then◌else◌, [], ◌∷◌, ◌++◌, filter, ◌-◌, min, ◌%◌, map}
use Rattle.mon_msg.specs.Puts.{put, put_number}
use Rattle.mon_msg.specs.Protocol.Changes.{erase}
use Rattle.mon_msg.specs.Protocol.Services.{service_first}
use Rattle.mon_msg.specs.declared.limits.TheConstants.{FULL_EVERY, PAXOS_DUE, PAXOS_GOES, PAXOS_KEEPS, SERVICE_DUE, SERVICE_GOES, SERVICE_KEEPS}
use Rattle.mon_tx.specs.Keys.{area_text}
use Rattle.mon_tx.specs.declared.key.Area.TheVariants as area
use Rattle.mon_tx.specs.declared.key.Area.{Area}
use Rattle.mon_tx.specs.declared.key.Key.TheVariants as key
use Rattle.mon_tx.specs.declared.op.Op.TheVariants.{EraseRange}
use Rattle.mon_tx.specs.declared.op.Op.{Op}

-- the first version of an area is put as 1
abbrev pub begins : Area → List Op
begins a = put_number a key.FirstCommitted 1 ∷ []

-- the first version of the log is put with its first value
abbrev pub paxos_begins : ℕ → List Op
paxos_begins last = if last == 0 then begins area.Paxos else []

-- the service's version n, which the incremental makes
abbrev pub new_version : Area → ℕ → List ℕ → List Op
new_version a n incremental =
    put a (key.Version n) incremental ∷ ((if n == 1 then begins a else []) ++ put_number a key.LastCommitted n ∷ [])

-- the full map at version n
abbrev pub full_version : Area → ℕ → List ℕ → List Op
full_version a n text =
    if n % FULL_EVERY == 0 then put a (key.Full n) text ∷ put_number a key.FullLatest n ∷ [] else []

-- the first version that a service keeps once it is trimmed
abbrev pub service_to : ℕ → ℕ → ℕ
service_to n first = min (n - SERVICE_KEEPS) (first + SERVICE_GOES)

-- the multiples of `FULL_EVERY` from one version up to but not including another
abbrev pub full_between : ℕ → ℕ → List ℕ
full_between from to = filter (λ v. v % FULL_EVERY == 0) (range_with_len from (to - from))

-- the versions of a service from `from` up to but not including `to` are erased, and the full maps at them
abbrev pub service_trimmed : Area → ℕ → ℕ → List Op
service_trimmed a from to =
    EraseRange (area_text a) from to ∷ (map (λ v. erase a (key.Full v)) (full_between from to) ++ put_number a key.FirstCommitted to ∷ [])

abbrev pub service_trim : Area → ℕ → ℕ → List Op
service_trim a n first = if nat_le SERVICE_DUE (n - first) then service_trimmed a first (service_to n first) else []

-- the first version that the log keeps once it is trimmed
abbrev pub paxos_to : ℕ → ℕ → ℕ
paxos_to first last = min (last - PAXOS_KEEPS) (first + PAXOS_GOES)

abbrev pub paxos_trimmed : ℕ → ℕ → List Op
paxos_trimmed from to = EraseRange (area_text area.Paxos) from to ∷ put_number area.Paxos key.FirstCommitted to ∷ []

abbrev pub paxos_trim : ℕ → ℕ → List Op
paxos_trim first last = if nat_lt PAXOS_DUE (last - first) then paxos_trimmed first (paxos_to first last) else []

-- The value that makes version n of a service by an incremental. `first` and `last` are the log's first and last
-- version, `service_first` is the service's first one, and `text` encodes the map at version n.
unfoldable pub value_ops : (first last : ℕ) → Area → (n service_first : ℕ) → (incremental text : List ℕ) → List Op
value_ops first last a n service_first incremental text =
    paxos_begins last ++ (new_version a n incremental ++ (full_version a n text ++ (service_trim a n service_first ++ paxos_trim first last)))
