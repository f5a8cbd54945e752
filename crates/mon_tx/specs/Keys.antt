-- The keys of a monitor's map by name, and which of them are its own.
use Rattle.std.specs.Prelude.{ℕ, ◌+◌, Bool, true, false, not, ◌&&◌, nat_le, nat_lt, ◌==◌, if◌then◌else◌, List, [], ◌∷◌, ◌++◌, map, Option, codes}
use Rattle.std.specs.Int.Digits.{digits_of}
use Rattle.std.specs.List.{list_any}
use Rattle.std.specs.Ordering.{eq_by_cmp}
use Rattle.std.specs.FinMap.{get, retain_keys}
use Rattle.mon_tx.specs.Map.{Place, place_cmp, Store, number_in}
use Rattle.mon_tx.specs.declared.key.Area.{Area}
use Rattle.mon_tx.specs.declared.key.Area.TheVariants.{Paxos, Kv, Logm, Monitor, Sync}
use Rattle.mon_tx.specs.declared.key.Key.{Key}
use Rattle.mon_tx.specs.declared.key.Key.TheVariants.{FirstCommitted, LastCommitted, LastPn, AcceptedPn, PendingV, PendingPn, FullLatest, ElectionEpoch, BootCount, InSync, Floor, Version, Full}

abbrev pub area_text : Area → List ℕ
area_text Paxos = codes "paxos"
area_text Kv = codes "kv"
area_text Logm = codes "logm"
area_text Monitor = codes "monitor"
area_text Sync = codes "mon_sync"

-- a decimal number without padding
unfoldable pub decimal_text : ℕ → List ℕ
decimal_text n = if n == 0 then 48 ∷ [] else map (λ d. 48 + d) (digits_of 10 n)

abbrev pub key_text : Key → List ℕ
key_text FirstCommitted = codes "first_committed"
key_text LastCommitted = codes "last_committed"
key_text LastPn = codes "last_pn"
key_text AcceptedPn = codes "accepted_pn"
key_text PendingV = codes "pending_v"
key_text PendingPn = codes "pending_pn"
key_text FullLatest = codes "full_latest"
key_text ElectionEpoch = codes "election_epoch"
key_text BootCount = codes "boot_count"
key_text InSync = codes "in_sync"
key_text Floor = codes "last_committed_floor"
key_text (Version v) = decimal_text v
key_text (Full v) = codes "full_" ++ decimal_text v

abbrev pub place : Area → Key → Place
place area key = (area_text area, key_text key)

-- what a map holds at a named key
abbrev pub cell : Store → Area → Key → Option (List ℕ)
cell m area key = get m (place area key)

abbrev pub number : Store → Area → Key → ℕ
number m area key = number_in (cell m area key)

-- the keys that are a monitor's own, if `last` is its last version: its numbers of Paxos and the record that is not committed
-- yet, its epoch and its count of starts, and its notes of a synchronization
abbrev pub local_places : ℕ → List Place
local_places last =
    place Paxos LastCommitted ∷ place Paxos LastPn ∷ place Paxos AcceptedPn ∷ place Paxos PendingV ∷ place Paxos PendingPn ∷ place Paxos (Version (last + 1))
    ∷ place Monitor ElectionEpoch ∷ place Monitor BootCount ∷ place Sync InSync ∷ place Sync Floor ∷ []

abbrev pub is_local : ℕ → Place → Bool
is_local last at = list_any (λ own. eq_by_cmp place_cmp own at) (local_places last)

-- a map without the keys that are the monitor's own
unfoldable pub shared : Store → Store
shared m = retain_keys m (λ at. not (is_local (number m Paxos LastCommitted) at))

-- whether two areas are the same, and whether two keys are
abbrev pub same_area : Area → Area → Bool
same_area Paxos Paxos = true
same_area Kv Kv = true
same_area Logm Logm = true
same_area Monitor Monitor = true
same_area Sync Sync = true
same_area a b = false

abbrev pub same_key : Key → Key → Bool
same_key FirstCommitted FirstCommitted = true
same_key LastCommitted LastCommitted = true
same_key LastPn LastPn = true
same_key AcceptedPn AcceptedPn = true
same_key PendingV PendingV = true
same_key PendingPn PendingPn = true
same_key FullLatest FullLatest = true
same_key ElectionEpoch ElectionEpoch = true
same_key BootCount BootCount = true
same_key InSync InSync = true
same_key Floor Floor = true
same_key (Version v) (Version w) = v == w
same_key (Full v) (Full w) = v == w
same_key a b = false

-- whether a key is that of a version from `from` up to but not including `to`
abbrev pub covers : ℕ → ℕ → Key → Bool
covers from to (Version v) = nat_le from v && nat_lt v to
covers from to key = false

-- whether the text of a key is fixed: it has no number
abbrev pub is_fixed : Key → Bool
is_fixed (Version v) = false
is_fixed (Full v) = false
is_fixed key = true
