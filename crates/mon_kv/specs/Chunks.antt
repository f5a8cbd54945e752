-- The shared entries of a map, and the runs of them that a chunk takes.
use Rattle.std.specs.Prelude.{◌≡◌, ℕ, zero, suc, ◌+◌, ◌-◌, Bool, not, ◌==◌, nat_le, if◌then◌else◌, List, [], ◌∷◌, map, length}
use Rattle.std.specs.List.{filter, list_any}
use Rattle.std.specs.Ordering.{eq_by_cmp}
use Rattle.std.specs.FinMap.{entries}
use Rattle.mon_bytes.specs.declared.entry.Entry.{Entry}
use Rattle.mon_bytes.specs.declared.entry.KeyPlace.{KeyPlace}
use Rattle.mon_bytes.specs.declared.entry.KeyPlace.TheVariants.{Start, After, Done}
use Rattle.mon_tx.specs.declared.key.Area.TheVariants.{Paxos}
use Rattle.mon_tx.specs.declared.key.Key.TheVariants.{LastCommitted, LastPn, AcceptedPn, PendingV, PendingPn}
use Rattle.mon_tx.specs.Map.{Place, place_cmp, Store}
use Rattle.mon_tx.specs.Keys.{area_text, place, number, is_local}
use Rattle.mon_kv.specs.Readers.{entries_after}
use Rattle.mon_kv.specs.declared.chunk.KeyRun.{KeyRun}

-- whether a place is one of a monitor's own keys of Paxos, given that `next` is the key of the version that isn't committed
-- yet
abbrev pub own_of_paxos : List ℕ → Place → Bool
own_of_paxos next at =
    list_any (λ own. eq_by_cmp place_cmp own at)
    (place Paxos LastCommitted ∷ place Paxos LastPn ∷ place Paxos AcceptedPn ∷ place Paxos PendingV ∷ place Paxos PendingPn ∷ (area_text Paxos, next) ∷ [])

-- the entries that aren't the monitor's own, given that `last` is its last version
abbrev pub shared_of : ℕ → List (Place × List ℕ) → List (Place × List ℕ)
shared_of last es = filter (λ e. not (is_local last e.0)) es

-- the shared entries after a place, in order
unfoldable pub shared_after : Store → KeyPlace → List (Place × List ℕ)
shared_after m Start = shared_of (number m Paxos LastCommitted) (entries m)
shared_after m (After prefix key) = shared_of (number m Paxos LastCommitted) (entries_after m (prefix, key))
shared_after m Done = []

-- how many bytes an entry takes in a message: its parts, one byte per length of prefix and key, and four for that of
-- the value
abbrev pub entry_len : Place × List ℕ → ℕ
entry_len e = length e.0.0 + length e.0.1 + length e.1 + 6

-- the longest prefix of the entries that has at most `most` of them and takes at most `room` bytes in a message
abbrev pub run_of : ℕ → ℕ → List (Place × List ℕ) → List (Place × List ℕ)
run_of room most [] = []
run_of room zero (e ∷ es) = []
run_of room (suc most) (e ∷ es) = if nat_le (entry_len e) room then e ∷ run_of (room - entry_len e) most es else []

abbrev pub plain : Entry → Place × List ℕ
plain e = ((e.prefix, e.key), e.value)

-- the longest run that the entries begin with, and whether it has all of them
pub record IsLongestRun (all : List (Place × List ℕ)) (room most : ℕ) (run : KeyRun) : Type 0 where
  pub entries : map plain run.entries.items ≡ run_of room most all
  pub done : run.done ≡ (length run.entries.items == length all)
