-- What the readers of a monitor's map return.
use Rattle.std.specs.Prelude.{ℕ, ◌+◌, ◌*◌, ◌^◌, ◌≡◌, ◌≤◌, ◌==◌, ◌&&◌, nat_lt, if◌then◌else◌, Bool, List, length, Option, Some, None}
use Rattle.std.specs.FinMap.{entries}
use Rattle.std.specs.List.{filter, sum_by}
use Rattle.std.specs.Option.{option_map, unwrap_or}
use Rattle.std.specs.Ordering.{is_lt}
use Rattle.mon_tx.specs.declared.key.Area.{Area}
use Rattle.mon_tx.specs.declared.key.Area.TheVariants as area
use Rattle.mon_tx.specs.declared.key.Key.{Key}
use Rattle.mon_tx.specs.declared.key.Key.TheVariants as key
use Rattle.mon_tx.specs.Map.{Place, place_cmp, Store, number_in}
use Rattle.mon_tx.specs.Keys.{cell, number}
use Rattle.mon_tx.specs.Decode.{is_text}
use Rattle.mon_kv.specs.declared.entry_ref.EntryRef.{EntryRef}
use Rattle.mon_kv.specs.declared.kv.TheConstants.{LEAST_LENGTH, MOST_SIZE}
use Rattle.mon_kv.specs.declared.next.Found.{Found}

-- n is the number that a map holds at a named key, and is at most 2^62
abbrev pub IsNumber : Store → Area → Key → ℕ → Type 0
IsNumber m area key n = (n ≡ number m area key) × (n ≤ 2 ^ 62)

-- the election epoch, which counts as 1 if there is none
abbrev pub epoch : Store → ℕ
epoch m = unwrap_or (option_map (λ bytes. number_in (Some bytes)) (cell m area.Monitor key.ElectionEpoch)) 1

-- whether a full synchronization is under way
abbrev pub is_marked : Store → Bool
is_marked m = number m area.Sync key.InSync == 1

-- the size of an entry: the lengths of its prefix, its key and its value, and 16
abbrev pub entry_size : Place × List ℕ → ℕ
entry_size e = length e.0.0 + length e.0.1 + length e.1 + 16

unfoldable pub size_of : Store → ℕ
size_of m = sum_by entry_size (entries m)

-- the greatest size of the map of a store
abbrev pub most_size : ℕ
most_size = MOST_SIZE

-- whether a file outgrew its map: the file has this many bytes up to and with its first closed gate, more than
-- `LEAST_LENGTH` and more than four times the size of the map
abbrev pub is_outgrown : ℕ → Store → Bool
is_outgrown bytes m = nat_lt LEAST_LENGTH bytes && nat_lt (4 * size_of m) bytes

-- an entry as a map has it
abbrev pub entry_of : EntryRef → Place × List ℕ
entry_of e = ((e.prefix.now, e.key.now), e.value.now)

abbrev pub found_of : Found → Place × List ℕ
found_of e = ((e.prefix.now, e.key.now), e.value.now)

-- the entries above a place, in order
abbrev pub after : Place → List (Place × List ℕ) → List (Place × List ℕ)
after place es = filter (λ e. is_lt (place_cmp place e.0)) es

unfoldable pub entries_after : Store → Place → List (Place × List ℕ)
entries_after m place = after place (entries m)

-- a value that was accepted and isn't committed: its version, its proposal number and its bytes
abbrev pub Waiting : Type 0
Waiting = ℕ × ℕ × List ℕ

-- the bytes that encode a transaction
abbrev pub if_text : Option (List ℕ) → Option (List ℕ)
if_text None = None
if_text (Some bytes) = if is_text bytes then Some bytes else None

-- The waiting value is there if and only if its version is the one after the last one, and the record of that version
-- encodes a transaction.
abbrev pub waiting : ℕ → ℕ → ℕ → Option (List ℕ) → Option Waiting
waiting v pn last record_there = if v == last + 1 then option_map (λ bytes. (last + 1, pn, bytes)) (if_text record_there) else None

unfoldable pub pending : Store → Option Waiting
pending m =
    waiting (number m area.Paxos key.PendingV) (number m area.Paxos key.PendingPn) (number m area.Paxos key.LastCommitted) (cell m area.Paxos (key.Version (number m area.Paxos key.LastCommitted + 1)))
