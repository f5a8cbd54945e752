-- How the one log grows by the versions that a monitor's store commits.
use Rattle.std.specs.Prelude.{ℕ, suc, ◌-◌, List, [], ◌++◌, length, map, unwrap_or, if◌then◌else◌}
use Rattle.std.specs.List.{range_with_len}
use Rattle.mon_tx.specs.declared.key.Area.TheVariants as area
use Rattle.mon_tx.specs.declared.key.Key.TheVariants as key
use Rattle.mon_tx.specs.Map.{Store}
use Rattle.mon_tx.specs.Keys.{cell, number}
use Rattle.mon_kv.specs.Readers.{is_marked}

abbrev pub last_of : Store → ℕ
last_of m = number m area.Paxos key.LastCommitted

-- the record that a map has of a version; one that is missing counts as empty
abbrev pub record_in : Store → ℕ → List ℕ
record_in m v = unwrap_or (cell m area.Paxos (key.Version v)) []

-- this many records of a map after version v
abbrev pub records_after : Store → (v count : ℕ) → List (List ℕ)
records_after m v count = map (record_in m) (range_with_len (suc v) count)

-- The log and the records that are new in a map. A map under a full synchronization adds none: it has no committed
-- versions.
unfoldable pub grown : List (List ℕ) → Store → List (List ℕ)
grown log m = if is_marked m then log else log ++ records_after m (length log) (last_of m - length log)
