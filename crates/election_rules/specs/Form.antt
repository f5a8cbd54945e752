-- What holds of every table that is kept or sent among n monitors.
use Rattle.std.specs.Prelude.{◌≡◌, ℕ, ◌<◌, ◌≤◌, ◌^◌, length, slice_index}
use Rattle.election_rules.specs.declared.row.Row.{Row}
use Rattle.election_rules.specs.declared.scores.Scores.{Scores}
use Rattle.election_rules.specs.Table.{full, start_row, row_of}

-- a row among n monitors: no score is above the full one, and past n each is the full one
pub record IsRow (n : ℕ) (row : Row) : Type 0 where
  pub boot : row.boot ≤ 2 ^ 62
  pub count : row.count ≤ 2 ^ 62
  pub ranks : length row.scores ≡ 15
  pub scores : (x : ℕ) → x < 15 → slice_index row.scores x ≤ full
  pub rest : (x : ℕ) → x < 15 → n ≤ x → slice_index row.scores x ≡ full

-- the table of the monitor of rank own among n monitors: past n no row was ever reported
pub record IsTable (n own : ℕ) (table : Scores) : Type 0 where
  pub of_own : table.own ≡ own
  pub member : own < n
  pub most : n ≤ 15
  pub ranks : length table.rows ≡ 15
  pub rows : (y : ℕ) → y < 15 → IsRow n (row_of table y)
  pub rest : (y : ℕ) → y < 15 → n ≤ y → row_of table y ≡ start_row 0
