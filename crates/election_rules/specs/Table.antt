-- Scores of connections, in parts per million, and the tables of them that monitors keep and send.
use Rattle.std.specs.Prelude.{ℕ, ◌+◌, ◌-◌, ◌*◌, ◌/◌, ◌^◌, min, Bool, not, ◌==◌, nat_lt, if◌then◌else◌, List, [], map, filter, sum_by, take, replicate, slice_index, slice_index_or, slice_set}
use Rattle.std.specs.List.{enumerate_from, zip}
use Rattle.std.specs.Ordering.{is_lt, on, then_cmp, nat_cmp}
use Rattle.election_rules.specs.declared.row.Row.{Row}
use Rattle.election_rules.specs.declared.scores.Scores.{Scores}

-- a connection that never failed
abbrev pub full : ℕ
full = 1000000

-- the seconds of unbroken connection that halve what a score lacks
abbrev pub half_life : ℕ
half_life = 43200

-- the part of an amount by which this many seconds change it; two half-lives or more change all of it
abbrev pub share : ℕ → ℕ → ℕ
share amount seconds = amount * min seconds (2 * half_life) / (2 * half_life)

-- a score after this many seconds of connection, and after as many without
abbrev pub raised : ℕ → ℕ → ℕ
raised seconds score = score + share (full - score) seconds

abbrev pub lowered : ℕ → ℕ → ℕ
lowered seconds score = score - share (score + full) seconds

-- ---- rows

unfoldable pub start_row : ℕ → Row
start_row boot = record { boot = boot; count = 0; scores = replicate 15 full }

-- the row after one more update; its count stops growing at 2^62
abbrev pub counted : Row → Row
counted row = record row { count = if nat_lt row.count (2 ^ 62) then row.count + 1 else row.count }

-- the row after an update that changes the score for x
abbrev pub updated : (ℕ → ℕ) → ℕ → Row → Row
updated change x row = counted (record row { scores = slice_set row.scores x (change (slice_index row.scores x)) })

-- by boot count, and then by count
abbrev pub is_older : Row → Row → Bool
is_older a b = is_lt (then_cmp (on (λ r. r.boot) nat_cmp) (on (λ r. r.count) nat_cmp) a b)

-- the newer of two copies of a row, and the first if they are equally new
abbrev pub newer : Row × Row → Row
newer p = if is_older p.0 p.1 then p.1 else p.0

-- ---- tables

-- the values past the rows
abbrev pub no_row : Row
no_row = record { boot = 0; count = 0; scores = [] }

abbrev pub row_of : Scores → ℕ → Row
row_of table y = slice_index_or table.rows y no_row

abbrev pub with_row : Scores → ℕ → Row → Scores
with_row table y row = record table { rows = slice_set table.rows y row }

abbrev pub start_scores : ℕ → ℕ → Scores
start_scores own boot = with_row (record { own = own; rows = replicate 15 (start_row 0) }) own (start_row boot)

-- the own score for x is changed
abbrev pub scored : (ℕ → ℕ) → ℕ → Scores → Scores
scored change x table = with_row table table.own (updated change x (row_of table table.own))

-- of each monitor's row the newer copy, and the own one if neither is; the own row stays
abbrev pub merged : Scores → Scores → Scores
merged table told = with_row (record table { rows = map newer (zip table.rows told.rows) }) table.own (row_of table table.own)

-- the sum of the scores that the others among the first monitors, whose rows these are, give to x
abbrev pub sum_for : ℕ → List Row → ℕ
sum_for x rows = sum_by (λ p. slice_index p.1.scores x) (filter (λ p. not (p.0 == x)) (enumerate_from 0 rows))

-- the total score of x among n monitors
abbrev pub total : Scores → ℕ → ℕ → ℕ
total table n x = sum_for x (take n table.rows)
