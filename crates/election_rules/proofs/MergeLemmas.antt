-- A merged table, row by row.
use Rattle.std.proofs.Common.{◌≡◌, ◌≢◌, ◌∙◌, ℕ, ◌+◌, ◌≤◌, ◌<◌, Bool, true, false, ◌==◌, List, length, map, ap, sym, refl, arith}
use Rattle.std.proofs.lemmas.List.{get_or-map, get_or-set_same, get_or-set_other, length-map, length-set, ext_get_or}
use Rattle.std.proofs.lemmas.Slice.Zip.{get_or-zip, length-zip}
use borrow.Author.Tests.{eqb-true, eqb-false}
use Rattle.std.specs.Prelude.{slice_index_or}
use Rattle.std.specs.List.{zip}
use Rattle.election_rules.specs.declared.row.Row.{Row}
use Rattle.election_rules.specs.declared.scores.Scores.{Scores}
use Rattle.election_rules.specs.Table.{no_row, row_of, with_row, is_older, newer, merged}

length-newer : (rows told : List Row) → length rows ≡ 15 → length told ≡ 15 → length (map newer (zip rows told)) ≡ 15
length-newer rows told p q = rw (length-map (zip rows told) newer, length-zip rows told, p, q)

newer_at : (rows told : List Row) (y : ℕ) (d : Row) → y < length rows → y < length told → slice_index_or (map newer (zip rows told)) y d ≡ newer (slice_index_or rows y d, slice_index_or told y d)
newer_at rows told y d p q =
    let here : y < length (zip rows told) = omega (arith, length-zip rows told) in
    get_or-map newer (zip rows told) y (d, d) d here ∙ ap newer (get_or-zip rows told y (d, d) p q)

-- the own row stays
pub merged-own : (table told : Scores) → length table.rows ≡ 15 → length told.rows ≡ 15 → table.own < 15 → row_of (merged table told) table.own ≡ row_of table table.own
merged-own table told p q h =
    let here : table.own < length (map newer (zip table.rows told.rows)) = omega (arith, length-newer table.rows told.rows p q) in
    get_or-set_same (map newer (zip table.rows told.rows)) table.own (row_of table table.own) no_row here

-- of each other row there is the newer copy
pub merged-other : (table told : Scores) (y : ℕ) → length table.rows ≡ 15 → length told.rows ≡ 15 → y < 15 → y ≢ table.own → row_of (merged table told) y ≡ newer (row_of table y, row_of told y)
merged-other table told y p q h n =
    get_or-set_other (map newer (zip table.rows told.rows)) table.own y (row_of table table.own) no_row n ∙
    newer_at table.rows told.rows y no_row (omega arith) (omega arith)

-- a copy that is newer is taken over
pub merged-taken : (table told : Scores) (y : ℕ) → length table.rows ≡ 15 → length told.rows ≡ 15 → y < 15 → y ≢ table.own → is_older (row_of table y) (row_of told y) ≡ true → row_of (merged table told) y ≡ row_of told y
merged-taken table told y p q h n e = merged-other table told y p q h n ∙ rw e

-- one that isn't is not
pub merged-kept : (table told : Scores) (y : ℕ) → length table.rows ≡ 15 → length told.rows ≡ 15 → y < 15 → y ≢ table.own → is_older (row_of table y) (row_of told y) ≡ false → row_of (merged table told) y ≡ row_of table y
merged-kept table told y p q h n e = merged-other table told y p q h n ∙ rw e

-- ---- the loop

-- the table if the ranks below y are merged
pub record IsMergedBelow (y : ℕ) (table told now : Scores) : Type 0 where
  pub same_own : now.own ≡ table.own
  pub ranks : length now.rows ≡ 15
  pub done : (k : ℕ) → k < y → row_of now k ≡ row_of (merged table told) k
  pub left : (k : ℕ) → y ≤ k → row_of now k ≡ row_of table k

-- the next row stays
pub stays : (y : ℕ) (table told now : Scores) → IsMergedBelow y table told now → row_of (merged table told) y ≡ row_of table y → IsMergedBelow (y + 1) table told now
stays y table told now m e = record {
  same_own = m.same_own;
  ranks = m.ranks;
  done = λ k h. grind (arith, m.done k, m.left k);
  left = λ k h. m.left k (omega arith);
}

taken_at : (y : ℕ) (table told now : Scores) (row : Row) (k : ℕ) → IsMergedBelow y table told now → y < 15 → row_of (merged table told) y ≡ row → k < y + 1 → (same : Bool) → (k == y) ≡ same → row_of (with_row now y row) k ≡ row_of (merged table told) k
taken_at y table told now row k m h e l true p =
    let here : k ≡ y = eqb-true k y p in
    rw here (get_or-set_same now.rows y row no_row (omega (arith, m.ranks)) ∙ sym e)
taken_at y table told now row k m h e l false p =
    let other : k ≢ y = eqb-false k y p in
    get_or-set_other now.rows y k row no_row other ∙ m.done k (omega arith)

-- the next row is taken over
pub taken : (y : ℕ) (table told now : Scores) (row : Row) → IsMergedBelow y table told now → y < 15 → row_of (merged table told) y ≡ row → IsMergedBelow (y + 1) table told (with_row now y row)
taken y table told now row m h e = record {
  same_own = m.same_own;
  ranks = length-set now.rows y row ∙ m.ranks;
  done = λ k l. taken_at y table told now row k m h e l (k == y) refl;
  left = λ k l. get_or-set_other now.rows y k row no_row (omega arith) ∙ m.left k (omega arith);
}

pub length-merged : (table told : Scores) → length table.rows ≡ 15 → length told.rows ≡ 15 → length (merged table told).rows ≡ 15
length-merged table told p q = length-set (map newer (zip table.rows told.rows)) table.own (row_of table table.own) ∙ length-newer table.rows told.rows p q

-- the whole table
pub whole : (table told now : Scores) → length table.rows ≡ 15 → length told.rows ≡ 15 → IsMergedBelow 15 table told now → now ≡ merged table told
whole table told now p q m =
    let rows : now.rows ≡ (merged table told).rows = ext_get_or no_row now.rows (merged table told).rows (m.ranks ∙ sym (length-merged table told p q)) (λ k h. m.done k (omega (arith, m.ranks))) in
    rw (← rows, ← m.same_own)
