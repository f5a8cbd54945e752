-- The total score, one row after another.
use Rattle.std.proofs.Common.{◌≡◌, ℕ, zero, suc, ◌+◌, ◌<◌, not, cond, ◌==◌, List, [], ◌∷◌, length, take, slice_index, filter, sum_by, arith, add-one, add-zero}
use Rattle.std.proofs.lemmas.Grind.{common_steps}
use Rattle.std.specs.Prelude.{slice_index_or}
use Rattle.std.specs.List.{enumerate_from}
use Rattle.election_rules.specs.declared.row.Row.{Row}
use Rattle.election_rules.specs.Table.{sum_for}

-- the same if the first row is that of rank k
abbrev pub sum_from : ℕ → ℕ → List Row → ℕ
sum_from x k rows = sum_by (λ p. slice_index p.1.scores x) (filter (λ p. not (p.0 == x)) (enumerate_from k rows))

-- what one row adds
abbrev pub added : ℕ → ℕ → Row → ℕ
added x y row = cond (y == x) 0 (slice_index row.scores x)

sum_from-first : (x k : ℕ) (row : Row) (rows : List Row) → sum_from x k (row ∷ rows) ≡ added x k row + sum_from x (k + 1) rows
sum_from-first x k row rows = grind (arith, common_steps)

-- one row more at the end
sum_from-more : (x k : ℕ) (rows : List Row) (i : ℕ) (d : Row) → i < length rows → sum_from x k (take (suc i) rows) ≡ sum_from x k (take i rows) + added x (k + i) (slice_index_or rows i d)
sum_from-more x k [] i d h = absurd (omega arith)
sum_from-more x k (row ∷ rows) zero d h = rw (sum_from-first x k row [], add-zero k) (omega arith)
sum_from-more x k (row ∷ rows) (suc i) d h =
    let e : k + suc i ≡ (k + 1) + i = omega arith in
    let rest : sum_from x (k + 1) (take (suc i) rows) ≡ sum_from x (k + 1) (take i rows) + added x ((k + 1) + i) (slice_index_or rows i d) = sum_from-more x (k + 1) rows i d (omega arith) in
    rw (sum_from-first x k row (take (suc i) rows), sum_from-first x k row (take i rows), e) (omega arith)

-- one row more in a total
pub sum_for-more : (x : ℕ) (rows : List Row) (i : ℕ) (d : Row) → i < length rows → sum_for x (take (i + 1) rows) ≡ sum_for x (take i rows) + added x i (slice_index_or rows i d)
sum_for-more x rows i d h = let e : 0 + i ≡ i = omega arith in let more = sum_from-more x 0 rows i d h in rw add-one (rw e at more)
