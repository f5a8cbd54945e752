-- A table that is kept can be sent, and one that was received can be kept.
use Rattle.std.proofs.Common.{◌≡◌, ℕ, zero, suc, ◌+◌, ◌-◌, ◌<◌, ◌≤◌, ◌⊎◌, List, [], ◌∷◌, length, take, drop, replicate, inl, inr, refl, sym, ap, subst, ◌∙◌, arith}
use Rattle.std.proofs.lemmas.Bool.{cases_lt}
use Rattle.std.specs.List.{AllByRecursion}
use Rattle.std.specs.Prelude.{slice_index_or}
use Rattle.election_rules.specs.Form.{IsRow, IsTable}
use Rattle.election_rules.specs.Table.{full, no_row, row_of, start_row}
use Rattle.election_rules.specs.declared.row.Row.{Row}
use Rattle.election_rules.specs.declared.scores.Scores.{Scores}
use Rattle.mon_wire.specs.Message.Scores.{IsPadded, row, score, table}

-- ---- the first n of a list, and those past them

module _ {A : Type 0} where
  front_each : (P : A → Type 0) (d : A) (n : ℕ) (xs : List A) → ((k : ℕ) → k < n → k < length xs → P (slice_index_or xs k d)) → AllByRecursion P (take n xs)
  front_each P d zero [] h = tt
  front_each P d zero (x ∷ xs) h = tt
  front_each P d (suc n) [] h = tt
  front_each P d (suc n) (x ∷ xs) h = (h 0 (omega arith) (omega arith), front_each P d n xs (λ k l m. h (suc k) (omega arith) (omega arith)))

  front_at : (P : A → Type 0) (d : A) (n : ℕ) (xs : List A) (k : ℕ) → AllByRecursion P (take n xs) → k < n → k < length xs → P (slice_index_or xs k d)
  front_at P d n [] k h l m = absurd (omega arith)
  front_at P d zero (x ∷ xs) k h l m = absurd (omega arith)
  front_at P d (suc n) (x ∷ xs) zero h l m = h.0
  front_at P d (suc n) (x ∷ xs) (suc k) h l m = front_at P d n xs k h.1 (omega arith) (omega arith)

  all_same : (d e : A) (xs : List A) → ((k : ℕ) → k < length xs → slice_index_or xs k d ≡ e) → xs ≡ replicate (length xs) e
  all_same d e [] h = refl
  all_same d e (x ∷ xs) h = (λ i. h 0 (omega arith) i ∷ all_same d e xs (λ k l. h (suc k) (omega arith)) i)

  past_same : (d e : A) (n m : ℕ) (xs : List A) → length xs ≡ n + m → ((k : ℕ) → n ≤ k → k < length xs → slice_index_or xs k d ≡ e) → drop n xs ≡ replicate m e
  past_same d e zero m [] len h = let z : m ≡ 0 = omega arith in rw z refl
  past_same d e zero m (x ∷ xs) len h =
      let z : length (x ∷ xs) ≡ m = omega arith in subst (λ k. x ∷ xs ≡ replicate k e) z (all_same d e (x ∷ xs) (λ k l. h k (omega arith) l))
  past_same d e (suc n) m [] len h = absurd (omega arith)
  past_same d e (suc n) m (x ∷ xs) len h = past_same d e n m xs (omega arith) (λ k l m. h (suc k) (omega arith) (omega arith))

  same_at : (d e : A) (m k : ℕ) → k < m → slice_index_or (replicate m e) k d ≡ e
  same_at d e zero k l = absurd (omega arith)
  same_at d e (suc m) zero l = refl
  same_at d e (suc m) (suc k) l = same_at d e m k (omega arith)

  past_at : (d e : A) (n m : ℕ) (xs : List A) (k : ℕ) → length xs ≡ n + m → drop n xs ≡ replicate m e → n ≤ k → k < n + m → slice_index_or xs k d ≡ e
  past_at d e zero m [] k len h l lt = absurd (omega arith)
  past_at d e zero m (x ∷ xs) k len h l lt = ap (λ (ys : List A). slice_index_or ys k d) h ∙ same_at d e m k (omega arith)
  past_at d e (suc n) m [] k len h l lt = absurd (omega arith)
  past_at d e (suc n) m (x ∷ xs) zero len h l lt = absurd (omega arith)
  past_at d e (suc n) m (x ∷ xs) (suc k) len h l lt = past_at d e n m xs k (omega arith) h (omega arith) (omega arith)

-- ---- rows

row_told : (n : ℕ) (r : Row) → n ≤ 15 → IsRow n r → (row n).Form r
row_told n r few h =
    let ranks = h.ranks in (
      h.boot,
      (
        h.count,
        record {
          ranks = ranks;
          each = front_each (λ s. s ≤ full) 0 n r.scores (λ k l m. h.scores k (omega arith));
          others = past_same 0 full n (15 - n) r.scores (omega arith) (λ k l m. h.rest k (omega arith) l);
        },
      ),
    )

row_kept : (n : ℕ) (r : Row) → n ≤ 15 → (row n).Form r → IsRow n r
row_kept n r few h = record {
  boot = h.0;
  count = h.1.0;
  ranks = padded.ranks;
  scores = λ x l. by x l (cases_lt x n);
  rest = past;
}
  where
    padded : IsPadded n full score.Form r.scores
    padded = h.1.1

    past : (x : ℕ) → x < 15 → n ≤ x → slice_index_or r.scores x 0 ≡ full
    past x l le = let ranks = padded.ranks in past_at 0 full n (15 - n) r.scores x (omega arith) padded.others le (omega arith)

    by : (x : ℕ) → x < 15 → (x < n) ⊎ (n ≤ x) → slice_index_or r.scores x 0 ≤ full
    by x l (inl lt) = let ranks = padded.ranks in front_at (λ s. s ≤ full) 0 n r.scores x padded.each lt (omega arith)
    by x l (inr le) = let same = past x l le in omega arith

-- ---- tables

pub table_told : (n own : ℕ) (t : Scores) → IsTable n own t → (table n own).Form t
table_told n own t h =
    let ranks = h.ranks in
    let most = h.most in (
      h.of_own,
      record {
        ranks = ranks;
        each = front_each (row n).Form no_row n t.rows (λ k l m. row_told n (row_of t k) most (h.rows k (omega arith)));
        others = past_same no_row (start_row 0) n (15 - n) t.rows (omega arith) (λ k l m. h.rest k (omega arith) l);
      },
    )

none_row : (n : ℕ) → IsRow n (start_row 0)
unfolding start_row
none_row n = record {
  boot = omega arith;
  count = omega arith;
  ranks = refl;
  scores = λ x l. let same = same_at 0 full 15 x l in omega arith;
  rest = λ x l le. same_at 0 full 15 x l;
}

pub table_kept : (n own : ℕ) (t : Scores) → own < n → n ≤ 15 → (table n own).Form t → IsTable n own t
table_kept n own t lt few h = record {
  of_own = h.0;
  member = lt;
  most = few;
  ranks = padded.ranks;
  rows = λ y l. by y l (cases_lt y n);
  rest = past;
}
  where
    padded : IsPadded n (start_row 0) (row n).Form t.rows
    padded = h.1

    past : (y : ℕ) → y < 15 → n ≤ y → row_of t y ≡ start_row 0
    past y l le = let ranks = padded.ranks in past_at no_row (start_row 0) n (15 - n) t.rows y (omega arith) padded.others le (omega arith)

    by : (y : ℕ) → y < 15 → (y < n) ⊎ (n ≤ y) → IsRow n (row_of t y)
    by y l (inl lt) = let ranks = padded.ranks in row_kept n (row_of t y) few (front_at (row n).Form no_row n t.rows y padded.each lt (omega arith))
    by y l (inr le) = subst (IsRow n) (sym (past y l le)) (none_row n)
