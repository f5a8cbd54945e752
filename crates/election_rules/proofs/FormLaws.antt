-- Every call keeps the form of a table among n monitors.
use Rattle.std.proofs.Common.{◌≡◌, ◌≢◌, ◌∙◌, ℕ, ◌+◌, ◌-◌, ◌*◌, ◌<◌, ◌≤◌, ◌^◌, min, Bool, true, false, cond, ◌==◌, nat_lt, List, length, replicate, refl, sym, ap, subst, slice_index, slice_set, arith}
use Rattle.std.proofs.lemmas.Grind.{common_steps}
use Rattle.std.proofs.lemmas.Bool.Decides.{nat_tests}
use Rattle.std.proofs.lemmas.List.{get_or-set_same, get_or-set_other, get_or-replicate, length-set, length-replicate}
use Rattle.std.proofs.Math.Nat.{mul-le-mul_left}
use borrow.Author.Tests.{eqb-true, eqb-false}
use Rattle.election_rules.specs.declared.row.Row.{Row}
use Rattle.election_rules.specs.declared.scores.Scores.{Scores}
use Rattle.election_rules.specs.Table.{full, half_life, share, raised, lowered, start_row, updated, is_older, start_scores, no_row, row_of, with_row, scored, merged}
use Rattle.election_rules.specs.Form.{IsRow, IsTable}
use Rattle.election_rules.proofs.MergeLemmas.{merged-own, merged-other, length-merged}

share_le : (amount seconds : ℕ) → share amount seconds ≤ amount
share_le amount seconds =
    let times : amount * min seconds (2 * half_life) ≤ amount * (2 * half_life) = mul-le-mul_left amount (omega arith) in
    omega arith

pub raised_le : (seconds score : ℕ) → score ≤ full → raised seconds score ≤ full
raised_le seconds score h = omega (arith, share_le (full - score) seconds)

pub lowered_le : (seconds score : ℕ) → score ≤ full → lowered seconds score ≤ full
lowered_le seconds score h = omega arith

start_row_is : (n boot : ℕ) → boot ≤ 2 ^ 62 → IsRow n (start_row boot)
unfolding start_row
start_row_is n boot h = record {
  boot = h;
  count = omega arith;
  ranks = refl;
  scores = λ x l. omega (arith, get_or-replicate 15 x full 0 l);
  rest = λ x l m. get_or-replicate 15 x full 0 l;
}

counted_le : (count : ℕ) → count ≤ 2 ^ 62 → cond (nat_lt count (2 ^ 62)) (count + 1) count ≤ 2 ^ 62
counted_le count h = grind (arith, nat_tests)

set_within_at : (xs : List ℕ) (x y v bound : ℕ) → slice_index xs y ≤ bound → (y ≡ x → v ≤ bound) → (same : Bool) → (y == x) ≡ same → slice_index (slice_set xs x v) y ≤ bound
set_within_at xs x y v bound h k true p = grind (arith, common_steps)
set_within_at xs x y v bound h k false p =
    let other : y ≢ x = eqb-false y x p in
    rw (get_or-set_other xs x y v 0 other) h

-- an element after a store is the new one at its place, and the old one at each other
set_within : (xs : List ℕ) (x y v bound : ℕ) → slice_index xs y ≤ bound → (y ≡ x → v ≤ bound) → slice_index (slice_set xs x v) y ≤ bound
set_within xs x y v bound h k = set_within_at xs x y v bound h k (y == x) refl

updated_is : (n : ℕ) (change : ℕ → ℕ) (x : ℕ) (row : Row) → IsRow n row → x < n → ((s : ℕ) → s ≤ full → change s ≤ full) → IsRow n (updated change x row)
updated_is n change x row r h keeps = record {
  boot = r.boot;
  count = counted_le row.count r.count;
  ranks = length-set row.scores x (change (slice_index row.scores x)) ∙ r.ranks;
  scores = λ y l. set_within row.scores x y (change (slice_index row.scores x)) full (r.scores y l) (λ e. keeps (slice_index row.scores x) (r.scores x (omega arith)));
  rest = λ y l m. get_or-set_other row.scores x y (change (slice_index row.scores x)) 0 (omega arith) ∙ r.rest y l m;
}

-- ---- tables

-- the row of a rank after a row is put in
with_row_at : (table : Scores) (y k : ℕ) (row : Row) (P : Row → Type 0) → k < length table.rows → P (row_of table k) → (k ≡ y → P row) → (same : Bool) → (k == y) ≡ same → P (row_of (with_row table y row) k)
with_row_at table y k row P l h put true p =
    let here : k ≡ y = eqb-true k y p in
    subst P (sym (ap (λ i. row_of (with_row table y row) i) here ∙ get_or-set_same table.rows y row no_row (omega arith))) (put here)
with_row_at table y k row P l h put false p =
    let other : k ≢ y = eqb-false k y p in
    subst P (sym (get_or-set_other table.rows y k row no_row other)) h

-- a row of its form is put in for a rank of the map
put_is : (n own y : ℕ) (row : Row) (table : Scores) → IsTable n own table → y < n → IsRow n row → IsTable n own (with_row table y row)
put_is n own y row table t h r = record {
  of_own = t.of_own;
  member = t.member;
  most = t.most;
  ranks = length-set table.rows y row ∙ t.ranks;
  rows = λ k l. with_row_at table y k row (IsRow n) (omega (arith, t.ranks)) (t.rows k l) (λ _. r) (k == y) refl;
  rest = λ k l m. with_row_at table y k row (λ q. q ≡ start_row 0) (omega (arith, t.ranks)) (t.rest k l m) (λ e. absurd (omega arith)) (k == y) refl;
}

-- the table before anything is known
blank_is : (n own : ℕ) → own < n → n ≤ 15 → IsTable n own (record { own = own; rows = replicate 15 (start_row 0) })
blank_is n own h m = record {
  of_own = refl;
  member = h;
  most = m;
  ranks = length-replicate 15 (start_row 0);
  rows = λ y l. subst (IsRow n) (sym (get_or-replicate 15 y (start_row 0) no_row l)) (start_row_is n 0 (omega arith));
  rest = λ y l k. get_or-replicate 15 y (start_row 0) no_row l;
}

pub start_scores_is : (n own boot : ℕ) → own < n → n ≤ 15 → boot ≤ 2 ^ 62 → IsTable n own (start_scores own boot)
start_scores_is n own boot h m b = put_is n own own (start_row boot) (record { own = own; rows = replicate 15 (start_row 0) }) (blank_is n own h m) h (start_row_is n boot b)

pub scored_is : (n own : ℕ) (change : ℕ → ℕ) (x : ℕ) (table : Scores) → IsTable n own table → x < n → ((s : ℕ) → s ≤ full → change s ≤ full) → IsTable n own (scored change x table)
scored_is n own change x table t h keeps =
    let member : table.own < n = rw t.of_own t.member in
    put_is n own table.own (updated change x (row_of table table.own)) table t member
    (updated_is n change x (row_of table table.own) (t.rows table.own (omega (arith, t.most))) h keeps)

chosen_is : (P : Row → Type 0) (a b : Row) → P a → P b → (older : Bool) → P (cond older b a)
chosen_is P a b p q true = q
chosen_is P a b p q false = p

-- what holds of both copies of a row holds of the merged one
merged_at : (table told : Scores) (P : Row → Type 0) (y : ℕ) → length table.rows ≡ 15 → length told.rows ≡ 15 → y < 15 → P (row_of table y) → P (row_of told y) → (same : Bool) → (y == table.own) ≡ same → P (row_of (merged table told) y)
merged_at table told P y t u l p q true e =
    let here : y ≡ table.own = eqb-true y table.own e in
    let own : row_of (merged table told) table.own ≡ row_of table table.own = merged-own table told t u (omega arith) in
    subst P (ap (λ i. row_of table i) here ∙ sym own ∙ ap (λ i. row_of (merged table told) i) (sym here)) p
merged_at table told P y t u l p q false e =
    let other : y ≢ table.own = eqb-false y table.own e in
    subst P (sym (merged-other table told y t u l other)) (chosen_is P (row_of table y) (row_of told y) p q (is_older (row_of table y) (row_of told y)))

pub merged_is : (n own other : ℕ) (table told : Scores) → IsTable n own table → IsTable n other told → IsTable n own (merged table told)
merged_is n own other table told t u = record {
  of_own = t.of_own;
  member = t.member;
  most = t.most;
  ranks = length-merged table told t.ranks u.ranks;
  rows = λ y l. merged_at table told (IsRow n) y t.ranks u.ranks l (t.rows y l) (u.rows y l) (y == table.own) refl;
  rest = λ y l k. merged_at table told (λ r. r ≡ start_row 0) y t.ranks u.ranks l (t.rest y l k) (u.rest y l k) (y == table.own) refl;
}
