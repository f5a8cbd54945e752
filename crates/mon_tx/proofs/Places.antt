-- What a change leaves at each place.
use Rattle.std.proofs.Common.{◌≡◌, ◌≢◌, ℕ, ◌^◌, ◌≤◌, Bool, true, false, ◌&&◌, cond, eqb, leb, List, [], length, Some, None, refl, ap, ◌∙◌, arith}
use Rattle.std.specs.declared.cmp.Ordering.{Ordering}
use Rattle.std.specs.declared.cmp.Ordering.TheVariants.{Less, Equal, Greater}
use Rattle.std.specs.Ordering.{nat_cmp, eq_by_cmp, is_eq}
use Rattle.std.specs.Cmp.{IsTotalOrder, eq_by_cmp_equiv}
use Rattle.std.specs.Cmp.Lexicographic.{slice_cmp, nat_list_cmp_total}
use Rattle.std.specs.FinMap.{get, insert, get-insert}
use Rattle.std.proofs.lemmas.Bool.{and_parts, cond_both, le-leb, leb-true}
use Rattle.std.proofs.lemmas.Cmp.{on_total, then_total}
use Rattle.std.proofs.lemmas.Map.Lookups.{CmpEqualImpliesEq, exact_pairs, exact_bytes}
use Rattle.byteorder.specs.Endian.{little_bytes, little_number}
use Rattle.byteorder.specs.Numbers.{little_number-reads_back}
use Rattle.mon_tx.specs.Decision.{Cell}
use Rattle.mon_tx.specs.Map.{Place, place_cmp, Store, number_bytes, number_in, number_at}

pub places_total : IsTotalOrder place_cmp
places_total = then_total (on_total (λ (p : Place). p.0) nat_list_cmp_total) (on_total (λ (p : Place). p.1) nat_list_cmp_total)

pub exact_places : CmpEqualImpliesEq place_cmp
exact_places = exact_pairs (slice_cmp nat_cmp) (slice_cmp nat_cmp) exact_bytes exact_bytes

pub is_equal : (r : Ordering) → is_eq r ≡ true → r ≡ Equal
is_equal Less e = absurd cc
is_equal Equal e = refl
is_equal Greater e = absurd cc

differ : (p q : Place) → q ≢ p → eq_by_cmp place_cmp q p ≡ false
differ p q ne =
    let by_test : (b : Bool) → eq_by_cmp place_cmp q p ≡ b → b ≡ false =
    λ b. elim b as (λ b. eq_by_cmp place_cmp q p ≡ b → b ≡ false) [
      | true ↦ λ e. absurd (ne (exact_places q p (is_equal (place_cmp q p) e)))
      | false ↦ λ e. refl
    ] in
    by_test (eq_by_cmp place_cmp q p) refl

pub get-put_same : (m : Store) (p : Place) (v : List ℕ) → get (insert m p v) p ≡ Some v
get-put_same m p v = get-insert places_total m p v p ∙ ap (λ b. cond b (Some v) (get m p)) ((eq_by_cmp_equiv places_total).refl p)

-- a put of one place leaves every other
pub get-put_other : (m : Store) (p q : Place) (v : List ℕ) → q ≢ p → get (insert m p v) q ≡ get m q
get-put_other m p q v ne = get-insert places_total m p v q ∙ ap (λ b. cond b (Some v) (get m q)) (differ p q ne)

pub number_in-bytes : (n : ℕ) → n ≤ 2 ^ 62 → number_in (Some (number_bytes n)) ≡ n
unfolding number_in number_bytes
number_in-bytes n le =
    let back : little_number 8 (little_bytes 8 n) ≡ n = little_number-reads_back 8 n [] (omega arith) in
    let fits : leb n (2 ^ 62) ≡ true = le-leb _ _ le in
    rw (back, fits) refl

pub number_in-low : (c : Cell) → number_in c ≤ 2 ^ 62
unfolding number_in
number_in-low None = omega arith
number_in-low (Some bytes) =
    let n = little_number 8 bytes in
    cond_both (eqb (length bytes) 8 && leb n (2 ^ 62)) n 0 (λ z. z ≤ 2 ^ 62) (λ e. leb-true n (2 ^ 62) (and_parts (eqb (length bytes) 8) (leb n (2 ^ 62)) e).1) (λ _. omega arith)

-- a number that is put is read
pub number-put_same : (m : Store) (prefix key : List ℕ) (n : ℕ) → n ≤ 2 ^ 62 → number_at (insert m (prefix, key) (number_bytes n)) prefix key ≡ n
number-put_same m prefix key n le = ap number_in (get-put_same m (prefix, key) (number_bytes n)) ∙ number_in-bytes n le

pub number-put_other : (m : Store) (p : Place) (prefix key v : List ℕ) → (prefix, key) ≢ p → number_at (insert m p v) prefix key ≡ number_at m prefix key
number-put_other m p prefix key v ne = ap number_in (get-put_other m p (prefix, key) v ne)

-- the same for places that are written out, if the test computes
pub number-put_apart : (m : Store) (p : Place) (prefix key v : List ℕ) → eq_by_cmp place_cmp (prefix, key) p ≡ false → number_at (insert m p v) prefix key ≡ number_at m prefix key
number-put_apart m p prefix key v apart =
    ap number_in (get-insert places_total m p v (prefix, key) ∙ ap (λ b. cond b (Some v) (get m (prefix, key))) apart)
