-- The number of a set of ranks, and the set of a number, as loops make them and as laws.
use Rattle.std.proofs.Common.{◌≡◌, ℕ, zero, suc, ◌+◌, ◌-◌, ◌*◌, ◌/◌, ◌%◌, ◌^◌, ◌≤◌, ◌<◌, Bool, true, false, eqb, ltb, List, [], ◌∷◌, ◌++◌, length, drop, drop-cons, replicate, set, refl, sym, ap, ◌∙◌, append_assoc, arith}
use Rattle.std.proofs.Math.Nat.{pow-suc, pow-le-pow_right, one-le-pow}
use Rattle.std.proofs.lemmas.Bool.Decides.{nat_tests}
use Rattle.std.proofs.lemmas.List.{append-nil, length-append}
use Rattle.mon_types.specs.Ranks.{has, is_empty, is_within, bit, to_bits, low_bits}

-- ---- from a set to its number, from the highest rank on

pub bit_most : (b : Bool) → bit b ≤ 1
bit_most true = omega arith
bit_most false = omega arith

pub next_bit : (ranks : List Bool) (i number : ℕ) → length ranks ≡ 15 → i < 15 → number ≡ to_bits (drop (15 - i) ranks) → 2 * number + bit (has ranks (14 - i)) ≡ to_bits (drop (15 - (i + 1)) ranks)
next_bit ranks i number len lt value =
    let k : 15 - (i + 1) ≡ 14 - i = omega arith in
    let s : suc (14 - i) ≡ 15 - i = omega arith in
    let cells : drop (14 - i) ranks ≡ has ranks (14 - i) ∷ drop (suc (14 - i)) ranks = drop-cons ranks (14 - i) false (omega (arith, len, lt)) in
    let all : to_bits (drop (15 - (i + 1)) ranks) ≡ bit (has ranks (14 - i)) + 2 * to_bits (drop (15 - i) ranks) =
    ap (λ (n : ℕ). to_bits (drop n ranks)) k ∙ ap to_bits cells ∙ ap (λ (n : ℕ). bit (has ranks (14 - i)) + 2 * to_bits (drop n ranks)) s in
    omega (arith, all, value)

pub bound_next : (i number bit : ℕ) → number < 2 ^ i → bit ≤ 1 → 2 * number + bit < 2 ^ (i + 1)
bound_next i number bit below few = let one : i + 1 ≡ suc i = omega arith in rw one (omega (arith, pow-suc 2 i, below, few))

pub bound_most : (i number : ℕ) → number < 2 ^ i → i < 15 → number < 2 ^ 14
bound_most i number below lt =
    let few : i ≤ 14 = omega arith in
    let most : 2 ^ i ≤ 2 ^ 14 = pow-le-pow_right (omega arith) few in omega (arith, most, below)

-- ---- from a number to its set

set-seam : {A : Type 0} (front : List A) (x y : A) (more : List A) → set (front ++ x ∷ more) (length front) y ≡ front ++ y ∷ more
set-seam [] x y more = refl
set-seam {A} (f ∷ front) x y more = ap (λ (xs : List A). f ∷ xs) (set-seam front x y more)

seam : {A : Type 0} (i : ℕ) (d : A) → i < 15 → replicate (15 - i) d ≡ d ∷ replicate (15 - (i + 1)) d
seam i d lt = let k : 15 - i ≡ suc (15 - (i + 1)) = omega arith in rw k refl

-- an array of fifteen that is filled from the front has one more cell filled
pub filled_one : {A : Type 0} (i : ℕ) (d x : A) (front xs : List A) → i < 15 → length front ≡ i → xs ≡ front ++ replicate (15 - i) d → set xs i x ≡ (front ++ x ∷ []) ++ replicate (15 - (i + 1)) d
filled_one {A} i d x front xs lt count whole =
    let cells : xs ≡ front ++ d ∷ replicate (15 - (i + 1)) d = whole ∙ ap (λ (ys : List A). front ++ ys) (seam i d lt) in
    ap (λ (ys : List A). set ys i x) cells ∙ ap (λ (n : ℕ). set (front ++ d ∷ replicate (15 - (i + 1)) d) n x) (sym count) ∙ set-seam front d x (replicate (15 - (i + 1)) d)
    ∙ sym (append_assoc front (x ∷ []) (replicate (15 - (i + 1)) d))

-- the first r ranks are as the bits say, and those of the rest are still to come
pub record Filled (r rest : ℕ) (ranks total : List Bool) : Type 0 where
  pub front : List Bool
  pub count : length front ≡ r
  pub whole : ranks ≡ front ++ replicate (15 - r) false
  pub more : front ++ low_bits (15 - r) rest ≡ total

pub filled_first : (number : ℕ) (ranks : List Bool) → ranks ≡ replicate 15 false → Filled 0 number ranks (low_bits 15 number)
filled_first number ranks e = record { front = []; count = refl; whole = e; more = refl }

pub filled_next : (r rest : ℕ) (ranks total : List Bool) (s : Filled r rest ranks total) → r < 15 → Filled (r + 1) (rest / 2) (set ranks r (eqb (rest % 2) 1)) total
filled_next r rest ranks total s lt =
    let b = eqb (rest % 2) 1 in
    let one : low_bits (15 - r) rest ≡ b ∷ low_bits (15 - (r + 1)) (rest / 2) = let k : 15 - r ≡ suc (15 - (r + 1)) = omega arith in rw k refl in
    record {
      front = s.front ++ b ∷ [];
      count = omega (arith, length-append s.front (b ∷ []), s.count);
      whole = filled_one r false b s.front ranks lt s.count s.whole;
      more = append_assoc s.front (b ∷ []) (low_bits (15 - (r + 1)) (rest / 2)) ∙ ap (λ (bs : List Bool). s.front ++ bs) (sym one) ∙ s.more;
    }

pub filled_last : (r rest : ℕ) (ranks total : List Bool) → Filled r rest ranks total → 15 ≤ r → ranks ≡ total
filled_last r rest ranks total s le =
    let none : 15 - r ≡ 0 = omega arith in
    let left : ranks ≡ s.front = s.whole ∙ ap (λ (n : ℕ). s.front ++ replicate n false) none ∙ append-nil s.front in
    let right : s.front ≡ total = sym (append-nil s.front) ∙ ap (λ (n : ℕ). s.front ++ low_bits n rest) (sym none) ∙ s.more in
    left ∙ right

-- ---- each gives the other back

bit_back : (n : ℕ) → n < 2 → bit (eqb n 1) ≡ n
bit_back zero lt = refl
bit_back (suc zero) lt = refl
bit_back (suc (suc n)) lt = absurd (omega arith)

pub to_bits-low_bits : (k n : ℕ) → n < 2 ^ k → to_bits (low_bits k n) ≡ n
to_bits-low_bits zero n lt = omega arith
to_bits-low_bits (suc k) n lt =
    let power = pow-suc 2 k in
    let half : n / 2 < 2 ^ k = omega (arith, power, lt) in
    let others = to_bits-low_bits k (n / 2) half in
    let low = bit_back (n % 2) (omega arith) in
    omega (arith, others, low)

pub length-low_bits : (k n : ℕ) → length (low_bits k n) ≡ k
length-low_bits zero n = refl
length-low_bits (suc k) n = omega (arith, length-low_bits k (n / 2))

pub low_bits-to_bits : (s : List Bool) → low_bits (length s) (to_bits s) ≡ s
low_bits-to_bits [] = refl
low_bits-to_bits (true ∷ s) =
    let m = to_bits s in
    let low : (1 + 2 * m) % 2 ≡ 1 = omega arith in
    let half : (1 + 2 * m) / 2 ≡ m = omega arith in
    rw (low, half) (ap (λ (t : List Bool). true ∷ t) (low_bits-to_bits s))
low_bits-to_bits (false ∷ s) =
    let m = to_bits s in
    let low : (0 + 2 * m) % 2 ≡ 0 = omega arith in
    let half : (0 + 2 * m) / 2 ≡ m = omega arith in
    rw (low, half) (ap (λ (t : List Bool). false ∷ t) (low_bits-to_bits s))

-- ---- the sets within n are those whose number is below 2^n

empty_bits : (s : List Bool) → is_empty s ≡ ltb (to_bits s) 1
empty_bits [] = refl
empty_bits (true ∷ s) = grind (arith, nat_tests)
empty_bits (false ∷ s) = empty_bits s ∙ (let m = to_bits s in grind (arith, nat_tests))

pub within_bits : (n : ℕ) (s : List Bool) → is_within n s ≡ ltb (to_bits s) (2 ^ n)
within_bits zero s = empty_bits s
within_bits (suc n) [] = let power = one-le-pow (suc n) 2 (omega arith) in grind (arith, nat_tests)
within_bits (suc n) (b ∷ s) =
    let few = bit_most b in
    let power = pow-suc 2 n in
    within_bits n s ∙ grind (arith, nat_tests)
