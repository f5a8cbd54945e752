-- The bytes of the number that bytes read as.
use Rattle.std.proofs.Common.{◌≡◌, ℕ, zero, suc, ◌+◌, ◌*◌, ◌/◌, ◌%◌, ◌^◌, ◌<◌, List, [], ◌∷◌, length, refl, ap, ◌∙◌, sym, arith}
use Rattle.std.proofs.Math.Nat.{pow-suc, pow-succ', div-div-eq-div-mul}
use Rattle.std.specs.Int.{byte_at, bytes_low_first}
use Rattle.byteorder.specs.Endian.{little_from, little_bytes, little_number}
use Rattle.byteorder.specs.Numbers.{little_from-cons}
use Rattle.mon_bytes.specs.Reading.{IsBytes}

IsBytes-tail : (b : ℕ) (bytes : List ℕ) → IsBytes (b ∷ bytes) → IsBytes bytes
IsBytes-tail b bytes h i = h (suc i)

pub little_number-below : (count : ℕ) (bytes : List ℕ) → length bytes ≡ count → IsBytes bytes → little_number count bytes < 256 ^ count
little_number-below zero bytes len fits = omega arith
little_number-below (suc count) [] len fits = absurd (omega arith)
little_number-below (suc count) (b ∷ bytes) len fits =
    let rest = little_number-below count bytes (omega arith) (IsBytes-tail b bytes fits) in
    let moved = little_from-cons 0 count b bytes in
    let first = fits 0 in
    let power = pow-suc 256 count in
    omega (arith, rest, moved, first, power)

byte_higher : (i n : ℕ) → byte_at (suc i) n ≡ byte_at i (n / 256)
byte_higher zero n = ap (λ (d : ℕ). n / d % 256) refl
byte_higher (suc i) n =
    let power : 256 ^ suc (suc i) ≡ 256 * 256 ^ suc i = pow-succ' 256 (suc i) in
    ap (λ (d : ℕ). n / d % 256) power ∙ ap (λ (q : ℕ). q % 256) (sym (div-div-eq-div-mul n 256 (256 ^ suc i)))

bytes_higher : (i count n : ℕ) → bytes_low_first (suc i) count n ≡ bytes_low_first i count (n / 256)
bytes_higher i zero n = refl
bytes_higher i (suc count) n =
    ap (λ (b : ℕ). b ∷ bytes_low_first (suc (suc i)) count n) (byte_higher i n)
    ∙ ap (λ (bs : List ℕ). byte_at i (n / 256) ∷ bs) (bytes_higher (suc i) count n)

pub little_bytes-little_number : (count : ℕ) (bytes : List ℕ) → length bytes ≡ count → IsBytes bytes → little_bytes count (little_number count bytes) ≡ bytes
little_bytes-little_number zero [] len fits = refl
little_bytes-little_number zero (b ∷ bytes) len fits = absurd (omega arith)
little_bytes-little_number (suc count) [] len fits = absurd (omega arith)
little_bytes-little_number (suc count) (b ∷ bytes) len fits =
    let n = b + 256 * little_from 1 count (b ∷ bytes) in
    let first = fits 0 in
    let low : n % 256 ≡ b = omega (arith, first) in
    let high : n / 256 ≡ little_number count bytes = omega (arith, first, little_from-cons 0 count b bytes) in
    ap (λ (x : ℕ). x ∷ bytes_low_first 1 count n) low
    ∙ ap (λ (bs : List ℕ). b ∷ bs)
    (bytes_higher 0 count n ∙ ap (λ (x : ℕ). bytes_low_first 0 count x) high ∙ little_bytes-little_number count bytes (omega arith) (IsBytes-tail b bytes fits))
