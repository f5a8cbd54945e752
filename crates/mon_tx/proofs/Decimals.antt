-- Decimal numbers as keys: that they are what printing writes, and have the form of a name.
use Rattle.std.proofs.Common.{◌≡◌, ℕ, ◌+◌, ◌<◌, ◌≤◌, ◌^◌, true, cond, ◌&&◌, List, [], ◌∷◌, ◌++◌, map, length, leb, eqb, codes, refl, ap, ◌⊎◌, inl, inr, arith}
use Rattle.std.proofs.lemmas.Bool.{cases_eq, le-leb, leb-true, and_parts, eq-eqb, ne_eqb}
use Rattle.std.proofs.lemmas.Int.Digits.{all_below_base_digits_of}
use Rattle.std.proofs.lemmas.Fmt.{decimal-digits_of, decimal_digit, length-decimal-le, decimal_nonempty}
use Rattle.std.specs.Fmt.{decimal}
use Rattle.std.specs.Int.Digits.{digits_of, AllBelowBase}
use Rattle.std.specs.List.{list_all}
use Rattle.mon_bytes.specs.Texts.{graphic, is_word, is_name}
use Rattle.mon_tx.specs.Keys.{decimal_text}

pub decimal_is : (n : ℕ) → n < 2 ^ 64 → decimal n ≡ decimal_text n
unfolding decimal_text
decimal_is n h = by (cases_eq n 0)
  where
    by : (n ≡ 0) ⊎ (n ≡ 0 → ⊥) → decimal n ≡ cond (eqb n 0) (48 ∷ []) (map (λ d. 48 + d) (digits_of 10 n))
    by (inl e) = rw (eq-eqb n 0 e) (rw e (decimal_digit 0 (omega arith)))
    by (inr ne) = rw (ne_eqb n 0 ne) (decimal-digits_of n (omega arith) h)

digits_graphic : (ds : List ℕ) → AllBelowBase 10 ds → list_all graphic (map (λ d. 48 + d) ds) ≡ true
digits_graphic [] h = refl
digits_graphic (d ∷ ds) h = let s = h.0 in rw (le-leb 33 (48 + d) (omega arith), le-leb (48 + d) 126 (omega arith)) (digits_graphic ds h.1)

decimal_graphic : (n : ℕ) → list_all graphic (decimal_text n) ≡ true
unfolding decimal_text
decimal_graphic n = by (cases_eq n 0)
  where
    by : (n ≡ 0) ⊎ (n ≡ 0 → ⊥) → list_all graphic (cond (eqb n 0) (48 ∷ []) (map (λ d. 48 + d) (digits_of 10 n))) ≡ true
    by (inl e) = rw (eq-eqb n 0 e) refl
    by (inr ne) = rw (ne_eqb n 0 ne) (digits_graphic (digits_of 10 n) (all_below_base_digits_of 10 n (omega arith)))

pub decimal_word : (n : ℕ) → n < 2 ^ 64 → is_word 20 (decimal_text n) ≡ true
decimal_word n h =
    let a : length (decimal_text n) ≤ 20 = omega (arith, ap length (decimal_is n h), length-decimal-le 20 n (omega arith) (omega arith) h) in
    let b : 1 ≤ length (decimal_text n) = omega (arith, ap length (decimal_is n h), decimal_nonempty n h) in
    rw (le-leb 1 (length (decimal_text n)) b, le-leb (length (decimal_text n)) 20 a, decimal_graphic n) refl

word_parts : (most : ℕ) (t : List ℕ) → is_word most t ≡ true → ((1 ≤ length t) × (length t ≤ most)) × (list_all graphic t ≡ true)
word_parts most t h =
    let p = and_parts (leb 1 (length t) && leb (length t) most) (list_all graphic t) h in
    let q = and_parts (leb 1 (length t)) (leb (length t) most) p.0 in
    ((leb-true 1 (length t) q.0, leb-true (length t) most q.1), p.1)

pub word_name : (t : List ℕ) → is_word 20 t ≡ true → is_name t ≡ true
word_name t h =
    let p = word_parts 20 t h in
    rw (le-leb 1 (length t) p.0.0, le-leb (length t) 255 (omega (arith, p.0.1)), p.1) refl

pub whole_name : (t : List ℕ) → is_word 20 t ≡ true → is_name (codes "full_" ++ t) ≡ true
whole_name t h =
    let p = word_parts 20 t h in
    let a : length (codes "full_" ++ t) ≤ 255 = omega (arith, p.0.1) in
    rw (le-leb 1 (length (codes "full_" ++ t)) (omega arith), le-leb (length (codes "full_" ++ t)) 255 a, p.1) refl
