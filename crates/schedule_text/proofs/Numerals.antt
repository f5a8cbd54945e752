-- Numbers in decimal: what a numeral's bytes are, and that `decimal` writes it.
use Rattle.std.proofs.Common.{◌≡◌, ◌≢◌, ℕ, ◌^◌, ◌<◌, ◌≤◌, true, false, cond, ltb, not, eqb, List, [], ◌∷◌, length, get_or, Result, Ok, Err, IsTrue, refl, sym, ap, subst, ◌∙◌, arith, rules, inl, inr}
use Rattle.std.specs.Fmt.{decimal}
use Rattle.std.specs.List.{list_all}
use Rattle.std.specs.Str.Parse.{digits_value, ParsesUnsigned}
use Rattle.std.proofs.lemmas.Bool.{cases_lt, cases_eq, ltb-true}
use Rattle.std.proofs.lemmas.Bool.Decides.{nat_tests}
use Rattle.std.proofs.lemmas.Result.{OkIff-at_err}
use Rattle.std.proofs.lemmas.Str.Parse.{IsDigitsTest, IsNumeralModel, numerals_by_value, parse_digits}
use Rattle.std.proofs.lemmas.Fmt.{decimal-digits_value, digits_decimal, digits_value-decimal, decimal_nonempty, first_decimal, decimal_digit}
use Rattle.mon_bytes.proofs.Ascii.{both}
use Rattle.schedule_text.specs.declared.refusal.ScheduleKind.TheVariants as kind
use Rattle.mon_bytes.proofs.Fields.{chosen_ok, ok_is}
use Rattle.schedule_text.specs.Fields.{digit, is_numeral, within, number_of, rank_of}

pub tells_digits : IsDigitsTest (λ ds. IsTrue (list_all digit ds))
tells_digits = search rules

pub own : IsNumeralModel (λ ds. IsTrue (list_all digit ds)) (digits_value 10)
own = numerals_by_value _ tells_digits

pub digit_low : (b : ℕ) → IsTrue (digit b) → b < 128
digit_low b h = grind (arith, nat_tests)

pub numeral_digits : (f : List ℕ) → IsTrue (is_numeral f) → IsTrue (list_all digit f)
numeral_digits [] h = absurd cc
numeral_digits (c ∷ []) h = grind (arith, nat_tests)
numeral_digits (c ∷ d ∷ cs) h = (both (not (eqb c 48)) (list_all digit (c ∷ d ∷ cs)) h).1

pub numeral_long : (f : List ℕ) → IsTrue (is_numeral f) → 0 < length f
numeral_long [] h = absurd cc
numeral_long (c ∷ cs) h = omega arith

pub numeral_start : (f : List ℕ) → IsTrue (is_numeral f) → get_or f 0 0 ≡ 48 → length f ≡ 1
numeral_start [] h z = absurd cc
numeral_start (c ∷ []) h z = refl
numeral_start (c ∷ d ∷ cs) h z =
    let starts : IsTrue (not (eqb c 48)) = (both (not (eqb c 48)) (list_all digit (c ∷ d ∷ cs)) h).0 in
    absurd (grind (arith, nat_tests))

no_zero : (c : ℕ) → c ≢ 48 → eqb c 48 ≡ false
no_zero c ne = grind (arith, nat_tests)

pub is_numeral-by : (f : List ℕ) → IsTrue (list_all digit f) → 0 < length f → (get_or f 0 0 ≡ 48 → length f ≡ 1) → IsTrue (is_numeral f)
is_numeral-by [] all long start = absurd (omega arith)
is_numeral-by (c ∷ []) all long start = (both (digit c) true all).0
is_numeral-by (c ∷ d ∷ cs) all long start =
    elim (cases_eq c 48) [
      | inl e ↦ absurd (omega (arith, start e))
      | inr ne ↦ rw (no_zero c ne, all) refl
    ]

-- what `parse` says of a numeral, if it fails
pub too_great : {E : Type 0} (bs : List ℕ) (r : Result ℕ E) (e : E) → IsTrue (is_numeral bs) → ParsesUnsigned 64 10 bs r → r ≡ Err e → 2 ^ 64 ≤ digits_value 10 bs
too_great bs r e h p is =
    elim (cases_lt (digits_value 10 bs) (2 ^ 64)) [
      | inl lt ↦ absurd (OkIff-at_err r _ _ e (parse_digits own 64 bs r p (numeral_digits bs h)) is (numeral_long bs h, lt))
      | inr ge ↦ ge
    ]

pub within_most : (least most n : ℕ) → IsTrue (within least most n) → n ≤ most
within_most least most n h = grind (arith, nat_tests)

-- a numeral below 2 ^ 64 is a decimal
numeral_is : (f : List ℕ) → IsTrue (is_numeral f) → digits_value 10 f < 2 ^ 64 → f ≡ decimal (digits_value 10 f)
numeral_is f a small = sym (decimal-digits_value own f (numeral_digits f a) (numeral_long f a) (numeral_start f a) small)

pub number_takes : (least most : ℕ) (f : List ℕ) (n : ℕ) → most < 2 ^ 64 → number_of least most f ≡ Ok n → (f ≡ decimal n) × IsTrue (within least most n)
unfolding number_of
number_takes least most f n small is =
    let v = digits_value 10 f in
    let a = chosen_ok (is_numeral f) kind.Number (cond (within least most v) (Ok v) (Err kind.Number)) n is in
    let b = chosen_ok (within least most v) kind.Number (Ok v) n a.1 in
    let value = ok_is v n b.1 in
    let le : digits_value 10 f ≤ most = within_most least most v b.0 in
    (numeral_is f a.0 (omega arith) ∙ ap decimal value, subst (λ (k : ℕ). IsTrue (within least most k)) value b.0)

pub rank_takes : (n : ℕ) (f : List ℕ) (r : ℕ) → n < 2 ^ 64 → rank_of n f ≡ Ok r → (f ≡ decimal r) × IsTrue (ltb r n)
unfolding rank_of
rank_takes n f r small is =
    let v = digits_value 10 f in
    let a = chosen_ok (is_numeral f) kind.Number (cond (ltb v n) (Ok v) (Err kind.Rank)) r is in
    let b = chosen_ok (ltb v n) kind.Rank (Ok v) r a.1 in
    let value = ok_is v r b.1 in
    let lt : digits_value 10 f < n = ltb-true _ _ b.0 in
    (numeral_is f a.0 (omega arith) ∙ ap decimal value, subst (λ (k : ℕ). IsTrue (ltb k n)) value b.0)

-- a decimal begins with 0 only if it is 0
decimal_start : (n : ℕ) → n < 2 ^ 64 → get_or (decimal n) 0 0 ≡ 48 → length (decimal n) ≡ 1
decimal_start n small z =
    elim (cases_lt 0 n) [
      | inl lt ↦ absurd (omega (arith, first_decimal n lt small))
      | inr ge ↦ ap length (decimal_digit n (omega arith))
    ]

pub decimal_is_numeral : (n : ℕ) → n < 2 ^ 64 → IsTrue (is_numeral (decimal n))
decimal_is_numeral n small = is_numeral-by (decimal n) (digits_decimal own n small) (decimal_nonempty n small) (decimal_start n small)

pub number_again : (least most n : ℕ) → most < 2 ^ 64 → IsTrue (within least most n) → number_of least most (decimal n) ≡ Ok n
unfolding number_of
number_again least most n small fits =
    let le : n ≤ most = within_most least most n fits in
    let form = decimal_is_numeral n (omega arith) in
    let value = digits_value-decimal own n (omega arith) in
    rw (form, value, fits) refl

pub rank_again : (n r : ℕ) → n < 2 ^ 64 → IsTrue (ltb r n) → rank_of n (decimal r) ≡ Ok r
unfolding rank_of
rank_again n r small fits =
    let lt : r < n = ltb-true _ _ fits in
    let form = decimal_is_numeral r (omega arith) in
    let value = digits_value-decimal own r (omega arith) in
    rw (form, value, fits) refl
