-- If `parse` fails on digits, their number doesn't fit.
use Rattle.std.proofs.Common.{◌≡◌, ◌≢◌, ℕ, ◌^◌, ◌≤◌, List, length, Result, Err, IsTrue, inl, inr, arith, rules}
use Rattle.std.specs.List.{list_all}
use Rattle.std.specs.Str.Parse.{digits_value, ParsesUnsigned}
use Rattle.std.proofs.lemmas.Bool.{cases_lt}
use Rattle.std.proofs.lemmas.Result.{OkIff-at_err}
use Rattle.std.proofs.lemmas.Str.Parse.{IsDigitsTest, IsNumeralModel, numerals_by_value, parse_digits}
use Rattle.mon_tx.specs.Map.{is_digit}

tells_digits : IsDigitsTest (λ ds. IsTrue (list_all is_digit ds))
tells_digits = search rules

own : IsNumeralModel (λ ds. IsTrue (list_all is_digit ds)) (digits_value 10)
own = numerals_by_value _ tells_digits

pub too_great : {E : Type 0} (ds : List ℕ) (r : Result ℕ E) (e : E) → IsTrue (list_all is_digit ds) → ParsesUnsigned 64 10 ds r → r ≡ Err e → length ds ≢ 0 → 2 ^ 64 ≤ digits_value 10 ds
too_great ds r e h p is long =
    elim (cases_lt (digits_value 10 ds) (2 ^ 64)) [
      | inl lt ↦ absurd (OkIff-at_err r _ _ e (parse_digits own 64 ds r p h) is (omega (arith, long), lt))
      | inr ge ↦ ge
    ]
