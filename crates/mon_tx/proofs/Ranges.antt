-- Which keys a range of versions takes away.
use Rattle.std.proofs.Common.{◌≡◌, ℕ, ◌+◌, true, cond, ◌&&◌, List, [], ◌∷◌, map, get_or, leb, ltb, eqb, refl, sym, ap, ◌∙◌, ◌⊎◌, inl, inr, arith, codes, false}
use Rattle.std.proofs.lemmas.Bool.{cases_eq, le-leb, lt-ltb, eq-eqb, ne_eqb}
use Rattle.std.proofs.lemmas.Int.Digits.{all_below_base_digits_of, number_digits_of, digits_value_is}
use Rattle.std.proofs.lemmas.Str.{digit_value_digit}
use Rattle.std.specs.Char.{digit_value}
use Rattle.std.specs.Int.Digits.{digits_of, AllBelowBase, number_from_digits}
use Rattle.std.specs.List.{list_all}
use Rattle.std.specs.Str.Parse.{digits_value}
use Rattle.mon_tx.specs.declared.key.Key.{Key}
use Rattle.mon_tx.specs.declared.key.Key.TheVariants.{FirstCommitted, LastCommitted, LastPn, AcceptedPn, PendingV, PendingPn, FullLatest, ElectionEpoch, BootCount, InSync, Floor, Version, Full}
use Rattle.mon_tx.specs.Map.{is_digit, is_decimal, is_within}
use Rattle.mon_tx.specs.Keys.{decimal_text, key_text, covers}
use Rattle.mon_tx.proofs.Ties.{decimal_none, decimal_some}

digits_are : (ds : List ℕ) → AllBelowBase 10 ds → list_all is_digit (map (λ d. 48 + d) ds) ≡ true
digits_are [] below = refl
digits_are (d ∷ ds) below =
    let s = below.0 in
    rw (le-leb 48 (48 + d) (omega arith), le-leb (48 + d) 57 (omega arith)) (digits_are ds below.1)

values_back : (ds : List ℕ) → AllBelowBase 10 ds → map digit_value (map (λ d. 48 + d) ds) ≡ ds
values_back [] below = refl
values_back (d ∷ ds) below =
    let s = below.0 in
    let first : digit_value (48 + d) ≡ d = omega (arith, digit_value_digit (48 + d) (omega arith, omega arith)) in
    let others : map digit_value (map (λ e. 48 + e) ds) ≡ ds = values_back ds below.1 in
    cc

-- a decimal text is one without padding
pub decimal_is_decimal : (n : ℕ) → is_decimal (decimal_text n) ≡ true
unfolding decimal_text
decimal_is_decimal n = by (cases_eq n 0)
  where
    by : (n ≡ 0) ⊎ (n ≡ 0 → ⊥) → is_decimal (cond (eqb n 0) (48 ∷ []) (map (λ d. 48 + d) (digits_of 10 n))) ≡ true
    by (inl e) = rw (eq-eqb n 0 e) refl
    by (inr ne) =
        let padded = decimal_some n ne in
        let high : ltb 48 (get_or (map (λ d. 48 + d) (digits_of 10 n)) 0 0) ≡ true = lt-ltb _ _ (omega (arith, ap (λ (t : List ℕ). get_or t 0 0) padded.0, padded.1)) in
        rw (ne_eqb n 0 ne, digits_are (digits_of 10 n) (all_below_base_digits_of 10 n (omega arith)), high) refl

pub decimal_value : (n : ℕ) → digits_value 10 (decimal_text n) ≡ n
decimal_value n = by (cases_eq n 0)
  where
    by : (n ≡ 0) ⊎ (n ≡ 0 → ⊥) → digits_value 10 (decimal_text n) ≡ n
    by (inl e) = ap (λ k. digits_value 10 (decimal_text k)) e ∙ ap (digits_value 10) decimal_none ∙ sym e
    by (inr ne) =
        ap (digits_value 10) (decimal_some n ne).0
        ∙ digits_value_is 10 (map (λ d. 48 + d) (digits_of 10 n))
        ∙ ap (number_from_digits 10) (values_back (digits_of 10 n) (all_below_base_digits_of 10 n (omega arith)))
        ∙ number_digits_of 10 n (omega arith)

pub decimal_within : (from to v : ℕ) → is_within from to (decimal_text v) ≡ (leb from v && ltb v to)
unfolding is_within
decimal_within from to v = rw (decimal_is_decimal v, decimal_value v) refl

pub key_within : (from to : ℕ) (key : Key) → is_within from to (key_text key) ≡ covers from to key
unfolding is_within
key_within from to FirstCommitted = refl
key_within from to LastCommitted = refl
key_within from to LastPn = refl
key_within from to AcceptedPn = refl
key_within from to PendingV = refl
key_within from to PendingPn = refl
key_within from to FullLatest = refl
key_within from to ElectionEpoch = refl
key_within from to BootCount = refl
key_within from to InSync = refl
key_within from to Floor = refl
key_within from to (Version v) = rw (decimal_is_decimal v, decimal_value v) refl
key_within from to (Full v) = refl

-- the keys 99 and 100 are in the range from 99 up to 101, and 1000 and first_committed are not
pub four_keys : map (is_within 99 101) (codes "99" ∷ codes "100" ∷ codes "1000" ∷ codes "first_committed" ∷ []) ≡ true ∷ true ∷ false ∷ false ∷ []
unfolding is_within
four_keys = refl
