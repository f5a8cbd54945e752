-- A range of versions that is taken away one number after the other.
use Rattle.std.proofs.Common.{◌≡◌, ℕ, append-nil, append_assoc, ◌+◌, ◌*◌, ◌/◌, ◌%◌, ◌-◌, ◌^◌, ◌≤◌, ◌<◌, max, min, Bool, true, false, cond, not, ◌&&◌, ◌||◌, List, [], ◌∷◌, ◌++◌, Some, None, length, map, leb, ltb, eqb, refl, sym, ap, subst, ◌∙◌, ◌⊎◌, inl, inr, arith}
use Rattle.std.proofs.lemmas.Bool.{and_parts, cases_eq, leb-true, eq-eqb, ne_eqb}
use Rattle.std.proofs.lemmas.Bool.Decides.{nat_tests}
use Rattle.std.proofs.lemmas.Int.Digits.{digits_of_step, digits_value_is, number_after_ge}
use Rattle.std.proofs.lemmas.List.Filters.{sum_by-filter_both}
use Rattle.std.proofs.lemmas.Str.{digit_value_digit}
use Rattle.std.specs.Char.{digit_value}
use Rattle.std.specs.Int.Digits.{digits_of, AllBelowBase, number_from_digits_after}
use Rattle.std.specs.List.{list_all}
use Rattle.std.specs.Ordering.{eq_by_cmp}
use Rattle.std.specs.Str.Parse.{digits_value}
use Rattle.std.specs.FinMap.Entries.{where_key, find, is_sorted}
use Rattle.mon_tx.specs.Map.{is_digit, is_decimal, is_within}
use Rattle.mon_tx.specs.Keys.{decimal_text}
use Rattle.mon_tx.proofs.Ties.{same_text, apart, decimal_none, decimal_some, decimal_text_injective}
use Rattle.mon_tx.proofs.Ranges.{decimal_is_decimal, decimal_within}
use Rattle.mon_kv.specs.Tree.{bytes_cmp}
use Rattle.mon_kv.specs.Areas.{weight_of}
use Rattle.mon_kv.proofs.Forks.{without}
use Rattle.mon_kv.proofs.Sums.{counted, sum_by-without}

-- the digits of a number that is continued by digits
digits_after : (n : ℕ) (ds : List ℕ) → 0 < n → AllBelowBase 10 ds → digits_of 10 (number_from_digits_after 10 n ds) ≡ digits_of 10 n ++ ds
digits_after n [] h b = sym (append-nil (digits_of 10 n))
digits_after n (d ∷ ds) h b =
    let below = b.0 in
    let q : (n * 10 + d) / 10 ≡ n = omega (arith, below) in
    let r : (n * 10 + d) % 10 ≡ d = omega (arith, below) in
    let step : digits_of 10 (n * 10 + d) ≡ digits_of 10 n ++ d ∷ [] = digits_of_step 10 (n * 10 + d) (omega arith) (omega arith) ∙ rw (q, r) refl in
    digits_after (n * 10 + d) ds (omega arith) b.1 ∙ ap (λ t. t ++ ds) step ∙ append_assoc (digits_of 10 n) (d ∷ []) ds

digit : (c : ℕ) → is_digit c ≡ true → (digit_value c + 48 ≡ c) × (digit_value c < 10)
digit c h =
    let p = and_parts (leb 48 c) (leb c 57) h in
    let low = leb-true 48 c p.0 in
    let high = leb-true c 57 p.1 in
    let v = digit_value_digit c (low, high) in
    (v, omega (arith, v, low, high))

digits_back : (cs : List ℕ) → list_all is_digit cs ≡ true → (map (λ d. 48 + d) (map digit_value cs) ≡ cs) × AllBelowBase 10 (map digit_value cs)
digits_back [] h = (refl, tt)
digits_back (c ∷ cs) h =
    let p = and_parts (is_digit c) (list_all is_digit cs) h in
    let first = digit c p.0 in
    let others = digits_back cs p.1 in
    let same : 48 + digit_value c ≡ c = omega (arith, first.0) in
    let rest = others.0 in
    (cc, (first.1, others.1))

-- a key that is a decimal number without padding is the decimal text of its number
pub decimal_back : (key : List ℕ) → is_decimal key ≡ true → decimal_text (digits_value 10 key) ≡ key
decimal_back [] h = absurd cc
decimal_back (c ∷ cs) h = by (cases_eq (digit_value c) 0)
  where
    parts : (list_all is_digit (c ∷ cs) ≡ true) × ((ltb 48 c || eqb (length (c ∷ cs)) 1) ≡ true)
    parts = and_parts (list_all is_digit (c ∷ cs)) (ltb 48 c || eqb (length (c ∷ cs)) 1) h

    each : (is_digit c ≡ true) × (list_all is_digit cs ≡ true)
    each = and_parts (is_digit c) (list_all is_digit cs) parts.0

    back : (map (λ d. 48 + d) (map digit_value cs) ≡ cs) × AllBelowBase 10 (map digit_value cs)
    back = digits_back cs each.1

    value : digits_value 10 (c ∷ cs) ≡ number_from_digits_after 10 (digit_value c) (map digit_value cs)
    value = let none : 0 * 10 + digit_value c ≡ digit_value c = omega arith in digits_value_is 10 (c ∷ cs) ∙ ap (λ n. number_from_digits_after 10 n (map digit_value cs)) none

    alone : (rest : List ℕ) → digit_value c ≡ 0 → (ltb 48 c || eqb (length (c ∷ rest)) 1) ≡ true → decimal_text (digits_value 10 (c ∷ rest)) ≡ c ∷ rest
    alone [] z e = let is : c ≡ 48 = omega (arith, (digit c each.0).0, z) in rw (is) decimal_none
    alone (d ∷ rest) z e =
        let is : c ≡ 48 = omega (arith, (digit c each.0).0, z) in
        let low : ltb 48 c ≡ false = grind (arith, nat_tests, is) in
        let long : eqb (length (c ∷ d ∷ rest)) 1 ≡ false = grind (arith, nat_tests) in
        let none : false ≡ true = sym (rw (low, long) refl) ∙ e in
        absurd cc

    by : (digit_value c ≡ 0) ⊎ (digit_value c ≡ 0 → ⊥) → decimal_text (digits_value 10 (c ∷ cs)) ≡ c ∷ cs
    by (inl z) = alone cs z parts.1
    by (inr ne) =
        let d = digit c each.0 in
        let made = digits_after (digit_value c) (map digit_value cs) (omega arith) back.1 in
        let below = d.1 in
        let q : digit_value c / 10 ≡ 0 = omega (arith, below) in
        let r : digit_value c % 10 ≡ digit_value c = omega (arith, below) in
        let one : digits_of 10 (digit_value c) ≡ digit_value c ∷ [] = digits_of_step 10 (digit_value c) (omega arith) (omega arith) ∙ rw (q, r) refl in
        let same : 48 + digit_value c ≡ c = omega (arith, d.0) in
        let grown = number_after_ge 10 (digit_value c) (map digit_value cs) (omega arith) in
        ap decimal_text value
        ∙ (decimal_some (number_from_digits_after 10 (digit_value c) (map digit_value cs)) (λ z. omega arith)).0
        ∙ ap (map (λ k. 48 + k)) (made ∙ ap (λ t. t ++ map digit_value cs) one)
        ∙ rw (same, back.0) refl

-- the size of one key's entry
module _ (n : ℕ) (key : List ℕ) (old new : List (List ℕ × List ℕ)) (sorted : is_sorted bytes_cmp old ≡ true) (is : new ≡ without key old) where
  pub frees_some : (value : List ℕ) → find bytes_cmp key old ≡ Some value → weight_of n new + (n + length key + length value + 16) ≡ weight_of n old
  frees_some value there =
      ap (λ es. weight_of n es + (n + length key + length value + 16)) is
      ∙ ap (λ o. weight_of n (without key old) + counted (λ e. n + length e.0 + length e.1 + 16) key o) (sym there)
      ∙ sum_by-without (λ e. n + length e.0 + length e.1 + 16) key old sorted

  pub frees_none : find bytes_cmp key old ≡ None → weight_of n new + 0 ≡ weight_of n old
  frees_none there =
      ap (λ es. weight_of n es + 0) is
      ∙ ap (λ o. weight_of n (without key old) + counted (λ e. n + length e.0 + length e.1 + 16) key o) (sym there)
      ∙ sum_by-without (λ e. n + length e.0 + length e.1 + 16) key old sorted

module _ {V : Type 0} where
  where_both : (p q : List ℕ → Bool) (es : List (List ℕ × V)) → where_key bytes_cmp q (where_key bytes_cmp p es) ≡ where_key bytes_cmp (λ x. p x && q x) es
  where_both p q [] = refl
  where_both p q (e ∷ es) = by (p e.0) (q e.0) refl refl (where_both p q es)
    where
      by : (a b : Bool) → p e.0 ≡ a → q e.0 ≡ b → where_key bytes_cmp q (where_key bytes_cmp p es) ≡ where_key bytes_cmp (λ x. p x && q x) es
          → where_key bytes_cmp q (cond a (e ∷ where_key bytes_cmp p es) (where_key bytes_cmp p es)) ≡ cond (a && q e.0) (e ∷ where_key bytes_cmp (λ x. p x && q x) es) (where_key bytes_cmp (λ x. p x && q x) es)
      by true true l r h = rw r (ap (λ t. e ∷ t) h)
      by true false l r h = rw r h
      by false b l r h = h

  where_same : (p q : List ℕ → Bool) (es : List (List ℕ × V)) → ((x : List ℕ) → p x ≡ q x) → where_key bytes_cmp p es ≡ where_key bytes_cmp q es
  where_same p q [] h = refl
  where_same p q (e ∷ es) h = rw (h e.0, where_same p q es h) refl

  where_all : (p : List ℕ → Bool) (es : List (List ℕ × V)) → ((x : List ℕ) → p x ≡ true) → where_key bytes_cmp p es ≡ es
  where_all p [] h = refl
  where_all p (e ∷ es) h = rw (h e.0, where_all p es h) refl

-- whether a number is in a range, with one more number in it
within_more : (from v n : ℕ) → from ≤ v → not (leb from n && ltb n (v + 1)) ≡ (not (leb from n && ltb n v) && not (eqb v n))
within_more from v n h = grind (arith, nat_tests)

within_none : (from n : ℕ) → (leb from n && ltb n from) ≡ false
within_none from n = grind (arith, nat_tests)

within_end : (from to n : ℕ) → (leb from n && ltb n (max from to)) ≡ (leb from n && ltb n to)
within_end from to n = grind (arith, nat_tests)

abbrev stays : ℕ → ℕ → List ℕ → Bool
stays from to key = not (is_within from to key)

at_decimal : (from v : ℕ) (key : List ℕ) (n : ℕ) → from ≤ v → decimal_text n ≡ key → stays from (v + 1) key ≡ (stays from v key && not (eq_by_cmp bytes_cmp (decimal_text v) key))
at_decimal from v key n h is =
    subst (λ k. stays from (v + 1) k ≡ (stays from v k && not (eq_by_cmp bytes_cmp (decimal_text v) k))) is
    (rw (decimal_within from (v + 1) n, decimal_within from v n, ties v n) (within_more from v n h))
  where
    ties : (a b : ℕ) → eq_by_cmp bytes_cmp (decimal_text a) (decimal_text b) ≡ eqb a b
    ties a b = by (cases_eq a b)
      where
        by : (a ≡ b) ⊎ (a ≡ b → ⊥) → eq_by_cmp bytes_cmp (decimal_text a) (decimal_text b) ≡ eqb a b
        by (inl e) = rw e (same_text (decimal_text b) ∙ sym (eq-eqb b b refl))
        by (inr ne) = apart _ _ (λ e. ne (decimal_text_injective a b e)) ∙ sym (ne_eqb a b ne)

-- what stays without one more number of the range
stays_more : (from v : ℕ) (key : List ℕ) → from ≤ v → stays from (v + 1) key ≡ (stays from v key && not (eq_by_cmp bytes_cmp (decimal_text v) key))
unfolding is_within
stays_more from v key h = by (is_decimal key) refl
  where
    by : (b : Bool) → is_decimal key ≡ b → stays from (v + 1) key ≡ (stays from v key && not (eq_by_cmp bytes_cmp (decimal_text v) key))
    by true e = at_decimal from v key (digits_value 10 key) h (decimal_back key e)
    by false e =
        let other : eq_by_cmp bytes_cmp (decimal_text v) key ≡ false =
        apart _ _ (λ (is : decimal_text v ≡ key). let both : false ≡ true = sym e ∙ ap is_decimal (sym is) ∙ decimal_is_decimal v in cc) in
        rw (e, other) refl

module _ {V : Type 0} where
  -- the entries without a range, and without one more number
  pub range_more : (from v : ℕ) (es : List (List ℕ × V)) → from ≤ v → where_key bytes_cmp (λ x. not (eq_by_cmp bytes_cmp (decimal_text v) x)) (where_key bytes_cmp (stays from v) es) ≡ where_key bytes_cmp (stays from (v + 1)) es
  range_more from v es h =
      where_both (stays from v) (λ x. not (eq_by_cmp bytes_cmp (decimal_text v) x)) es
      ∙ where_same (λ x. stays from v x && not (eq_by_cmp bytes_cmp (decimal_text v) x)) (stays from (v + 1)) es (λ x. sym (stays_more from v x h))

  pub range_none : (from : ℕ) (es : List (List ℕ × V)) → where_key bytes_cmp (stays from from) es ≡ es
  unfolding is_within
  range_none from es = where_all (stays from from) es (λ x. none (is_decimal x) (digits_value 10 x))
    where
      none : (b : Bool) (n : ℕ) → not (b && leb from n && ltb n from) ≡ true
      none true n = ap not (within_none from n)
      none false n = refl

  pub range_end : (from v to : ℕ) (es : List (List ℕ × V)) → v ≡ max from to → where_key bytes_cmp (stays from v) es ≡ where_key bytes_cmp (stays from to) es
  unfolding is_within
  range_end from v to es e = where_same (stays from v) (stays from to) es (λ x. rw e (same (is_decimal x) (digits_value 10 x)))
    where
      same : (b : Bool) (n : ℕ) → not (b && leb from n && ltb n (max from to)) ≡ not (b && leb from n && ltb n to)
      same true n = ap not (within_end from to n)
      same false n = refl

fewer : (n : ℕ) (p : List ℕ → Bool) (es : List (List ℕ × List ℕ)) → weight_of n (where_key bytes_cmp p es) ≤ weight_of n es
fewer n p es = let h = sum_by-filter_both (λ (e : List ℕ × List ℕ). p e.0) (λ e. not (p e.0)) (λ e. refl) (λ e. n + length e.0 + length e.1 + 16) es in omega (arith, h)

-- the size of all entries less the size of those that stay
pub frees_all : (n : ℕ) (p : List ℕ → Bool) (old new : List (List ℕ × List ℕ)) (before after : ℕ) → weight_of n old < 2 ^ 64 → new ≡ where_key bytes_cmp p old
    → before ≡ min (weight_of n old) (2 ^ 64 - 1) → after ≡ min (weight_of n new) (2 ^ 64 - 1) → weight_of n new + (before - after) ≡ weight_of n old
frees_all n p old new before after fits is b a =
    let less : weight_of n new ≤ weight_of n old = subst (λ es. weight_of n es ≤ weight_of n old) (sym is) (fewer n p old) in
    omega (arith, less, b, a)
