-- Values of a message, and those of them that are new.
use Rattle.std.proofs.Common.{◌≡◌, ℕ, zero, suc, ◌-◌, ◌≤◌, List, [], ◌∷◌, length, length-drop, take, drop, min, sym, ap, ◌∙◌, arith, inl, inr}
use Rattle.std.specs.List.{AllByRecursion}
use Rattle.std.specs.Prelude.{sum_by}
use Rattle.std.proofs.lemmas.Bool.{cases_lt}
use Rattle.std.proofs.lemmas.List.{take_all, drop_all}
use Rattle.std.proofs.lemmas.List.Sums.{sum_by-cons}
use Rattle.mon_tx.specs.Text.{text, most}
use Rattle.mon_tx.specs.declared.op.Op.{Op}
use Rattle.mon_msg.specs.Protocol.Parts.{value_length}

pub all_drop : {A : Type 0} (P : A → Type 0) (n : ℕ) (xs : List A) → AllByRecursion P xs → AllByRecursion P (drop n xs)
all_drop P zero xs each = each
all_drop P (suc n) [] each = tt
all_drop P (suc n) (x ∷ xs) each = all_drop P n xs each.1

-- each value of a list that is short enough is short enough
pub all_short : (values : List (List Op)) → sum_by value_length values ≤ most → AllByRecursion (λ (ops : List Op). length (text ops) ≤ most) values
all_short [] h = tt
all_short (value ∷ values) h =
    (omega (arith, h, sum_by-cons value_length value values), all_short values (omega (arith, h, sum_by-cons value_length value values)))

-- the rest of a list, as a slice of it
pub rest_is : {A : Type 0} (k : ℕ) (xs : List A) → take (length xs - k) (drop k xs) ≡ drop k xs
rest_is k xs = take_all (length xs - k) (drop k xs) (omega (arith, length-drop k xs))

-- those after the known ones, which are no more than there are
pub same_news : {A : Type 0} (k n : ℕ) (xs : List A) → k ≡ min n (length xs) → drop k xs ≡ drop n xs
same_news k n xs h = elim (cases_lt n (length xs)) [
  | inl lt ↦ let e : k ≡ n = omega arith in ap (λ j. drop j xs) e
  | inr le ↦ let e : k ≡ length xs = omega arith in ap (λ j. drop j xs) e ∙ drop_all (length xs) xs (omega arith) ∙ sym (drop_all n xs le)
]
