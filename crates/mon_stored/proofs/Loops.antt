-- What loops keep, one item more.
use Rattle.std.proofs.Common.{◌≡◌, ℕ, zero, suc, ◌+◌, ◌≤◌, ◌<◌, Bool, true, false, ◌||◌, cond, List, [], ◌∷◌, ◌++◌, length, take, filter, get_or, refl, sym, ap, ◌∙◌, arith, append-nil}
use Rattle.std.specs.List.{list_any}
use Rattle.std.proofs.lemmas.List.{take_more, take_all}
use Rattle.std.proofs.lemmas.List.Elements.{filter-append}
use Rattle.std.proofs.lemmas.List.Folds.{list_any-append}

module _ {A : Type 0} (xs : List A) (i : ℕ) (x : A) (lt : i < length xs) (is : x ≡ get_or xs i x) where
  taken : take (i + 1) xs ≡ take i xs ++ x ∷ []
  taken = take_more xs i x lt ∙ ap (λ y. take i xs ++ y ∷ []) (sym is)

  filter-next : (p : A → Bool) → filter p (take (i + 1) xs) ≡ filter p (take i xs) ++ filter p (x ∷ [])
  filter-next p = ap (filter p) taken ∙ filter-append p (take i xs) (x ∷ [])

  pub filter-skips : (p : A → Bool) → p x ≡ false → filter p (take (i + 1) xs) ≡ filter p (take i xs)
  filter-skips p h = filter-next p ∙ ap (λ b. filter p (take i xs) ++ cond b (x ∷ []) []) h ∙ append-nil (filter p (take i xs))

  pub filter-takes : (p : A → Bool) → p x ≡ true → filter p (take (i + 1) xs) ≡ filter p (take i xs) ++ x ∷ []
  filter-takes p h = filter-next p ∙ ap (λ b. filter p (take i xs) ++ cond b (x ∷ []) []) h

  -- none so far passes
  pub any-next : (p : A → Bool) → list_any p (take i xs) ≡ false → false ≡ p x → list_any p (take (i + 1) xs) ≡ false
  any-next p so_far h = ap (list_any p) taken ∙ list_any-append p (take i xs) (x ∷ []) ∙ (λ j. so_far j || (sym h j || false))

or_true : (b : Bool) → true ≡ (b || true)
or_true true = refl
or_true false = refl

pub any-there : {A : Type 0} (p : A → Bool) (xs : List A) (i : ℕ) (x : A) → i < length xs → x ≡ get_or xs i x → true ≡ p x → true ≡ list_any p xs
any-there p [] i x lt is h = absurd (omega arith)
any-there p (y ∷ xs) zero x lt is h = ap (λ b. b || list_any p xs) (h ∙ ap p is)
any-there p (y ∷ xs) (suc i) x lt is h = or_true (p y) ∙ ap (λ b. p y || b) (any-there p xs i x (omega arith) is h)

pub any-none : {A : Type 0} (p : A → Bool) (xs : List A) (i : ℕ) → list_any p (take i xs) ≡ false → length xs ≤ i → false ≡ list_any p xs
any-none p xs i so_far past = sym so_far ∙ ap (list_any p) (take_all i xs past)
