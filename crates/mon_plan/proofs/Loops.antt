-- What loops keep, one item more.
use Rattle.std.proofs.Common.{◌≡◌, ℕ, zero, suc, ◌+◌, ◌<◌, Bool, true, false, cond, List, [], ◌∷◌, ◌++◌, length, take, map, filter, get_or, sym, ap, ◌∙◌, add-one, arith, append-nil}
use Rattle.std.specs.List.{range_with_len}
use Rattle.std.proofs.lemmas.List.{take_more, map-append}
use Rattle.std.proofs.lemmas.List.Elements.{filter-append}

pub map-next : {A : Type 0} {B : Type 0} (xs : List A) (i : ℕ) (x : A) → i < length xs → x ≡ get_or xs i x → (f : A → B) → map f (take (i + 1) xs) ≡ map f (take i xs) ++ f x ∷ []
map-next xs i x lt is f = ap (map f) (take_more xs i x lt ∙ ap (λ y. take i xs ++ y ∷ []) (sym is)) ∙ map-append f (take i xs) (x ∷ [])

range-last : (a n j : ℕ) → a + n ≡ j → range_with_len a (suc n) ≡ range_with_len a n ++ j ∷ []
range-last a zero j e = let same : a ≡ j = omega arith in ap (λ k. k ∷ []) same
range-last a (suc n) j e = ap (λ l. a ∷ l) (range-last (a + 1) n j (omega arith))

-- one rank more
ranks-next : (p : ℕ → Bool) (r : ℕ) → filter p (range_with_len 0 (r + 1)) ≡ filter p (range_with_len 0 r) ++ cond (p r) (r ∷ []) []
ranks-next p r = ap (filter p) (ap (range_with_len 0) (add-one r) ∙ range-last 0 r r (omega arith)) ∙ filter-append p (range_with_len 0 r) (r ∷ [])

pub ranks-skips : (p : ℕ → Bool) (r : ℕ) → p r ≡ false → filter p (range_with_len 0 (r + 1)) ≡ filter p (range_with_len 0 r)
ranks-skips p r h = ranks-next p r ∙ ap (λ b. filter p (range_with_len 0 r) ++ cond b (r ∷ []) []) h ∙ append-nil (filter p (range_with_len 0 r))

pub ranks-takes : (p : ℕ → Bool) (r : ℕ) → p r ≡ true → filter p (range_with_len 0 (r + 1)) ≡ filter p (range_with_len 0 r) ++ r ∷ []
ranks-takes p r h = ranks-next p r ∙ ap (λ b. filter p (range_with_len 0 r) ++ cond b (r ∷ []) []) h
