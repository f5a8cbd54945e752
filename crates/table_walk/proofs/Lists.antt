-- Facts of each item of a list, and items that a list has.
pub use Rattle.log_model.proofs.Lists.{all_map, all_append, all_both}
use Rattle.std.proofs.Common.{Bool, IfSome, List, [], drop, inl, inr, map, subst, suc, sym, zero, ℕ, ◌++◌, ◌∷◌, ◌≡◌, ◌⊎◌}
use Rattle.std.proofs.lemmas.Bool.{cond_both}
use Rattle.std.specs.List.{AllByRecursion, filter, flat_map}
use Rattle.std.specs.Prelude.{slice_get}

pub all_of : {A B : Type 0} (P : B → Type 0) (f : A → B) → ((x : A) → P (f x)) → (xs : List A) → AllByRecursion P (map f xs)
all_of P f h [] = tt
all_of P f h (x ∷ xs) = (h x, all_of P f h xs)

pub all_filter : {A : Type 0} (P : A → Type 0) (f : A → Bool) (xs : List A) → AllByRecursion P xs → AllByRecursion P (filter f xs)
all_filter P f [] h = tt
all_filter P f (x ∷ xs) h = cond_both (f x) (x ∷ filter f xs) (filter f xs) (AllByRecursion P) (λ _. (h.0, all_filter P f xs h.1)) (λ _. all_filter P f xs h.1)

pub all_flat_map : {A B : Type 0} (P : B → Type 0) (f : A → List B) → ((x : A) → AllByRecursion P (f x)) → (xs : List A) → AllByRecursion P (flat_map f xs)
all_flat_map P f h [] = tt
all_flat_map P f h (x ∷ xs) = all_append P (f x) (flat_map f xs) (h x) (all_flat_map P f h xs)

pub all_drop : {A : Type 0} (P : A → Type 0) (k : ℕ) (xs : List A) → AllByRecursion P xs → AllByRecursion P (drop k xs)
all_drop P zero [] h = tt
all_drop P zero (x ∷ xs) h = h
all_drop P (suc k) [] h = tt
all_drop P (suc k) (x ∷ xs) h = all_drop P k xs h.1

pub all_get : {A : Type 0} (P : A → Type 0) (xs : List A) (k : ℕ) → AllByRecursion P xs → IfSome (slice_get xs k) P
all_get P [] k h = tt
all_get P (x ∷ xs) zero h = h.0
all_get P (x ∷ xs) (suc k) h = all_get P xs k h.1

-- the item is in the list
abbrev pub Among : {A : Type 0} → A → List A → Type 0
Among x [] = ⊥
Among x (y ∷ ys) = (x ≡ y) ⊎ Among x ys

pub all_among : {A : Type 0} (P : A → Type 0) (x : A) (xs : List A) → Among x xs → AllByRecursion P xs → P x
all_among P x [] a k = absurd a
all_among P x (y ∷ ys) a k = elim a [ inl e ↦ subst P (sym e) k.0 | inr o ↦ all_among P x ys o k.1 ]

pub among_append : {A : Type 0} (x : A) (xs ys : List A) → Among x (xs ++ ys) → Among x xs ⊎ Among x ys
among_append x [] ys a = inr a
among_append x (y ∷ xs) ys (inl e) = inl (inl e)
among_append x (y ∷ xs) ys (inr o) = elim (among_append x xs ys o) [ inl l ↦ inl (inr l) | inr r ↦ inr r ]

pub among_left : {A : Type 0} (x : A) (xs ys : List A) → Among x xs → Among x (xs ++ ys)
among_left x [] ys a = absurd a
among_left x (y ∷ xs) ys (inl e) = inl e
among_left x (y ∷ xs) ys (inr o) = inr (among_left x xs ys o)

pub among_right : {A : Type 0} (x : A) (xs ys : List A) → Among x ys → Among x (xs ++ ys)
among_right x [] ys a = a
among_right x (y ∷ xs) ys a = inr (among_right x xs ys a)
