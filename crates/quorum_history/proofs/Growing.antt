-- Lists that only grow.
use Rattle.quorum_walk.proofs.Lists.{Among}
use Rattle.std.proofs.Common.{List, inl, inr, subst, sym, ◌∷◌, ◌⊎◌}

-- all items of the old list are in the new one, and each further item is `New`
pub record Grows {A : Type 0} (New : A → Type 0) (old new : List A) : Type 0 where
  pub keeps : (x : A) → Among x old → Among x new
  pub added : (x : A) → Among x new → Among x old ⊎ New x

pub grows_not : {A : Type 0} (New : A → Type 0) (xs : List A) → Grows New xs xs
grows_not New xs = record { keeps = λ x a. a; added = λ x a. inl a }

-- by one item, at the front
pub grows_by : {A : Type 0} (New : A → Type 0) (x : A) (xs : List A) → New x → Grows New xs (x ∷ xs)
grows_by New x xs n = record { keeps = λ y a. inr a; added = λ y a. elim a [ inl e ↦ inr (subst New (sym e) n) | inr o ↦ inl o ] }

pub grows_more : {A : Type 0} (New : A → Type 0) (xs ys zs : List A) → Grows New xs ys → Grows New ys zs → Grows New xs zs
grows_more New xs ys zs a b = record { keeps = λ x k. b.keeps x (a.keeps x k); added = λ x k. elim (b.added x k) [ inl o ↦ a.added x o | inr w ↦ inr w ] }

-- the same with another property, which each further item also has
pub grows_as : {A : Type 0} (New Other : A → Type 0) (xs ys : List A) → ((x : A) → New x → Other x) → Grows New xs ys → Grows Other xs ys
grows_as New Other xs ys f a = record { keeps = a.keeps; added = λ x k. elim (a.added x k) [ inl o ↦ inl o | inr w ↦ inr (f x w) ] }
