-- What was checked of each item in a list, one by one, holds of all of them.
use Rattle.std.proofs.Common.{◌≡◌, ℕ, ◌+◌, ◌≤◌, ◌<◌, List, length, take, get_or, subst}
use Rattle.std.proofs.lemmas.List.Elements.{All-more, recursion_from_All}
use Rattle.std.proofs.lemmas.List.{take_all}
use Rattle.std.specs.List.{All, AllByRecursion}

module _ {X : Type 0} (P : X → Type 0) (xs : List X) (i : ℕ) where
  pub one_more : (x : X) → i < length xs → x ≡ get_or xs i x → All P (take i xs) → P x → All P (take (i + 1) xs)
  one_more x within is before h = All-more P xs i x within before (subst P is h)

  pub all_seen : length xs ≤ i → All P (take i xs) → AllByRecursion P xs
  all_seen past h = recursion_from_All P xs (subst (All P) (take_all i xs past) h)
