-- How the one log grows.
use Rattle.std.specs.Prelude.{◌≡◌, ℕ, ◌≤◌, List, ◌++◌, length}

-- the new log is the old one with at most this many further entries
pub record GrowsBy (most : ℕ) (old new : List (List ℕ)) : Type 0 where
  pub more : List (List ℕ)
  pub is : new ≡ old ++ more
  pub few : length more ≤ most
