-- How a log grows.
use Rattle.std.specs.Prelude.{◌≡◌, ℕ, List, ◌++◌}

-- a log begins with another one
pub record Extends (log prefix : List (List ℕ)) : Type 0 where
  pub more : List (List ℕ)
  pub is : log ≡ prefix ++ more
