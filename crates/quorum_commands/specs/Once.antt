-- That each version of the log is the value of a request of its own.
use Rattle.std.specs.Prelude.{◌≡◌, ℕ, ◌<◌, List, [], ◌∷◌, length, Some, slice_get}
use Rattle.quorum_model.specs.Agree.{IsAsked}
use Rattle.quorum_model.specs.World.{World, Asked}

-- Version v + 1 of the log is the value of the command of request k, counted from 0, over the versions before it.
-- Whatever else was asked doesn't matter.
pub record IsOf (n : ℕ) (asked : List Asked) (log : List (List ℕ)) (v k : ℕ) : Type 0 where
  pub by : Asked
  pub at : slice_get asked k ≡ Some by
  pub made : IsAsked n (by ∷ []) log v

-- Every version in `now` is the value of some request's command, and no two versions are of one request. The versions
-- that `before` has already are of requests made by then. World `before` is an earlier one of the same run.
pub record CommittedOnce (n : ℕ) (before now : World) : Type 0 where
  pub request : (v : ℕ) → v < length now.log → ℕ
  pub is : (v : ℕ) (within : v < length now.log) → IsOf n now.asked now.log v (request v within)
  pub once : (u v : ℕ) (low : u < length now.log) (high : v < length now.log) → request u low ≡ request v high → u ≡ v
  pub earlier : (v : ℕ) (within : v < length now.log) → v < length before.log → request v within < length before.asked
