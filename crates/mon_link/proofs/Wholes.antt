-- What a whole reading of a source leaves.
use Rattle.std.proofs.Common.{◌≡◌, ℕ, ◌≤◌, ◌<◌, List, length, Option, Some, None, is_some, inl, inr, arith}
use Rattle.std.specs.Io.KnownBytes.{IsAtEnd}
use Rattle.mon_link.specs.Whole.{ConsumesPrefix, ReadsWhole}

-- fewer bytes than the most that is read were read to the end
pub at_end : (most : ℕ) (old new : Option (List ℕ)) (bytes : List ℕ) → is_some new ≡ is_some old → length bytes < most → ReadsWhole most old new bytes → IsAtEnd new
at_end most None None bytes observed short read = tt
at_end most None (Some ys) bytes observed short read = absurd cc
at_end most (Some xs) None bytes observed short read = tt
at_end most (Some xs) (Some ys) bytes observed short read = elim read.1 [
  | inl e ↦ e
  | inr long ↦ absurd (omega (arith, long))
]

-- what was read whole is a prefix of what was left, and no longer than the most that is read
pub front_of : (most : ℕ) (old new : Option (List ℕ)) (bytes : List ℕ) → length bytes ≤ most → ReadsWhole most old new bytes → ConsumesPrefix most old new
front_of most None new bytes short read = (bytes, tt, short)
front_of most (Some xs) None bytes short read = absurd read
front_of most (Some xs) (Some ys) bytes short read = (bytes, read.0, short)
