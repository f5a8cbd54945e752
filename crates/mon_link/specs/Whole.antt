-- What a whole reading and a whole writing are.
use Rattle.std.specs.Prelude.{◌≡◌, ℕ, ◌≤◌, ◌⊎◌, List, [], ◌++◌, length, take, Option, Some, None, ⊤}
use Rattle.std.specs.Io.KnownBytes.{Appends, Consumes}

-- If it is known what the source has left, the bytes are all of it, or the most that is read.
abbrev pub ReadsWhole : ℕ → Option (List ℕ) → Option (List ℕ) → List ℕ → Type 0
ReadsWhole most None new bytes = ⊤
ReadsWhole most (Some xs) None bytes = ⊥
ReadsWhole most (Some xs) (Some ys) bytes = (xs ≡ bytes ++ ys) × ((ys ≡ []) ⊎ (length bytes ≡ most))

-- What was taken from the source is a prefix of what it had left, and no longer than the most that is read.
abbrev pub ConsumesPrefix : ℕ → Option (List ℕ) → Option (List ℕ) → Type 0
ConsumesPrefix most old new = (bytes : List ℕ) × Consumes old new bytes × (length bytes ≤ most)

-- What went out is a prefix of the bytes.
abbrev pub AppendsPrefix : Option (List ℕ) → Option (List ℕ) → List ℕ → Type 0
AppendsPrefix old new bytes = (n : ℕ) × Appends old new (take n bytes)
