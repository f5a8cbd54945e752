-- The entries that wait to be written.
use Rattle.std.specs.Prelude.{ℕ, ◌+◌, ◌-◌, ◌^◌, nat_le, min, Bool, List, [], ◌∷◌, ◌++◌, length, drop, if◌then◌else◌}
use Rattle.mon_record.specs.Entries.{gap, reading}

-- the most bytes that wait
abbrev pub MOST_WAITING : ℕ
MOST_WAITING = 262144

-- the bytes of entries in order, of which the first may be a part of one; and how many entries are missing after them
pub record TapeView : Type 0 where
  pub waiting : List ℕ
  pub lost : ℕ

abbrev pub empty : TapeView
empty = record { waiting = []; lost = 0 }

abbrev pub appended : List ℕ → TapeView → TapeView
appended bytes t = record t { waiting = t.waiting ++ bytes }

-- the first bytes were written
abbrev pub dropped : ℕ → TapeView → TapeView
dropped count t = record t { waiting = drop count t.waiting }

-- more entries are missing; the count saturates at the greatest 64-bit number
abbrev pub missed : ℕ → TapeView → TapeView
missed count t = record t { lost = min (t.lost + count) (2 ^ 64 - 1) }

-- there is room for an entry, and for the one before it that says how many are missing
abbrev pub fits : List ℕ → TapeView → Bool
fits x t = nat_le (length t.waiting + length (gap t.lost) + length x) MOST_WAITING

-- An entry is appended whole if it fits, and otherwise it is missing.
abbrev pub noted : List ℕ → TapeView → TapeView
noted x t =
    if fits x t then record { waiting = t.waiting ++ gap t.lost ++ x; lost = 0 }
    else missed 1 t

-- the readings of a clock, in order
abbrev pub read : List ℕ → TapeView → TapeView
read [] t = t
read (time ∷ times) t = read times (noted (reading time) t)
