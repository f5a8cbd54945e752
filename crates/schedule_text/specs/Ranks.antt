-- Sets of ranks in text: in ascending order, with commas between them.
use Rattle.std.specs.Prelude.{ℕ, zero, suc, Bool, true, false, ◌&&◌, List, [], ◌∷◌, ◌++◌, Option, Some, None, Result, decimal, nat_lt, if◌then◌else◌}
use Rattle.std.specs.Str.{bytes_eq}
use Rattle.mon_types.specs.Ranks.{has}
use Rattle.schedule_text.specs.declared.refusal.ScheduleKind.{ScheduleKind}
use Rattle.schedule_text.specs.Fields.{cut, ended}

-- what follows a separator
abbrev pub separated : ℕ → Option (List ℕ) → List ℕ
separated separator None = []
separated separator (Some rest) = separator ∷ rest

-- an equals sign before the first rank, and a comma before each other
abbrev pub separator : Bool → ℕ
separator true = 61
separator false = 44

-- the ranks of the set among `count` ranks from `rank` on, if there is one
abbrev pub ranks_from : ℕ → ℕ → List Bool → Option (List ℕ)
ranks_from zero rank set = None
ranks_from (suc count) rank set =
    if has set rank then Some (decimal rank ++ separated 44 (ranks_from count (suc rank) set)) else ranks_from count (suc rank) set

unfoldable pub ranks_text : List Bool → Option (List ℕ)
ranks_text set = ranks_from 15 0 set

-- ---- which sets have a text

-- of `count` ranks from `rank` on, which of them are below n and in the set
abbrev pub flags_below : ℕ → ℕ → ℕ → List Bool → List Bool
flags_below n zero rank set = []
flags_below n (suc count) rank set = (nat_lt rank n && has set rank) ∷ flags_below n count (suc rank) set

-- the ranks of the set that are below n
unfoldable pub below : ℕ → List Bool → List Bool
below n set = flags_below n 15 0 set

-- ---- how they are read

-- whether this rank comes next
abbrev pub is_next : ℕ → Option (List ℕ) → Bool
is_next rank None = false
is_next rank (Some bytes) = bytes_eq (cut 44 bytes).0 (decimal rank)

abbrev pub after_next : Option (List ℕ) → Option (List ℕ)
after_next None = None
after_next (Some bytes) = (cut 44 bytes).1

-- which of `count` ranks from `rank` on the text names in order, each below n; and the rest of the text
abbrev pub flags_at : ℕ → ℕ → ℕ → Option (List ℕ) → List Bool × Option (List ℕ)
flags_at n zero rank rest = ([], rest)
flags_at n (suc count) rank rest =
    if nat_lt rank n && is_next rank rest then (true ∷ (flags_at n count (suc rank) (after_next rest)).0, (flags_at n count (suc rank) (after_next rest)).1)
    else (false ∷ (flags_at n count (suc rank) rest).0, (flags_at n count (suc rank) rest).1)

-- the set of the ranks below n that all of the text names
unfoldable pub set_of : ℕ → Option (List ℕ) → Result (List Bool) ScheduleKind
set_of n rest = ended (flags_at n 15 0 rest).1 (flags_at n 15 0 rest).0
