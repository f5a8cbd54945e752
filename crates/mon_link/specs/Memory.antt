-- What a source and a sink in memory are, and what each of their calls does to them.
use Rattle.std.specs.Prelude.{◌≡◌, ◌==◌, ℕ, min, Bool, true, false, List, ◌++◌, length, take, drop, Result, Ok, Err, if◌then◌else◌}
use Rattle.std.specs.List.{list_any}
use Rattle.mon_types.specs.declared.names.Stop.{Stop}
use Rattle.mon_types.specs.declared.names.Stop.TheVariants.{Failed, OutOfMemory}
use Rattle.mon_types.specs.Faults.{risen}

-- the bytes that are left, the numbers of the calls that fail, and how many calls and faults there were
pub record MemoryIn : Type 0 where
  pub left : List ℕ
  pub failing : List ℕ
  pub calls : ℕ
  pub faults : ℕ

-- the bytes that were written, the numbers of the calls that fail, and how many calls and faults there were
pub record MemoryOut : Type 0 where
  pub written : List ℕ
  pub failing : List ℕ
  pub calls : ℕ
  pub faults : ℕ

-- whether the next call fails: the calls are numbered from 1
abbrev pub fails_next : List ℕ → ℕ → Bool
fails_next failing calls = list_any (λ n. n == risen calls) failing

-- as many bytes as are left, or as there is room for
abbrev pub given : MemoryIn → List ℕ → ℕ
given s into = min (length s.left) (length into)

abbrev pub read_answer : MemoryIn → List ℕ → Result ℕ Stop
read_answer s into = if fails_next s.failing s.calls then Err Failed else Ok (given s into)

-- the source after a read
abbrev pub read_leaves : MemoryIn → List ℕ → MemoryIn
read_leaves s into =
    if fails_next s.failing s.calls
    then record { left = s.left; failing = s.failing; calls = risen s.calls; faults = risen s.faults }
    else record { left = drop (given s into) s.left; failing = s.failing; calls = risen s.calls; faults = s.faults }

-- the room after a read
abbrev pub read_puts : MemoryIn → List ℕ → List ℕ
read_puts s into =
    if fails_next s.failing s.calls
    then into
    else take (given s into) s.left ++ drop (given s into) into

-- What a write to a sink in memory left, by its result. It fails if and only if its number is one of those that fail.
abbrev pub WritesMemory : MemoryOut → MemoryOut → List ℕ → Result ℕ Stop → Type 0
WritesMemory old new bytes (Ok n) =
    (fails_next old.failing old.calls ≡ false) × (n ≡ length bytes)
    × (new ≡ record { written = old.written ++ bytes; failing = old.failing; calls = risen old.calls; faults = old.faults })
WritesMemory old new bytes (Err Failed) =
    (fails_next old.failing old.calls ≡ true)
    × (new ≡ record { written = old.written; failing = old.failing; calls = risen old.calls; faults = risen old.faults })
WritesMemory old new bytes (Err OutOfMemory) =
    (fails_next old.failing old.calls ≡ false)
    × (new ≡ record { written = old.written; failing = old.failing; calls = risen old.calls; faults = old.faults })
