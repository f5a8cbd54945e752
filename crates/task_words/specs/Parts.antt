-- Texts with a separator between them.
use Rattle.std.specs.Prelude.{ℕ, zero, suc, List, [], ◌∷◌, ◌++◌, Option, Some, None, Result, Ok, Err}
use Rattle.schedule_text.specs.declared.refusal.ScheduleKind.{ScheduleKind}
use Rattle.schedule_text.specs.declared.refusal.ScheduleKind.TheVariants as kind
use Rattle.schedule_text.specs.Fields.{◌>>=◌, cut, ended}

-- ---- their texts

abbrev pub joined : ℕ → List (List ℕ) → List ℕ
joined separator [] = []
joined separator (text ∷ []) = text
joined separator (text ∷ other ∷ texts) = text ++ separator ∷ joined separator (other ∷ texts)

-- ---- how this many of them are read, each in the same way

-- the next part; there is none after the last one
abbrev pub part : ℕ → Option (List ℕ) → Result (List ℕ × Option (List ℕ)) ScheduleKind
part separator None = Err kind.Word
part separator (Some bytes) = Ok (cut separator bytes)

-- the next part, read by `read`
unfoldable pub part_of : {A : Type 0} → ℕ → (List ℕ → Result A ScheduleKind) → Option (List ℕ) → Result (A × Option (List ℕ)) ScheduleKind
part_of separator read rest = do
  next ← part separator rest
  x ← read next.0
  Ok (x, next.1)

-- this many parts, and nothing after them
unfoldable pub parts_of : {A : Type 0} → ℕ → (List ℕ → Result A ScheduleKind) → ℕ → Option (List ℕ) → Result (List A) ScheduleKind
parts_of separator read zero rest = ended rest []
parts_of separator read (suc n) rest = do
  first ← part_of separator read rest
  others ← parts_of separator read n first.1
  Ok (first.0 ∷ others)
