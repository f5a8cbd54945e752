-- Formats of messages: those of mon_bytes, over the refusals of messages.
use Rattle.std.specs.Prelude.{ℕ, Bool, true, false, List, Result}
use Rattle.mon_bytes.specs.declared.cursor.Short.{Short}
use Rattle.mon_bytes.specs.Reading.{Reading}
use Rattle.mon_bytes.specs.Answers as answers
use Rattle.mon_bytes.specs.Format as format
use Rattle.mon_bytes.specs.Format.{Faults}
use Rattle.mon_wire.specs.declared.refusal.MsgKind.TheVariants as fault
use Rattle.mon_wire.specs.declared.refusal.MsgRefused.{MsgRefused}
use Rattle.mon_wire.specs.declared.refusal.MsgRefused.TheVariants as refused
pub use Rattle.mon_bytes.specs.Answers.{◌>>=◌}
pub use Rattle.mon_bytes.specs.Format.{dependent, ◌⊗◌, seen_as, as_parts, Encoding, encoding, variant, choice}
unfoldable pub use Rattle.mon_bytes.specs.Format.{items, u16_bytes}

-- whether memory ran out
abbrev pub no_memory : MsgRefused → Bool
no_memory refused.OutOfMemory = true
no_memory (refused.At _ _) = false

abbrev pub faults : Faults MsgRefused
faults = record { cut = λ at. refused.At at fault.Cut; value = λ at. refused.At at fault.Value }

-- a field that doesn't fit is cut
abbrev pub cut : {A : Type 0} → Result A Short → Result A MsgRefused
cut read = answers.at_fault faults.cut read

-- The result of a call, and the place of its cursor after `Ok`, are those of the definition, unless memory ran out.
abbrev pub Fails : {Y : Type 0} → MsgRefused → Result Y MsgRefused → Type 0
Fails e read = answers.Fails no_memory e read

abbrev pub Reads : {X Y : Type 0} → (X → Y) → Result X MsgRefused → Reading → Result (Y × Reading) MsgRefused → Type 0
Reads view result new read = answers.Reads no_memory view result new read

abbrev pub Gives : {X Y : Type 0} → (X → Y) → Result X MsgRefused → Result Y MsgRefused → Type 0
Gives view result read = answers.Gives no_memory view result read

abbrev pub Reader : Type 0 → Type 0
Reader A = format.Reader MsgRefused A

abbrev pub Format : Type 0 → Type 1
Format A = format.Format MsgRefused A

-- no bytes
abbrev pub nothing : Format (Unit {0})
nothing = format.nothing

-- how many values there are, and the values
abbrev pub list : {A : Type 0} → Format A → Format (List A)
list f = format.list faults f

-- a list that isn't empty
abbrev pub some : {A : Type 0} → Format A → Format (List A)
some f = format.some faults f

-- by the kind that was read at that place
abbrev pub chosen : {B : Type 0} → List (ℕ × Reader B) → ℕ → ℕ → Reader B
chosen vs at kind = format.chosen faults vs at kind

abbrev pub tagged : {B : Type 0} → List (ℕ × Reader B) → Reader B
tagged vs = format.tagged faults vs
