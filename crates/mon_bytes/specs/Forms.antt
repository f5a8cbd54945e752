-- Reading what the services keep. Each faulty field is named by its first byte.
use Rattle.std.specs.Prelude.{ℕ, ◌++◌, Bool, true, false, List, length, Result, Ok, Err, ◌==◌, if◌then◌else◌}
use Rattle.std.specs.Str.{is_utf8}
use Rattle.byteorder.specs.Endian.{little_bytes}
use Rattle.mon_bytes.specs.declared.cursor.Short.{Short}
use Rattle.mon_bytes.specs.declared.command.MapRefused.{MapRefused}
use Rattle.mon_bytes.specs.declared.command.MapRefused.TheVariants as refused
use Rattle.mon_bytes.specs.Reading.{Reading, number, next_bytes}
use Rattle.mon_bytes.specs.Answers as answers
use Rattle.mon_bytes.specs.Answers.{at_fault}
use Rattle.mon_bytes.specs.Format.{Format}
pub use Rattle.mon_bytes.specs.Answers.{◌>>=◌}

-- whether memory ran out
abbrev pub no_memory : MapRefused → Bool
no_memory (refused.Form at) = false
no_memory refused.OutOfMemory = true

-- a field that doesn't fit is at fault
abbrev pub fitted : {A : Type 0} → Result A Short → Result A MapRefused
fitted read = at_fault (λ at. refused.Form at) read

-- The result of a call, and the place of its cursor after `Ok`, are those of the definition, unless memory ran out.
abbrev pub Fails : {Y : Type 0} → MapRefused → Result Y MapRefused → Type 0
Fails e read = answers.Fails no_memory e read

abbrev pub Reads : {X Y : Type 0} → (X → Y) → Result X MapRefused → Reading → Result (Y × Reading) MapRefused → Type 0
Reads view result new read = answers.Reads no_memory view result new read

abbrev pub Gives : {X Y : Type 0} → (X → Y) → Result X MapRefused → Result Y MapRefused → Type 0
Gives view result read = answers.Gives no_memory view result read

-- a number in four bytes, the lowest first
unfoldable pub u32_bytes : ℕ → List ℕ
u32_bytes n = little_bytes 4 n

-- a text after its length
abbrev pub text_bytes : List ℕ → List ℕ
text_bytes text = u32_bytes (length text) ++ text

-- a length, and UTF-8 of this many bytes
unfoldable pub text_at : Reading → Result (List ℕ × Reading) MapRefused
text_at c = do
  n ← fitted (number 4 c)
  bytes ← fitted (next_bytes n.0 n.1)
  if is_utf8 bytes.0 then Ok bytes else Err (refused.Form n.1.at)

-- what was read, if nothing is left; the first byte too many is at fault
unfoldable pub ended : {A : Type 0} → A × Reading → Result A MapRefused
ended x = if length x.1.rest == 0 then Ok x.0 else Err (refused.Form x.1.at)

-- what all of the bytes encode
unfoldable pub whole : {A : Type 0} → Format MapRefused A → List ℕ → Result A MapRefused
whole f bytes = f.read (record { at = 0; rest = bytes }) >>= λ x. ended x
