-- The fields of a transaction's text, and the results of calls that read.
use Rattle.std.specs.Prelude.{ℕ, ◌+◌, ◌^◌, Bool, true, false, List, length, Result, Ok, Err, nat_lt, ◌==◌, if◌then◌else◌}
use Rattle.std.specs.List.{prefix_len}
use Rattle.mon_bytes.specs.declared.cursor.Short.{Short}
use Rattle.mon_bytes.specs.Reading.{Reading, number, next_bytes}
use Rattle.mon_bytes.specs.Answers as answers
use Rattle.mon_bytes.specs.Answers.{at_fault}
pub use Rattle.mon_bytes.specs.Answers.{◌>>=◌}
use Rattle.mon_bytes.specs.Texts.{graphic}
use Rattle.mon_tx.specs.declared.refusal.TxRefused.{TxRefused}
use Rattle.mon_tx.specs.declared.refusal.TxRefused.TheVariants as refused

-- whether memory ran out
abbrev pub no_memory : TxRefused → Bool
no_memory refused.OutOfMemory = true
no_memory e = false

-- a field that doesn't fit is cut
abbrev pub cut : {A : Type 0} → Result A Short → Result A TxRefused
cut read = at_fault (λ at. refused.Cut at) read

-- The result of a call that takes no memory, and the place of its cursor after `Ok`, are those of the definition.
abbrev pub Scans : {X Y : Type 0} → (X → Y) → Result X TxRefused → Reading → Result (Y × Reading) TxRefused → Type 0
Scans view result new read = answers.Reads (λ e. false) view result new read

-- The result of a call, and the place of its cursor after `Ok`, are those of the definition, unless memory ran out.
abbrev pub Reads : {X Y : Type 0} → (X → Y) → Result X TxRefused → Reading → Result (Y × Reading) TxRefused → Type 0
Reads view result new read = answers.Reads no_memory view result new read

abbrev pub Gives : {X Y : Type 0} → (X → Y) → Result X TxRefused → Result Y TxRefused → Type 0
Gives view result read = answers.Gives no_memory view result read

-- how many bytes are before the first that isn't graphic
abbrev pub graphic_prefix_len : List ℕ → ℕ
graphic_prefix_len bytes = prefix_len graphic bytes

-- a length of 1 to `limit`, and that many graphic bytes
unfoldable pub word_at : ℕ → Reading → Result (List ℕ × Reading) TxRefused
word_at limit c = do
  n ← cut (number 1 c)
  if nat_lt n.0 1 then Err (refused.Name c.at) else (if nat_lt limit n.0 then Err (refused.Name c.at) else (do
    bytes ← cut (next_bytes n.0 n.1)
    if nat_lt (graphic_prefix_len bytes.0) (length bytes.0) then Err (refused.Name (n.1.at + graphic_prefix_len bytes.0)) else Ok bytes))

-- a length, and that many bytes
unfoldable pub value_at : Reading → Result (List ℕ × Reading) TxRefused
value_at c = do
  n ← cut (number 4 c)
  cut (next_bytes n.0 n.1)

-- a number of at most 2 ^ 62
unfoldable pub version_at : Reading → Result (ℕ × Reading) TxRefused
version_at c = do
  n ← cut (number 8 c)
  if nat_lt (2 ^ 62) n.0 then Err (refused.Range c.at) else Ok n

-- the first format or the second
unfoldable pub format_at : Reading → Result (ℕ × Reading) TxRefused
format_at c = do
  format ← cut (number 1 c)
  if format.0 == 1 then Ok format else (if format.0 == 2 then Ok format else Err (refused.Kind c.at))
