-- The fields of a store's file, from left to right. The first faulty one is named by its first byte.
use Rattle.std.specs.Prelude.{ℕ, ◌^◌, false, List, Result, Ok, Err, nat_lt, nat_le, ◌==◌, if◌then◌else◌, codes}
use Rattle.std.specs.List.{list_all}
use Rattle.std.specs.Str.{bytes_eq}
use Rattle.mon_bytes.specs.declared.cursor.Short.{Short}
use Rattle.mon_bytes.specs.Reading.{Reading, number, next_bytes}
use Rattle.mon_bytes.specs.Answers as answers
use Rattle.mon_bytes.specs.Answers.{at_fault}
pub use Rattle.mon_bytes.specs.Answers.{◌>>=◌}
use Rattle.mon_journal.specs.declared.stop.JournalStop.{JournalStop}
use Rattle.mon_journal.specs.declared.stop.JournalStop.TheVariants.{NotAStore}
use Rattle.mon_journal.specs.declared.journal.Form.{Form}
use Rattle.mon_journal.specs.declared.journal.Form.TheVariants.{First, Second}

-- a field that is cut short is at fault
abbrev pub whole : {A : Type 0} → Result A Short → Result A JournalStop
whole read = at_fault (λ at. NotAStore at) read

abbrev pub first_word : List ℕ
first_word = codes "CEPHMON1"

abbrev pub second_word : List ℕ
second_word = codes "CEPHMON2"

-- the eight bytes of either header
unfoldable pub form_at : Reading → Result (Form × Reading) JournalStop
form_at c = do
  word ← whole (next_bytes 8 c)
  if bytes_eq word.0 second_word then Ok (Second, word.1) else (if bytes_eq word.0 first_word then Ok (First, word.1) else Err (NotAStore c.at))

-- whose store it is: a rank, and a number of monitors above it and of at most 15
pub record Owner : Type 0 where
  pub rank : ℕ
  pub monitors : ℕ

unfoldable pub owner_at : Reading → Result (Owner × Reading) JournalStop
owner_at c = do
  rank ← whole (number 1 c)
  monitors ← whole (number 1 rank.1)
  if nat_lt rank.0 monitors.0 then (if nat_le monitors.0 15 then Ok (record { rank = rank.0; monitors = monitors.0 }, monitors.1) else Err (NotAStore rank.1.at)) else Err (NotAStore c.at)

-- this many zero bytes
unfoldable pub zeros_at : ℕ → Reading → Result (List ℕ × Reading) JournalStop
zeros_at n c = do
  zeros ← whole (next_bytes n c)
  if list_all (λ b. b == 0) zeros.0 then Ok zeros else Err (NotAStore c.at)

-- a number from 1 to 2 ^ 62
unfoldable pub generation_at : Reading → Result (ℕ × Reading) JournalStop
generation_at c = do
  generation ← whole (number 8 c)
  if nat_le 1 generation.0 then (if nat_le generation.0 (2 ^ 62) then Ok generation else Err (NotAStore c.at)) else Err (NotAStore c.at)

-- a length, and a payload of this many bytes
unfoldable pub payload_at : Reading → Result (List ℕ × Reading) JournalStop
payload_at c = do
  length ← whole (number 4 c)
  whole (next_bytes length.0 length.1)

-- The result of a call that takes no memory, and the bytes that it leaves unread, are what reading gives.
abbrev pub Reads : {X Y : Type 0} → (X → Y) → Result X JournalStop → Reading → Result (Y × Reading) JournalStop → Type 0
Reads view result new read = answers.Reads (λ e. false) view result new read
