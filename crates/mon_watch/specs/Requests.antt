-- Requests for what a monitor knows of itself, and their answers.
use Rattle.std.specs.Prelude.{ℕ, List, [], ◌∷◌, ◌++◌, Bool, false, Result, Ok, Err, ◌==◌, if◌then◌else◌}
use Rattle.byteorder.specs.Endian.{little_bytes}
use Rattle.mon_bytes.specs.declared.command.MapRefused.{MapRefused}
use Rattle.mon_bytes.specs.declared.command.MapRefused.TheVariants.{Form}
use Rattle.mon_bytes.specs.Reading.{Reading, number}
use Rattle.mon_bytes.specs.Format.{Reader}
use Rattle.mon_bytes.specs.Forms.{◌>>=◌, ended, fitted}
use Rattle.mon_watch.specs.declared.request.TheConstants.{MARK}

-- a datagram of the watch begins with the byte 05
abbrev pub is_watch : List ℕ → Bool
is_watch [] = false
is_watch (b ∷ bytes) = b == MARK

unfoldable pub mark_at : Reader MapRefused ℕ
mark_at c = do
  mark ← fitted (number 1 c)
  if mark.0 == MARK then Ok mark else Err (Form c.at)

-- the byte 05, and a number in eight bytes, the lowest first
unfoldable pub asked_at : Reading → Result ℕ MapRefused
asked_at c = do
  mark ← mark_at c
  id ← fitted (number 8 mark.1)
  ended id

-- the number of the request that all of the bytes encode, or the first byte of the first faulty field
abbrev pub request_of : List ℕ → Result ℕ MapRefused
request_of bytes = asked_at (record { at = 0; rest = bytes })

-- the datagram of an answer: that of its request, and a text
abbrev pub answer_text : (id : ℕ) → List ℕ → List ℕ
answer_text id text = (MARK ∷ []) ++ little_bytes 8 id ++ text
