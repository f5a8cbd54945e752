-- How the header of a piece is read.
use Rattle.std.specs.Prelude.{ℕ, suc, ◌-◌, ◌%◌, ◌^◌, ◌==◌, nat_le, nat_lt, min, ◌||◌, not, Bool, false, List, [], ◌∷◌, length, drop, Result, Ok, Err, if◌then◌else◌}
use Rattle.mon_bytes.specs.declared.cursor.Short.{Short}
use Rattle.mon_bytes.specs.declared.limits.TheConstants.{MOST_MESSAGE}
use Rattle.mon_bytes.specs.Reading.{Reading, number}
use Rattle.mon_bytes.specs.Answers.{◌>>=◌, at_fault}
use Rattle.mon_frag.specs.declared.cutting.TheConstants.{DATAGRAM}
use Rattle.mon_frag.specs.declared.header.Header.{Header}
use Rattle.mon_frag.specs.declared.header.TheConstants.{PART, PIECE_HEADER, PIECE}
use Rattle.mon_frag.specs.declared.refused.FragRefused.{FragRefused}
use Rattle.mon_frag.specs.declared.refused.FragRefused.TheVariants.{Cut, Form}

-- whether a datagram is a piece: it begins with the byte 02, with which no message begins
abbrev pub is_piece : List ℕ → Bool
is_piece [] = false
is_piece (b ∷ bytes) = b == PIECE

-- a field that doesn't fit
abbrev pub fitted : {A : Type 0} → Result A Short → Result A FragRefused
fitted read = at_fault (λ at. Cut at) read

-- the fields, one after the other
unfoldable pub fields_at : Reading → Result Header FragRefused
fields_at c = do
  mark ← fitted (number 1 c)
  zero_1 ← fitted (number 1 mark.1)
  zero_2 ← fitted (number 1 zero_1.1)
  zero_3 ← fitted (number 1 zero_2.1)
  boot ← fitted (number 8 zero_3.1)
  seq ← fitted (number 8 boot.1)
  total ← fitted (number 4 seq.1)
  place ← fitted (number 4 total.1)
  Ok (record { zero_1 = zero_1.0; zero_2 = zero_2.0; zero_3 = zero_3.0; boot = boot.0; seq = seq.0; total = total.0; place = place.0 })

abbrev pub fields_of : List ℕ → Result Header FragRefused
fields_of datagram = fields_at (record { at = 0; rest = datagram })

-- the fields, if each of them, from left to right, has its form and as many bytes follow as have to
abbrev pub formed : ℕ → Header → Result Header FragRefused
formed count h =
    if not (h.zero_1 == 0) then Err (Form 1)
    else if not (h.zero_2 == 0) then Err (Form 2)
    else if not (h.zero_3 == 0) then Err (Form 3)
    else if nat_lt (2 ^ 62) h.boot then Err (Form 4)
    else if nat_lt (2 ^ 62) h.seq then Err (Form 12)
    else if nat_lt h.total (suc DATAGRAM) || nat_lt MOST_MESSAGE h.total then Err (Form 20)
    else if not (h.place % PART == 0) || nat_le h.total h.place then Err (Form 24)
    else if not (count == min PART (h.total - h.place)) then Err (Form 28)
    else Ok h

abbrev pub header_of : List ℕ → Result Header FragRefused
header_of datagram = fields_of datagram >>= λ h. formed (length (drop PIECE_HEADER datagram)) h
