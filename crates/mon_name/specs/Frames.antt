-- A datagram in the frame of a tag.
use Rattle.std.specs.Prelude.{ℕ, ◌==◌, List, ◌∷◌, ◌++◌, Option, Some, None, Result, Ok, Err, if◌then◌else◌}
use Rattle.mon_bytes.specs.Reading.{Reading, number}
use Rattle.mon_bytes.specs.declared.cursor.Short.{Short}
use Rattle.mon_frag.specs.Pieces.{u64_bytes}
use Rattle.mon_name.specs.declared.frame.TheConstants.{FRAME}

-- the byte of a frame, the tag in eight bytes, and the datagram
abbrev pub framed : ℕ → List ℕ → List ℕ
framed tag datagram = FRAME ∷ u64_bytes tag ++ datagram

abbrev pub of_tag : ℕ → Result (ℕ × Reading) Short → Option (List ℕ)
of_tag tag (Ok found) = if found.0 == tag then Some found.1.rest else None
of_tag tag (Err e) = None

abbrev pub of_mark : ℕ → Result (ℕ × Reading) Short → Option (List ℕ)
of_mark tag (Ok mark) = if mark.0 == FRAME then of_tag tag (number 8 mark.1) else None
of_mark tag (Err e) = None

-- the datagram in the frame of this tag, if it is in one
unfoldable pub unframed : ℕ → List ℕ → Option (List ℕ)
unframed tag bytes = of_mark tag (number 1 (record { at = 0; rest = bytes }))
