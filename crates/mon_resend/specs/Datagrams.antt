-- Which part of its message a datagram is.
use Rattle.std.specs.Prelude.{ℕ, ◌-◌, ◌==◌, ◌&&◌, not, nat_le, nat_lt, List, length, drop, Option, Some, None, Result, Ok, Err, if◌then◌else◌}
use Rattle.mon_decode.specs.declared.header.Header.{Header}
use Rattle.mon_decode.specs.Headers.{header_of}
use Rattle.mon_frag.specs.declared.cutting.TheConstants.{DATAGRAM}
use Rattle.mon_frag.specs.declared.header.Header.{Header as PieceHeader}
use Rattle.mon_frag.specs.declared.header.TheConstants.{PART, PIECE_HEADER}
use Rattle.mon_frag.specs.declared.refused.FragRefused.{FragRefused}
use Rattle.mon_frag.specs.Headers.{is_piece, header_of as piece_header_of}
use Rattle.mon_resend.specs.declared.datagram.Part.{Part}
use Rattle.mon_resend.specs.declared.datagram.Part.TheVariants.{Whole, First, Later}

abbrev pub whole_of : Option Header → Option Part
whole_of (Some h) = Some (Whole h)
whole_of None = None

abbrev pub first_of : ℕ → Option Header → Option Part
first_of total (Some h) = Some (First h total)
first_of total None = None

abbrev pub piece_of : List ℕ → Result PieceHeader FragRefused → Option Part
piece_of datagram (Ok p) =
    if p.place == 0 then first_of p.total (header_of (drop PIECE_HEADER datagram))
    else Some (Later (record { boot = p.boot; seq = p.seq; is_last = nat_le (p.total - p.place) PART }))
piece_of datagram (Err e) = None

abbrev pub piece_in : List ℕ → Option Part
piece_in datagram = piece_of datagram (piece_header_of datagram)

-- A datagram that doesn't begin as a piece is a whole message. `None` if its header can't be read.
abbrev pub part_of : List ℕ → Option Part
part_of datagram = if not (nat_lt DATAGRAM (length datagram)) && not (is_piece datagram) then whole_of (header_of datagram) else piece_in datagram
