-- How a message is cut into datagrams.
use Rattle.std.specs.Prelude.{ℕ, ◌*◌, nat_le, List, [], ◌∷◌, ◌++◌, length, map, take, drop, if◌then◌else◌}
use Rattle.std.specs.List.{range_with_len}
use Rattle.std.specs.Int.{div_ceil}
use Rattle.byteorder.specs.Endian.{little_bytes}
use Rattle.mon_bytes.specs.Forms.{u32_bytes}
use Rattle.mon_frag.specs.declared.cutting.TheConstants.{DATAGRAM}
use Rattle.mon_frag.specs.declared.header.TheConstants.{PART, PIECE}

-- a number in eight bytes, the lowest first
unfoldable pub u64_bytes : ℕ → List ℕ
u64_bytes n = little_bytes 8 n

-- how many pieces a message of this many bytes has
abbrev pub piece_count : ℕ → ℕ
piece_count total = div_ceil total PART

-- the bytes of a message from an offset on: as many as a piece has, or the rest
abbrev pub part_at : List ℕ → ℕ → List ℕ
part_at message place = take PART (drop place message)

-- the header before them
abbrev pub header : ℕ → ℕ → ℕ → ℕ → List ℕ
header boot seq total place = PIECE ∷ 0 ∷ 0 ∷ 0 ∷ u64_bytes boot ++ u64_bytes seq ++ u32_bytes total ++ u32_bytes place

abbrev pub piece : List ℕ → ℕ → ℕ → ℕ → List ℕ
piece message boot seq place = header boot seq (length message) place ++ part_at message place

-- all pieces of a message, in order
abbrev pub cut_up : List ℕ → ℕ → ℕ → List (List ℕ)
cut_up message boot seq = map (λ k. piece message boot seq (PART * k)) (range_with_len 0 (piece_count (length message)))

-- the datagrams of a message
abbrev pub pieces_of : List ℕ → ℕ → ℕ → List (List ℕ)
pieces_of message boot seq =
    if nat_le (length message) DATAGRAM
    then message ∷ []
    else cut_up message boot seq
