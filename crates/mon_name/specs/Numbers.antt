-- The number of a life, and pieces under it.
use Rattle.std.specs.Prelude.{ℕ, ◌%◌, ◌^◌, List, ◌++◌, take, drop, if◌then◌else◌}
use Rattle.std.specs.Int.{w64, from_le_bytes}
use Rattle.mon_frag.specs.Headers.{is_piece}
use Rattle.mon_frag.specs.Pieces.{u64_bytes}

-- the lowest 62 bits of the number in eight bytes
abbrev pub life_of : List ℕ → ℕ
life_of bytes = from_le_bytes w64 bytes % 2 ^ 62

-- in a piece, the eight bytes of the sender's boot are replaced
abbrev pub renumbered : ℕ → List ℕ → List ℕ
renumbered life datagram =
    if is_piece datagram then take 4 datagram ++ u64_bytes life ++ drop 12 datagram else datagram
