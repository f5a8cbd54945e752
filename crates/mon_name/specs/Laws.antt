-- The laws of frames and numbers.
use Rattle.std.specs.Prelude.{◌≡◌, ◌<◌, ◌^◌, ℕ, List, map, true, false, Some, None, Ok}
use Rattle.mon_frag.specs.Headers.{is_piece, header_of}
use Rattle.mon_frag.specs.Pieces.{pieces_of}
use Rattle.mon_frag.specs.declared.header.Header.{Header}
use Rattle.mon_name.specs.Frames.{framed, unframed}
use Rattle.mon_name.specs.Numbers.{renumbered}

abbrev pub FrameComesOff : Type 0
FrameComesOff = (tag : ℕ) (datagram : List ℕ) → tag < 2 ^ 64 → unframed tag (framed tag datagram) ≡ Some datagram

abbrev pub TagsApart : Type 0
TagsApart =
    (tag other : ℕ) (datagram : List ℕ) → tag < 2 ^ 64 → (tag ≡ other → ⊥) → unframed other (framed tag datagram) ≡ None

abbrev pub PiecesRenumbered : Type 0
PiecesRenumbered =
    (message : List ℕ) (boot life seq : ℕ) → is_piece message ≡ false
    → map (renumbered life) (pieces_of message boot seq) ≡ pieces_of message life seq

-- these bytes are a piece, and this is read of its header
abbrev pub IsPiece : List ℕ → Header → Type 0
IsPiece bytes h = (is_piece bytes ≡ true) × (header_of bytes ≡ Ok h)

-- Two lives send these pieces, of whatever they were given. If the lives have different numbers, the pieces differ in
-- the number of the life or in the seq.
abbrev pub LivesApart : Type 0
LivesApart =
    (life other : ℕ) (a b : List ℕ) (h k : Header) → life < 2 ^ 64 → other < 2 ^ 64 → (life ≡ other → ⊥)
    → IsPiece (renumbered life a) h → IsPiece (renumbered other b) k → h.boot ≡ k.boot → h.seq ≡ k.seq → ⊥
