-- The kind of a message, by the first two bytes of a datagram.
use Rattle.std.specs.Prelude.{ℕ, ◌==◌, ◌&&◌, List, [], ◌∷◌, nat_le, Option, Some, None, if◌then◌else◌}
use Rattle.mon_wire.specs.Message.Whole.{kind_of}
use Rattle.mon_wire.specs.declared.kind.Kind.{Kind}
use Rattle.mon_watch.specs.declared.kinds.TheConstants.{FORMAT}

abbrev pub kind_at : (byte : ℕ) → Option Kind
kind_at byte = if nat_le 1 byte && nat_le byte 25 then Some (kind_of byte) else None

-- the byte 01 and that of the kind
abbrev pub kind_named : List ℕ → Option Kind
kind_named [] = None
kind_named (format ∷ []) = None
kind_named (format ∷ byte ∷ bytes) = if format == FORMAT then kind_at byte else None
