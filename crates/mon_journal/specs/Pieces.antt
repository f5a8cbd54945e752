-- A file on a disk, read a piece at a time.
use Rattle.std.specs.Prelude.{◌≡◌, ℕ, List, [], length, take, drop, Option, IfSome}
use Rattle.mon_types.specs.declared.names.Stop.{Stop}
use Rattle.mon_bytes.specs.Reading.{Reading}
use Rattle.mon_disk.specs.Images.{images}
use Rattle.mon_disk.specs.Calls.{DiskState, Called}

-- Bytes of a file, the place of the first of them, and the file's length.
pub record PieceState : Type 0 where
  pub end : ℕ
  pub at : ℕ
  pub bytes : List ℕ

-- The disk holds these bytes at that place, if its contents can be seen. The file's length is the disk's known length.
pub record IsPieceOf (d : DiskState) (piece : PieceState) : Type 0 where
  pub known : d.known ≡ piece.end
  pub long : IfSome d.content.seen (λ file. piece.end ≡ length file)
  pub part : IfSome d.content.seen (λ file. piece.bytes ≡ take (length piece.bytes) (drop piece.at file))

-- What a call that only reads leaves: no write and no sync was made, the disk holds what it held, and a crash leaves nothing new.
pub record OnlyReads (stop : Option Stop) (old new : DiskState) : Type 0 where
  pub call : Called [] (images old.content) stop old new
  pub seen : new.content.seen ≡ old.content.seen

-- what is left of a file from a place on
abbrev pub left_at : ℕ → List ℕ → Reading
left_at at file = record { at = at; rest = drop at file }
