-- Each datagram of a message that is sent again is kept, or it is counted that memory was refused for it.
use Rattle.std.specs.Prelude.{◌≡◌, ℕ, Bool, true, false, ◌&&◌, [], ◌∷◌, ◌++◌, ◌⊎◌, length}
use Rattle.mon_decode.specs.declared.header.Header.{Header}
use Rattle.mon_link.specs.declared.link.Outgoing.{Outgoing}
use Rattle.mon_resend.specs.declared.note.Note.{Note}
use Rattle.mon_resend.specs.declared.outbox.Outbox.{Outbox}
use Rattle.mon_resend.specs.declared.outbox.UnderWay.{UnderWay}
use Rattle.mon_resend.specs.declared.outbox.UnderWay.TheVariants as under_way
use Rattle.mon_resend.specs.declared.rows.Way.{Way}
use Rattle.mon_resend.specs.declared.rows.Way.TheVariants as way
use Rattle.mon_resend.specs.Again.{note_of, fits, cleared, begun, continued}
use Rattle.mon_resend.specs.Notes.{plus}
use Rattle.mon_resend.specs.Rows.{way_of}
use Rattle.mon_resend.specs.Shelves.{has_room}

-- No copy is added, and no refusal is counted.
pub record IsSame (old new : Outbox) : Type 0 where
  pub shelf : new.shelf ≡ old.shelf
  pub unkept : new.unkept ≡ old.unkept

-- One more copy is kept.
pub record IsKept (out : Outgoing) (n : Note) (old new : Outbox) : Type 0 where
  pub shelf : new.shelf ≡ old.shelf ++ record { out = out; note = n } ∷ []
  pub unkept : new.unkept ≡ old.unkept

-- One more refusal of memory is counted.
pub record IsCounted (old new : Outbox) : Type 0 where
  pub shelf : new.shelf ≡ old.shelf
  pub unkept : new.unkept ≡ plus old.unkept 1

abbrev pub KeepsOrCounts : (is_to_keep : Bool) → Outgoing → Note → (old new : Outbox) → Type 0
KeepsOrCounts true out n old new = IsKept out n old new ⊎ IsCounted old new
KeepsOrCounts false out n old new = IsSame old new

abbrev pub is_sent_again : Way → Bool
is_sent_again way.Never = false
is_sent_again way.ByTime = true
is_sent_again way.WhenAsked = true

-- The first datagram of a message that is sent again is to be kept if there is room for the whole message.
abbrev pub begins_to_keep : Outgoing → Header → (total now : ℕ) → Outbox → Bool
begins_to_keep out h total now b =
    is_sent_again (way_of h.kind)
    && fits (note_of h total (length out.bytes) now b) total b.shelf && has_room 1 (length out.bytes) b.shelf

abbrev pub FirstKeepsOrCounts : Outgoing → Header → (total now : ℕ) → (old new : Outbox) → Type 0
FirstKeepsOrCounts out h total now old new =
    KeepsOrCounts (begins_to_keep out h total now old) out (note_of h total (length out.bytes) now old) old new

-- A later piece is to be kept if the first one was.
abbrev pub PieceKeepsOrCounts : UnderWay → Outgoing → (old new : Outbox) → Type 0
PieceKeepsOrCounts (under_way.Kept n) out old new =
    KeepsOrCounts (has_room 1 (length out.bytes) old.shelf) out n old new
PieceKeepsOrCounts under_way.Lost out old new = IsSame old new
PieceKeepsOrCounts under_way.Nothing out old new = IsSame old new

pub record EachIsKept : Type 0 where
  pub first : (memory : Bool) (out : Outgoing) (h : Header) (total now : ℕ) (b : Outbox)
      → FirstKeepsOrCounts out h total now (cleared h now b) (begun memory out h total now b)
  pub later : (memory : Bool) (out : Outgoing) (b : Outbox)
      → PieceKeepsOrCounts b.under_way out b (continued memory out b)
