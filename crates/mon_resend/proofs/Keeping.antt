-- A datagram is kept, or it is counted that memory was refused for it.
use Rattle.std.specs.Prelude.{ℕ, Bool, true, false, ◌&&◌, not, ◌∷◌, [], ◌++◌, length, refl}
use Rattle.std.proofs.Common.{cond, inl, inr}
use Rattle.mon_decode.specs.declared.header.Header.{Header}
use Rattle.mon_link.specs.declared.link.Outgoing.{Outgoing}
use Rattle.mon_resend.specs.declared.note.Note.{Note}
use Rattle.mon_resend.specs.declared.outbox.Outbox.{Outbox}
use Rattle.mon_resend.specs.declared.outbox.UnderWay.{UnderWay}
use Rattle.mon_resend.specs.declared.outbox.UnderWay.TheVariants as under_way
use Rattle.mon_resend.specs.declared.rows.Way.{Way}
use Rattle.mon_resend.specs.declared.rows.Way.TheVariants as way
use Rattle.mon_resend.specs.Again.{note_of, fits, cleared, begun_as, continued_with, counted_if, under_way_of}
use Rattle.mon_resend.specs.Keeping.{KeepsOrCounts, PieceKeepsOrCounts, EachIsKept, is_sent_again}
use Rattle.mon_resend.specs.Rows.{way_of}
use Rattle.mon_resend.specs.Shelves.{has_room}

one : (room memory : Bool) (out : Outgoing) (n : Note) (b : Outbox)
    → KeepsOrCounts room out n b (counted_if (room && not memory) b (record b { shelf = cond (room && memory) (b.shelf ++ record { out = out; note = n } ∷ []) b.shelf }))
one true true out n b = inl (record { shelf = refl; unkept = refl })
one true false out n b = inr (record { shelf = refl; unkept = refl })
one false memory out n b = record { shelf = refl; unkept = refl }

first_one : (fit room memory : Bool) (out : Outgoing) (n : Note) (b : Outbox)
    → KeepsOrCounts (fit && room) out n b (counted_if (fit && (room && not memory)) b (cond fit (record b { under_way = under_way_of n true; shelf = cond (room && memory) (b.shelf ++ record { out = out; note = n } ∷ []) b.shelf }) (record b { under_way = under_way_of n false })))
first_one true true true out n b = inl (record { shelf = refl; unkept = refl })
first_one true true false out n b = inr (record { shelf = refl; unkept = refl })
first_one true false memory out n b = record { shelf = refl; unkept = refl }
first_one false room memory out n b = record { shelf = refl; unkept = refl }

first_as : (w : Way) (memory : Bool) (out : Outgoing) (h : Header) (total now : ℕ) (b : Outbox)
    → (let n = note_of h total (length out.bytes) now b in
    KeepsOrCounts (is_sent_again w && fits n total b.shelf && has_room 1 (length out.bytes) b.shelf) out n b
    (begun_as w memory out h total now b))
first_as way.Never memory out h total now b = record { shelf = refl; unkept = refl }
first_as way.ByTime memory out h total now b =
    let n = note_of h total (length out.bytes) now b in
    first_one (fits n total b.shelf) (has_room 1 (length out.bytes) b.shelf) memory out n b
first_as way.WhenAsked memory out h total now b =
    let n = note_of h total (length out.bytes) now b in
    first_one (fits n total b.shelf) (has_room 1 (length out.bytes) b.shelf) memory out n b

piece_as : (u : UnderWay) (memory : Bool) (out : Outgoing) (b : Outbox) → PieceKeepsOrCounts u out b (continued_with u memory out b)
piece_as (under_way.Kept n) memory out b = one (has_room 1 (length out.bytes) b.shelf) memory out n b
piece_as under_way.Lost memory out b = record { shelf = refl; unkept = refl }
piece_as under_way.Nothing memory out b = record { shelf = refl; unkept = refl }

pub each_is_kept : EachIsKept
each_is_kept = record {
  first = λ memory out h total now b. first_as (way_of h.kind) memory out h total now (cleared h now b);
  later = λ memory out b. piece_as b.under_way memory out b;
}
