-- The copies that are kept for one monitor, and how they change when a message is sent to it, arrives from it, or time
-- passes.
use Rattle.std.specs.Prelude.{ℕ, ◌-◌, ◌%◌, Bool, true, false, ◌&&◌, not, ◌==◌, nat_le, nat_lt, List, [], ◌∷◌, ◌++◌, length, find, Option, Some, None, is_some, if◌then◌else◌}
use Rattle.std.specs.Int.{div_ceil}
use Rattle.std.specs.List.{list_any}
use Rattle.std.specs.Str.{bytes_eq}
use Rattle.mon_decode.specs.declared.header.Header.{Header}
use Rattle.mon_decode.specs.Headers.{same_kind}
use Rattle.mon_frag.specs.declared.header.TheConstants.{PART, PIECE_HEADER}
use Rattle.mon_link.specs.declared.link.Outgoing.{Outgoing}
use Rattle.mon_resend.specs.declared.calls.Earlier.{Earlier}
use Rattle.mon_resend.specs.declared.datagram.Piece.{Piece as Part}
use Rattle.mon_resend.specs.declared.measure.Measure.{Measure}
use Rattle.mon_resend.specs.declared.note.Event.{Event}
use Rattle.mon_resend.specs.declared.note.Event.TheVariants.{Sent, Arrived, Piece, Asked, Released}
use Rattle.mon_resend.specs.declared.note.Note.{Note}
use Rattle.mon_resend.specs.declared.outbox.Number.{Number}
use Rattle.mon_resend.specs.declared.outbox.Outbox.{Outbox}
use Rattle.mon_resend.specs.declared.outbox.UnderWay.{UnderWay}
use Rattle.mon_resend.specs.declared.outbox.UnderWay.TheVariants as under_way
use Rattle.mon_resend.specs.declared.rows.Way.{Way}
use Rattle.mon_resend.specs.declared.rows.Way.TheVariants as way
use Rattle.mon_resend.specs.declared.shelf.Kept.{Kept}
use Rattle.mon_resend.specs.Calls.{no_earlier, rested, unacknowledged, acknowledged_in, drops, counted}
use Rattle.mon_resend.specs.Measures.{unmeasured, measured, waits}
use Rattle.mon_resend.specs.Notes.{plus, times, noted}
use Rattle.mon_resend.specs.Rows.{way_of, is_answered, is_asked_again, is_measured}
use Rattle.mon_resend.specs.Shelves.{applied, has_room, due_sent}
use Rattle.mon_wire.specs.declared.kind.Kind.TheVariants as kind

abbrev pub nothing : Outbox
nothing = record {
  shelf = [];
  measure = unmeasured;
  under_way = under_way.Nothing;
  asked = [];
  heard = None;
  past = None;
  earlier = no_earlier;
  acknowledged = unacknowledged;
  unkept = 0;
}

-- ---- memory

-- Memory is refused for a copy that there is room for.
abbrev pub is_refused : (memory : Bool) → Outgoing → List Kept → Bool
is_refused memory out kept = has_room 1 (length out.bytes) kept && not memory

-- how often memory was refused, with one more refusal if `refused`
abbrev pub unkept_if : Bool → Outbox → ℕ
unkept_if refused b = if refused then plus b.unkept 1 else b.unkept

abbrev pub counted_if : Bool → Outbox → Outbox → Outbox
counted_if refused old b = record b { unkept = unkept_if refused old }

-- ---- FORWARDs go one after the other

abbrev pub first_forward : List Kept → Option Kept
first_forward kept = find (λ k. same_kind k.note.header.kind kind.Forward) kept

abbrev pub if_held : Option Kept → Option ℕ
if_held None = None
if_held (Some k) = if k.note.held then Some k.note.header.first else None

-- the number of the first FORWARD, if it is held
abbrev pub held_forward : List Kept → Option ℕ
held_forward kept = if_held (first_forward kept)

abbrev pub released_by : ℕ → List Kept → Option ℕ → List Kept
released_by now kept None = kept
released_by now kept (Some seq) = applied (Released seq) now kept

abbrev pub released : ℕ → List Kept → List Kept
released now kept = released_by now kept (held_forward kept)

abbrev pub happened : Event → ℕ → List Kept → List Kept
happened event now kept = released now (applied event now kept)

-- ---- a message is sent

-- the box before the message is kept: the copies that the message ends are dropped
abbrev pub cleared : Header → ℕ → Outbox → Outbox
cleared h now b = record b {
  shelf = happened (Sent h.kind) now b.shelf;
  under_way = under_way.Nothing;
  past = if same_kind h.kind kind.GetChunk then b.heard else b.past;
  acknowledged = if same_kind h.kind kind.Ack then acknowledged_in h.epoch now b.acknowledged else b.acknowledged;
}

-- the note of a message of `total` bytes whose first datagram has `len` bytes
abbrev pub note_of : Header → (total len now : ℕ) → Outbox → Note
note_of h total len now b =
    noted h (if total == len then 1 else div_ceil total PART) (same_kind h.kind kind.Forward && is_some (first_forward b.shelf)) (waits b.measure) now

abbrev pub fits : Note → (total : ℕ) → List Kept → Bool
fits n total kept = has_room n.pieces (plus total (times n.pieces PIECE_HEADER)) kept

abbrev pub under_way_of : Note → Bool → UnderWay
under_way_of n has_room =
    if nat_le n.pieces 1 then under_way.Nothing
    else if has_room then under_way.Kept n
    else if n.held then under_way.Lost
    else under_way.Nothing

-- the copies with one more, if there is memory and room
abbrev pub with_copy : (memory : Bool) → Outgoing → Note → List Kept → List Kept
with_copy memory out n kept = if has_room 1 (length out.bytes) kept && memory then kept ++ record { out = out; note = n } ∷ [] else kept

-- The copy is kept, or the refusal of memory is counted.
abbrev pub copied : (memory : Bool) → Outgoing → Note → Outbox → Outbox
copied memory out n b = counted_if (is_refused memory out b.shelf) b (record b { shelf = with_copy memory out n b.shelf })

abbrev pub first_kept : (memory : Bool) → Outgoing → Note → (total : ℕ) → Outbox → Outbox
first_kept memory out n total b =
    if fits n total b.shelf then record b { under_way = under_way_of n true; shelf = with_copy memory out n b.shelf }
    else record b { under_way = under_way_of n false }

abbrev pub first_copied : (memory : Bool) → Outgoing → Note → (total : ℕ) → Outbox → Outbox
first_copied memory out n total b = counted_if (fits n total b.shelf && is_refused memory out b.shelf) b (first_kept memory out n total b)

abbrev pub begun_as : Way → (memory : Bool) → Outgoing → Header → (total now : ℕ) → Outbox → Outbox
begun_as way.Never memory out h total now b = b
begun_as way.ByTime memory out h total now b = first_copied memory out (note_of h total (length out.bytes) now b) total b
begun_as way.WhenAsked memory out h total now b = first_copied memory out (note_of h total (length out.bytes) now b) total b

-- the box after the first datagram of a message was given to send
abbrev pub begun : (memory : Bool) → Outgoing → Header → (total now : ℕ) → Outbox → Outbox
begun memory out h total now b = begun_as (way_of h.kind) memory out h total now (cleared h now b)

-- whether its first datagram is sent now
abbrev pub begins_as : Way → Note → Bool
begins_as way.Never n = true
begins_as way.ByTime n = not n.held
begins_as way.WhenAsked n = not n.held

abbrev pub begins_now : Header → (total len now : ℕ) → Outbox → Bool
begins_now h total len now b = begins_as (way_of h.kind) (note_of h total len now (cleared h now b))

-- the box after a later piece was given to send
abbrev pub continued_with : UnderWay → (memory : Bool) → Outgoing → Outbox → Outbox
continued_with (under_way.Kept n) memory out b = copied memory out n b
continued_with under_way.Lost memory out b = b
continued_with under_way.Nothing memory out b = b

abbrev pub continued : (memory : Bool) → Outgoing → Outbox → Outbox
continued memory out b = continued_with b.under_way memory out b

abbrev pub continues_now : UnderWay → Bool
continues_now (under_way.Kept n) = not n.held
continues_now under_way.Lost = false
continues_now under_way.Nothing = true

-- ---- a message arrives

abbrev pub measured_with : Header → ℕ → Measure → Option Kept → Measure
measured_with h now m None = m
measured_with h now m (Some k) = measured (now - k.note.last) k.note.times m

abbrev pub answered_one : Header → List Kept → Option Kept
answered_one h kept = find (λ k. k.note.pieces == 1 && is_measured k.note.header.kind && is_answered k.note.header h) kept

abbrev pub measured_by : Header → ℕ → Outbox → Measure
measured_by h now b = measured_with h now b.measure (answered_one h b.shelf)

-- the copies that an arrived message answers are dropped
abbrev pub heard : Header → ℕ → Outbox → Outbox
heard h now b = record b { measure = measured_by h now b; shelf = happened (Arrived h) now b.shelf }

-- whether the answer to an arrived question is kept
abbrev pub knows : Header → List Kept → Bool
knows h kept = list_any (λ k. is_asked_again k.note.header h) kept

abbrev pub answered : Header → ℕ → Outbox → Outbox
answered h now b = if knows h b.shelf then record b { shelf = happened (Asked h) now b.shelf } else b

-- whether an arrived message is to be remembered: a GET_CHUNK with other bytes than the last one
abbrev pub is_to_keep : Header → List ℕ → Outbox → Bool
is_to_keep h bytes b = same_kind h.kind kind.GetChunk && not (bytes_eq b.asked bytes)

abbrev pub received : (memory : Bool) → Header → List ℕ → ℕ → Outbox → Outbox
received memory h bytes now b = counted_if (is_to_keep h bytes b && not memory) b (
    if same_kind h.kind kind.Begin then answered h now b
    else if same_kind h.kind kind.Forward then answered h now b
    else if not (same_kind h.kind kind.GetChunk) then heard h now b
    else if bytes_eq b.asked bytes then answered h now b
    else heard h now (record b { asked = if memory then bytes else [] }))

-- whether a kept answer is sent again and the message isn't handed up
abbrev pub is_known : Header → List ℕ → Outbox → Bool
is_known h bytes b =
    if same_kind h.kind kind.Begin then knows h b.shelf
    else if same_kind h.kind kind.Forward then false
    else same_kind h.kind kind.GetChunk && bytes_eq b.asked bytes && knows h b.shelf

-- a PROPOSE of this epoch arrives, while the last message to any monitor was of the epoch `own`
abbrev pub with_earlier : Outbox → Option Earlier → Outbox
with_earlier b None = b
with_earlier b (Some e) = record b { earlier = e }

abbrev pub is_earlier : (epoch own : ℕ) → Bool
is_earlier epoch own = nat_lt epoch own && own % 2 == 0

abbrev pub called : (epoch own now : ℕ) → Outbox → Outbox
called epoch own now b =
    if is_earlier epoch own then with_earlier b (rested now b.earlier)
    else if epoch == own && epoch == b.acknowledged.epoch then record b { acknowledged = counted now b.acknowledged }
    else b

-- whether that PROPOSE isn't handed up
abbrev pub is_dropped : (epoch own now : ℕ) → Outbox → Bool
is_dropped epoch own now b =
    if is_earlier epoch own then not (is_some (rested now b.earlier))
    else epoch == own && epoch == b.acknowledged.epoch && drops now (counted now b.acknowledged)

-- whether a later piece belongs to the long message that the last GET_CHUNK follows
abbrev pub is_past : Part → Option Number → Bool
is_past p None = false
is_past p (Some n) = n.boot == p.boot && n.seq == p.seq

abbrev pub piece_arrived : Part → ℕ → Outbox → Outbox
piece_arrived p now b = record b {
  heard = Some (record { boot = p.boot; seq = p.seq });
  shelf = if is_past p b.past then b.shelf else happened (Piece p.is_last) now b.shelf;
}

-- ---- time passes

abbrev pub passed : (again : Bool) → ℕ → Outbox → Outbox
passed again now b = record b { shelf = released now (due_sent again now b.shelf) }
