-- The note of a copy: when it is sent, and when it is dropped. Times are in milliseconds.
use Rattle.std.specs.Prelude.{ℕ, ◌+◌, ◌*◌, ◌-◌, ◌^◌, min, max, Bool, true, false, ◌&&◌, ◌||◌, ◌==◌, nat_le, nat_lt, if◌then◌else◌}
use Rattle.mon_decode.specs.declared.header.Header.{Header}
use Rattle.mon_decode.specs.Headers.{same_kind}
use Rattle.mon_resend.specs.declared.note.Event.{Event}
use Rattle.mon_resend.specs.declared.note.Event.TheVariants.{Sent, Arrived, Piece, Asked, Rose, Deferred, LeftQuorum, Released}
use Rattle.mon_resend.specs.declared.note.Note.{Note}
use Rattle.mon_resend.specs.declared.note.TheConstants.{TIMES, NEVER, LONGEST, LEAST_OF_COOKIE, LEAST_OF_CHUNK, AFTER_CHUNK, PIECE_TIME}
use Rattle.mon_resend.specs.declared.rows.Way.{Way}
use Rattle.mon_resend.specs.declared.rows.Way.TheVariants as way
use Rattle.mon_resend.specs.Rows.{way_of, is_of_epoch, ends, is_answered, is_asked_again}
use Rattle.mon_wire.specs.declared.kind.Kind.{Kind}
use Rattle.mon_wire.specs.declared.kind.Kind.TheVariants as kind

-- sums and products stop at the greatest 64-bit number
abbrev pub plus : ℕ → ℕ → ℕ
plus a b = min (a + b) (2 ^ 64 - 1)

abbrev pub times : ℕ → ℕ → ℕ
times a b = min (a * b) (2 ^ 64 - 1)

abbrev pub is_when_asked : Way → Bool
is_when_asked way.WhenAsked = true
is_when_asked way.ByTime = false
is_when_asked way.Never = false

abbrev pub least_of : Kind → ℕ
least_of k =
    if same_kind k kind.GetCookieFull || same_kind k kind.GetCookieRecent then LEAST_OF_COOKIE
    else if same_kind k kind.GetChunk then LEAST_OF_CHUNK
    else 0

abbrev pub pace_of : ℕ → ℕ
pace_of pieces = if nat_lt 1 pieces then times pieces PIECE_TIME else 0

-- the wait before the first copy of a message in this many pieces, given the measured wait for the monitor's answers
abbrev pub every_of : Kind → ℕ → ℕ → ℕ
every_of k pieces wait = plus (max wait (least_of k)) (pace_of pieces)

-- the note of a new message, which is sent now or held
abbrev pub noted : Header → ℕ → Bool → ℕ → ℕ → Note
noted header pieces held wait now = record {
  header = header;
  pieces = pieces;
  last = now;
  due = if held || is_when_asked (way_of header.kind) then NEVER else plus now (every_of header.kind pieces wait);
  every = every_of header.kind pieces wait;
  times = 0;
  held = held;
}

-- ---- events

abbrev pub is_ended : Event → Note → Bool
is_ended (Sent sent) n = ends sent n.header.kind
is_ended (Arrived header) n = is_answered n.header header
is_ended (Rose epoch) n = is_of_epoch n.header.kind && nat_lt n.header.epoch epoch
is_ended Deferred n = same_kind n.header.kind kind.Propose
is_ended LeftQuorum n = true
is_ended (Piece is_last) n = false
is_ended (Asked header) n = false
is_ended (Released seq) n = false

-- the copy is now to be sent, as if for the first time
abbrev pub called : ℕ → Note → Note
called now n = record n { last = now; due = now; times = 0; held = true }

-- the note after an event that doesn't end the copy
abbrev pub after : Event → ℕ → Note → Note
after (Asked header) now n = if is_asked_again n.header header then called now n else n
after (Released seq) now n = if n.held && n.header.first == seq then called now n else n
after (Piece is_last) now n = if same_kind n.header.kind kind.GetChunk then record n { due = plus now (if is_last then AFTER_CHUNK else n.every) } else n
after (Sent sent) now n = n
after (Arrived header) now n = n
after (Rose epoch) now n = n
after Deferred now n = n
after LeftQuorum now n = n

-- ---- time

-- The copy is to be sent now. Without `again`, only a held one is.
abbrev pub is_due : Bool → ℕ → Note → Bool
is_due again now n = nat_le n.due now && (again || n.held) && nat_lt n.times TIMES

abbrev pub is_spent : ℕ → Note → Bool
is_spent now n = nat_le n.due now && nat_le TIMES n.times

abbrev pub doubled : ℕ → ℕ
doubled every = min (times every 2) (max every LONGEST)

-- the note after the copy was sent
abbrev pub after_sending : ℕ → Note → Note
after_sending now n =
    if is_when_asked (way_of n.header.kind) then record n { due = NEVER; held = false }
    else if n.held then record n { due = plus now n.every; held = false }
    else record n { last = now; due = plus now (doubled n.every); every = doubled n.every; times = min (n.times + 1) 255 }
