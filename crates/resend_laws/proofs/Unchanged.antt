-- What no event changes in a note.
use Rattle.std.specs.Prelude.{◌≡◌, ℕ, Bool, true, false, ◌&&◌, ◌==◌, refl}
use Rattle.std.proofs.Common.{cond, sym, subst}
use Rattle.mon_decode.specs.declared.header.Header.{Header}
use Rattle.mon_decode.specs.Headers.{same_kind}
use Rattle.mon_resend.specs.declared.note.Event.{Event}
use Rattle.mon_resend.specs.declared.note.Event.TheVariants.{Sent, Arrived, Piece, Asked, Rose, Deferred, LeftQuorum, Released}
use Rattle.mon_resend.specs.declared.note.Note.{Note}
use Rattle.mon_resend.specs.declared.rows.Way.TheVariants as way
use Rattle.mon_resend.specs.Notes.{after, called, after_sending, is_due, is_when_asked, plus}
use Rattle.mon_resend.specs.Rows.{way_of, is_asked_as, is_asked_again}
use Rattle.mon_resend.specs.Shelves.{after_sending_if_due}
use Rattle.mon_resend.proofs.Steps.{is_release}
use Rattle.mon_wire.specs.declared.kind.Kind.{Kind}
use Rattle.mon_wire.specs.declared.kind.Kind.TheVariants as kind

-- ---- the header of a note

same_header : (x n : Note) (b : Bool) → x.header ≡ n.header → (cond b x n).header ≡ n.header
same_header x n true e = e
same_header x n false e = refl

pub header_stays : (event : Event) (now : ℕ) (n : Note) → (after event now n).header ≡ n.header
header_stays (Asked h) now n = same_header (called now n) n (is_asked_again n.header h) refl
header_stays (Released seq) now n = same_header (called now n) n (n.held && (n.header.first == seq)) refl
header_stays (Piece is_last) now n = same_header (record n { due = plus now (cond is_last 20 n.every) }) n (same_kind n.header.kind kind.GetChunk) refl
header_stays (Sent sent) now n = refl
header_stays (Arrived h) now n = refl
header_stays (Rose epoch) now n = refl
header_stays Deferred now n = refl
header_stays LeftQuorum now n = refl

-- ---- no event changes the note of a copy that is sent by time, isn't held and is no GET_CHUNK

not_asked : (k : Kind) (kept came : Header) → way_of k ≡ way.ByTime → is_asked_as k kept came ≡ false
not_asked kind.Accept kept came e = absurd cc
not_asked kind.Route kept came e = absurd cc
not_asked kind.Chunk kept came e = absurd cc
not_asked kind.LastChunk kept came e = absurd cc
not_asked other kept came e = refl

unless : (x n : Note) (b : Bool) → b ≡ false → cond b x n ≡ n
unless x n true e = absurd cc
unless x n false e = refl

not_both : (a b : Bool) → a ≡ false → (a && b) ≡ false
not_both true b e = absurd cc
not_both false b e = refl

pub not_released : (event : Event) (now : ℕ) (n : Note) → is_release event ≡ false → way_of n.header.kind ≡ way.ByTime → same_kind n.header.kind kind.GetChunk ≡ false → after event now n ≡ n
not_released (Asked h) now n t w g = unless (called now n) n (is_asked_again n.header h) (not_asked n.header.kind n.header h w)
not_released (Released seq) now n t w g = absurd cc
not_released (Piece is_last) now n t w g = unless (record n { due = plus now (cond is_last 20 n.every) }) n (same_kind n.header.kind kind.GetChunk) g
not_released (Sent sent) now n t w g = refl
not_released (Arrived h) now n t w g = refl
not_released (Rose epoch) now n t w g = refl
not_released Deferred now n t w g = refl
not_released LeftQuorum now n t w g = refl

pub unchanged : (event : Event) (now : ℕ) (n : Note) → way_of n.header.kind ≡ way.ByTime → same_kind n.header.kind kind.GetChunk ≡ false → n.held ≡ false → after event now n ≡ n
unchanged (Released seq) now n w g e = unless (called now n) n (n.held && (n.header.first == seq)) (not_both n.held (n.header.first == seq) e)
unchanged (Asked h) now n w g e = not_released (Asked h) now n refl w g
unchanged (Piece is_last) now n w g e = not_released (Piece is_last) now n refl w g
unchanged (Sent sent) now n w g e = refl
unchanged (Arrived h) now n w g e = refl
unchanged (Rose epoch) now n w g e = refl
unchanged Deferred now n w g e = refl
unchanged LeftQuorum now n w g e = refl

-- ---- a FORWARD is such a message

by_kind : (k : Kind) → same_kind k kind.Forward ≡ true → k ≡ kind.Forward
by_kind kind.Forward e = refl
by_kind other e = absurd cc

pub forward_by_time : (k : Kind) → same_kind k kind.Forward ≡ true → way_of k ≡ way.ByTime
forward_by_time k e = subst (λ k. way_of k ≡ way.ByTime) (sym (by_kind k e)) refl

pub forward_no_chunk : (k : Kind) → same_kind k kind.Forward ≡ true → same_kind k kind.GetChunk ≡ false
forward_no_chunk k e = subst (λ k. same_kind k kind.GetChunk ≡ false) (sym (by_kind k e)) refl

-- ---- sending doesn't change the header either

either_header : (x y n : Note) (b : Bool) → x.header ≡ n.header → y.header ≡ n.header → (cond b x y).header ≡ n.header
either_header x y n true e f = e
either_header x y n false e f = f

after_sending_header : (now : ℕ) (n : Note) → (after_sending now n).header ≡ n.header
after_sending_header now n = either_header _ _ n (is_when_asked (way_of n.header.kind)) refl (either_header _ _ n n.held refl refl)

pub passes_header : (again : Bool) (now : ℕ) (n : Note) → (after_sending_if_due again now n).header ≡ n.header
passes_header again now n = either_header (after_sending now n) n n (is_due again now n) (after_sending_header now n) refl
