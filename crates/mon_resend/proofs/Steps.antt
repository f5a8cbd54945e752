-- What holds of the box of one monitor after every step: of its copies, and of the message under way to it.
use Rattle.std.specs.Prelude.{◌≡◌, ℕ, zero, suc, Bool, true, false, ◌&&◌, not, refl, List, [], ◌∷◌, length, map, Option, Some, None, get_or}
use Rattle.std.specs.Str.{bytes_eq}
use Rattle.std.proofs.Common.{cond, eqb, ltb, ap}
use Rattle.std.proofs.Math.ListN.{set}
use Rattle.mon_decode.specs.declared.header.Header.{Header}
use Rattle.mon_decode.specs.Headers.{same_kind}
use Rattle.mon_link.specs.declared.link.Peer.TheVariants.{Monitor}
use Rattle.mon_resend.specs.declared.calls.Earlier.{Earlier}
use Rattle.mon_resend.specs.declared.copies.Copies.{Copies}
use Rattle.mon_resend.specs.declared.datagram.Part.{Part as DatagramPart}
use Rattle.mon_resend.specs.declared.datagram.Part.TheVariants.{Whole, First, Later}
use Rattle.mon_resend.specs.declared.datagram.Piece.{Piece as Part}
use Rattle.mon_resend.specs.declared.note.Event.{Event}
use Rattle.mon_resend.specs.declared.note.Event.TheVariants.{Sent, Arrived, Piece, Asked, Rose, Deferred, LeftQuorum, Released}
use Rattle.mon_resend.specs.declared.outbox.Outbox.{Outbox}
use Rattle.mon_resend.specs.declared.outbox.UnderWay.{UnderWay}
use Rattle.mon_resend.specs.declared.outbox.UnderWay.TheVariants as under_way
use Rattle.mon_resend.specs.declared.shelf.Kept.{Kept}
use Rattle.mon_resend.specs.Again.{nothing, released, happened, begun, continued, knows, answered, heard, received, with_earlier, is_earlier, called, is_past, piece_arrived, passed}
use Rattle.mon_resend.specs.Calls.{rested, counted}
use Rattle.mon_resend.specs.Copied.{datagram}
use Rattle.mon_resend.specs.Datagrams.{part_of}
use Rattle.mon_resend.specs.Rows.{is_of_epoch}
use Rattle.mon_resend.specs.Shelves.{due_sent}
use Rattle.mon_resend.specs.World.{box_of, with_box, with_event, each, risen, in_epoch, without_ended, begins, sent_part, called_at, is_dropped_at, received_at, asks, whole_arrived, part_arrived, arrived, all_passed}
use Rattle.mon_wire.specs.declared.kind.Kind.TheVariants as kind

-- ---- of one monitor

abbrev pub Of : (List Kept → UnderWay → Type 0) → Outbox → Type 0
Of P b = P b.shelf b.under_way

-- whether an event releases a FORWARD, which happens only as a part of another event
abbrev pub is_release : Event → Bool
is_release (Released seq) = true
is_release (Sent sent) = false
is_release (Arrived h) = false
is_release (Piece is_last) = false
is_release (Asked h) = false
is_release (Rose epoch) = false
is_release Deferred = false
is_release LeftQuorum = false

abbrev pub Lasts : (List Kept → UnderWay → Type 0) → Type 0
Lasts P = (event : Event) (now : ℕ) (kept : List Kept) (u : UnderWay) → is_release event ≡ false → P kept u → P (happened event now kept) u

module _ (P : List Kept → UnderWay → Type 0) (lasts : Lasts P) where
  of_happened : (event : Event) (now : ℕ) (b : Outbox) → is_release event ≡ false → Of P b → Of P (with_event event now b)
  of_happened event now b e h = lasts event now b.shelf b.under_way e h

  one_of : (x y : Outbox) (b : Bool) → Of P x → Of P y → Of P (cond b x y)
  one_of x y true h g = h
  one_of x y false h g = g

  of_answered : (h : Header) (now : ℕ) (b : Outbox) → Of P b → Of P (answered h now b)
  of_answered h now b g = one_of (with_event (Asked h) now b) b (knows h b.shelf) (of_happened (Asked h) now b refl g) g

  of_heard : (h : Header) (now : ℕ) (b : Outbox) → Of P b → Of P (heard h now b)
  of_heard h now b g = of_happened (Arrived h) now b refl g

  of_received : (memory : Bool) (h : Header) (bytes : List ℕ) (now : ℕ) (b : Outbox) → Of P b → Of P (received memory h bytes now b)
  of_received memory h bytes now b g =
      let asked = record b { asked = cond memory bytes [] } in
      let x = answered h now b in
      let y = heard h now asked in
      let gx = of_answered h now b g in
      let gy = of_heard h now asked g in
      let chunk = cond (bytes_eq b.asked bytes) x y in
      let question = cond (not (same_kind h.kind kind.GetChunk)) (heard h now b) chunk in
      one_of x (cond (same_kind h.kind kind.Forward) x question) (same_kind h.kind kind.Begin) gx
      (one_of x question (same_kind h.kind kind.Forward) gx
      (one_of (heard h now b) chunk (not (same_kind h.kind kind.GetChunk)) (of_heard h now b g) (one_of x y (bytes_eq b.asked bytes) gx gy)))

  of_earlier : (b : Outbox) (e : Option Earlier) → Of P b → Of P (with_earlier b e)
  of_earlier b None h = h
  of_earlier b (Some e) h = h

  of_called : (epoch own now : ℕ) (b : Outbox) → Of P b → Of P (called epoch own now b)
  of_called epoch own now b h =
      let late = cond (eqb epoch own && eqb epoch b.acknowledged.epoch) (record b { acknowledged = counted now b.acknowledged }) b in
      one_of (with_earlier b (rested now b.earlier)) late (is_earlier epoch own) (of_earlier b (rested now b.earlier) h)
      (one_of (record b { acknowledged = counted now b.acknowledged }) b (eqb epoch own && eqb epoch b.acknowledged.epoch) h h)

  if_past : (x y : List Kept) (u : UnderWay) (b : Bool) → P x u → P y u → P (cond b x y) u
  if_past x y u true h g = h
  if_past x y u false h g = g

  of_piece : (p : Part) (now : ℕ) (b : Outbox) → Of P b → Of P (piece_arrived p now b)
  of_piece p now b h = if_past b.shelf (happened (Piece p.is_last) now b.shelf) b.under_way (is_past p b.past) h (of_happened (Piece p.is_last) now b refl h)

-- ---- of one of all monitors

abbrev pub At : (List Kept → UnderWay → Type 0) → ℕ → List Outbox → Type 0
At P r bs = Of P (get_or bs r nothing)

-- another one's box is put
pub put_other : (P : List Kept → UnderWay → Type 0) (bs : List Outbox) (i r : ℕ) (x : Outbox) → (i ≡ r → ⊥) → At P r bs → At P r (set bs i x)
put_other P [] i r x other h = h
put_other P (b ∷ bs) zero zero x other h = absurd (other refl)
put_other P (b ∷ bs) zero (suc r) x other h = h
put_other P (b ∷ bs) (suc i) zero x other h = h
put_other P (b ∷ bs) (suc i) (suc r) x other h = put_other P bs i r x (λ e. other (ap suc e)) h

-- its own box is put
pub put_own : (P : List Kept → UnderWay → Type 0) → P [] under_way.Nothing → (bs : List Outbox) (r : ℕ) (x : Outbox) → Of P x → At P r (set bs r x)
put_own P none [] r x h = none
put_own P none (b ∷ bs) zero x h = h
put_own P none (b ∷ bs) (suc r) x h = put_own P none bs r x h

pub put_at : (P : List Kept → UnderWay → Type 0) (f : Outbox → Outbox) → ((b : Outbox) → Of P b → Of P (f b)) → (bs : List Outbox) (i r : ℕ) → At P r bs → At P r (set bs i (f (get_or bs i nothing)))
put_at P f a [] i r h = h
put_at P f a (b ∷ bs) zero zero h = a b h
put_at P f a (b ∷ bs) zero (suc r) h = h
put_at P f a (b ∷ bs) (suc i) zero h = h
put_at P f a (b ∷ bs) (suc i) (suc r) h = put_at P f a bs i r h

pub each_at : (P Q : List Kept → UnderWay → Type 0) (f : Outbox → Outbox) → Q [] under_way.Nothing → ((b : Outbox) → Of P b → Of Q (f b)) → (bs : List Outbox) (r : ℕ) → At P r bs → At Q r (map f bs)
each_at P Q f none a [] r h = none
each_at P Q f none a (b ∷ bs) zero h = a b h
each_at P Q f none a (b ∷ bs) (suc r) h = each_at P Q f none a bs r h

module _ (P : List Kept → UnderWay → Type 0) (none : P [] under_way.Nothing) (lasts : Lasts P) (r : ℕ) where
  some_at : (x y : Copies) (b : Bool) → At P r x.boxes → At P r y.boxes → At P r (cond b x y).boxes
  some_at x y true h g = h
  some_at x y false h g = g

  event_at : (event : Event) (now : ℕ) (c : Copies) → is_release event ≡ false → At P r c.boxes → At P r (each event now c).boxes
  event_at event now c e h = each_at P P (λ b. with_event event now b) none (λ b g. of_happened P lasts event now b e g) c.boxes r h

  pub risen_at : (h : Header) (now : ℕ) (c : Copies) → At P r c.boxes → At P r (risen h now c).boxes
  risen_at h now c g =
      let later = record c { epoch = h.epoch } in
      some_at (each (Rose h.epoch) now later) c (is_of_epoch h.kind && ltb c.epoch h.epoch) (event_at (Rose h.epoch) now later refl g) g

  in_epoch_at : (h : Header) (c : Copies) → At P r c.boxes → At P r (in_epoch h c).boxes
  in_epoch_at h c g =
      let of_it = record c { own = h.epoch } in
      some_at (record c { own = 0 }) (cond (is_of_epoch h.kind) of_it c) (same_kind h.kind kind.Probe) g (some_at of_it c (is_of_epoch h.kind) g g)

  left_at : (h : Header) (now : ℕ) (c : Copies) → At P r c.boxes → At P r (without_ended h now c).boxes
  left_at h now c g =
      some_at (each LeftQuorum now c) (cond (same_kind h.kind kind.Ack) (each Deferred now c) c) (same_kind h.kind kind.Probe) (event_at LeftQuorum now c refl g)
      (some_at (each Deferred now c) c (same_kind h.kind kind.Ack) (event_at Deferred now c refl g) g)

  -- after the epoch rose
  pub begins_at : (h : Header) (now : ℕ) (c : Copies) → At P r (risen h now c).boxes → At P r (begins h now c).boxes
  begins_at h now c g = let rose = risen h now c in left_at h now (in_epoch h rose) (in_epoch_at h rose g)

  -- a datagram is to go to another one
  pub sent_other : (part : Option DatagramPart) (memory : Bool) (rank : ℕ) (bytes : List ℕ) (now : ℕ) (c : Copies) → (rank ≡ r → ⊥) → At P r c.boxes → At P r (sent_part part memory rank bytes now c).boxes
  sent_other (Some (Whole h)) memory rank bytes now c other g =
      let m = begins h now c in
      put_other P m.boxes rank r (begun memory (datagram (Monitor rank) bytes) h (length bytes) now (box_of rank m)) other (begins_at h now c (risen_at h now c g))
  sent_other (Some (First h total)) memory rank bytes now c other g =
      let m = begins h now c in
      put_other P m.boxes rank r (begun memory (datagram (Monitor rank) bytes) h total now (box_of rank m)) other (begins_at h now c (risen_at h now c g))
  sent_other (Some (Later p)) memory rank bytes now c other g = put_other P c.boxes rank r (continued memory (datagram (Monitor rank) bytes) (box_of rank c)) other g
  sent_other None memory rank bytes now c other g = g

  pub called_at_at : (rank : ℕ) (h : Header) (now : ℕ) (c : Copies) → At P r c.boxes → At P r (called_at rank h now c).boxes
  called_at_at rank h now c g =
      let x = called h.epoch c.own now (box_of rank c) in
      some_at (with_box rank x c) c (same_kind h.kind kind.Propose) (put_at P (called h.epoch c.own now) (λ b k. of_called P lasts h.epoch c.own now b k) c.boxes rank r g) g

  received_at_at : (memory : Bool) (rank : ℕ) (h : Header) (bytes : List ℕ) (now : ℕ) (c : Copies) → At P r c.boxes → At P r (received_at memory rank h bytes now c).boxes
  received_at_at memory rank h bytes now c g = put_at P (received memory h bytes now) (λ b k. of_received P lasts memory h bytes now b k) c.boxes rank r g

  -- after the epoch rose
  pub whole_arrived_at : (memory : Bool) (rank : ℕ) (h : Header) (bytes : List ℕ) (now : ℕ) (c : Copies) → At P r (risen h now c).boxes → At P r (whole_arrived memory rank h bytes now c).boxes
  whole_arrived_at memory rank h bytes now c g =
      let rose = risen h now c in
      let p = called_at rank h now rose in
      let gp = called_at_at rank h now rose g in
      some_at p (received_at memory rank h bytes now p) (is_dropped_at rank h now rose) gp (received_at_at memory rank h bytes now p gp)

  pub part_arrived_at : (part : Option DatagramPart) (memory : Bool) (rank : ℕ) (bytes : List ℕ) (now : ℕ) (c : Copies) → At P r c.boxes → At P r (part_arrived part memory rank bytes now c).boxes
  part_arrived_at (Some (Whole h)) memory rank bytes now c g = whole_arrived_at memory rank h bytes now c (risen_at h now c g)
  part_arrived_at (Some (First h total)) memory rank bytes now c g = some_at (received_at memory rank h bytes now c) c (asks h) (received_at_at memory rank h bytes now c g) g
  part_arrived_at (Some (Later p)) memory rank bytes now c g = put_at P (piece_arrived p now) (λ b k. of_piece P lasts p now b k) c.boxes rank r g
  part_arrived_at None memory rank bytes now c g = g

  pub arrived_at : (memory : Bool) (rank : ℕ) (bytes : List ℕ) (now : ℕ) (c : Copies) → At P r c.boxes → At P r (arrived memory rank bytes now c).boxes
  arrived_at memory rank bytes now c g = part_arrived_at (part_of bytes) memory rank bytes now c g

-- time passes
pub passed_at : (P Q : List Kept → UnderWay → Type 0) (none : Q [] under_way.Nothing) (r : ℕ) (again : Bool) (now : ℕ) (c : Copies) → ((kept : List Kept) (u : UnderWay) → P kept u → Q (released now (due_sent again now kept)) u) → At P r c.boxes
    → At Q r (all_passed again now c).boxes
passed_at P Q none r again now c goes h = each_at P Q (λ b. passed again now b) none (λ b g. goes b.shelf b.under_way g) c.boxes r h
