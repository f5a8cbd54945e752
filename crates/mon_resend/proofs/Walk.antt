-- What holds of the copies for a monitor after a step: what holds of none, after each event, and with one more.
use Rattle.std.specs.Prelude.{◌≡◌, ℕ, zero, suc, Bool, true, false, ◌&&◌, not, refl, List, [], ◌∷◌, ◌++◌, length, map, filter, Option, Some, None, get_or}
use Rattle.std.specs.List.{AllByRecursion}
use Rattle.std.proofs.Common.{cond}
use Rattle.std.proofs.Math.ListN.{set}
use Rattle.mon_decode.specs.declared.header.Header.{Header}
use Rattle.mon_link.specs.declared.link.Outgoing.{Outgoing}
use Rattle.mon_link.specs.declared.link.Peer.TheVariants.{Monitor}
use Rattle.mon_resend.specs.declared.copies.Copies.{Copies}
use Rattle.mon_resend.specs.declared.datagram.Part.{Part as DatagramPart}
use Rattle.mon_resend.specs.declared.datagram.Part.TheVariants.{Whole, First, Later}
use Rattle.mon_resend.specs.declared.note.Event.{Event}
use Rattle.mon_resend.specs.declared.note.Event.TheVariants.{Sent, Released}
use Rattle.mon_resend.specs.declared.note.Note.{Note}
use Rattle.mon_resend.specs.declared.outbox.Outbox.{Outbox}
use Rattle.mon_resend.specs.declared.outbox.UnderWay.{UnderWay}
use Rattle.mon_resend.specs.declared.outbox.UnderWay.TheVariants as under_way
use Rattle.mon_resend.specs.declared.rows.Way.{Way}
use Rattle.mon_resend.specs.declared.rows.Way.TheVariants as way
use Rattle.mon_resend.specs.declared.shelf.Kept.{Kept}
use Rattle.mon_resend.specs.Again.{nothing, released_by, released, held_forward, happened, cleared, with_copy, first_kept, begun_as, begun, note_of, under_way_of, fits, continued_with, continued}
use Rattle.mon_resend.specs.Copied.{datagram}
use Rattle.mon_resend.specs.Datagrams.{part_of}
use Rattle.mon_resend.specs.Notes.{after, is_ended, is_spent}
use Rattle.mon_resend.specs.Rows.{way_of}
use Rattle.mon_resend.specs.Shelves.{applied, has_room, after_sending_if_due, due_sent, with_note}
use Rattle.mon_resend.specs.World.{box_of, with_box, begins, began, sent_part, sent, called_at, arrived, risen, whole_arrived, part_arrived, all_passed}
use Rattle.mon_resend.proofs.Steps as boxes

-- ---- of one monitor

abbrev pub Lasts : (List Kept → Type 0) → Type 0
Lasts P = (event : Event) (now : ℕ) (kept : List Kept) → P kept → P (applied event now kept)

-- one more, for which there is room
abbrev pub Grows : (List Kept → Type 0) → Outgoing → Type 0
Grows P out = (n : Note) (kept : List Kept) → has_room 1 (length out.bytes) kept ≡ true → P kept → P (kept ++ record { out = out; note = n } ∷ [])

module _ (P : List Kept → Type 0) (lasts : Lasts P) where
  of_released_by : (now : ℕ) (kept : List Kept) (held_forward : Option ℕ) → P kept → P (released_by now kept held_forward)
  of_released_by now kept None h = h
  of_released_by now kept (Some seq) h = lasts (Released seq) now kept h

  pub of_released : (now : ℕ) (kept : List Kept) → P kept → P (released now kept)
  of_released now kept h = of_released_by now kept (held_forward kept) h

  of_happened : (event : Event) (now : ℕ) (kept : List Kept) → P kept → P (happened event now kept)
  of_happened event now kept h = of_released now (applied event now kept) (lasts event now kept h)

  one_of : (x y : Outbox) (b : Bool) → P x.shelf → P y.shelf → P (cond b x y).shelf
  one_of x y true h g = h
  one_of x y false h g = g

  -- ---- with a copy of what is to be sent

  module _ (out : Outgoing) (grows : Grows P out) where
    if_copied : (n : Note) (kept : List Kept) (room memory : Bool) → has_room 1 (length out.bytes) kept ≡ room → P kept → P (cond (room && memory) (kept ++ record { out = out; note = n } ∷ []) kept)
    if_copied n kept true true e h = grows n kept e h
    if_copied n kept true false e h = h
    if_copied n kept false memory e h = h

    of_copied : (memory : Bool) (n : Note) (kept : List Kept) → P kept → P (with_copy memory out n kept)
    of_copied memory n kept h = if_copied n kept (has_room 1 (length out.bytes) kept) memory refl h

    of_first : (memory : Bool) (n : Note) (total : ℕ) (b : Outbox) → P b.shelf → P (first_kept memory out n total b).shelf
    of_first memory n total b h =
        one_of (record b { under_way = under_way_of n true; shelf = with_copy memory out n b.shelf }) (record b { under_way = under_way_of n false }) (fits n total b.shelf) (of_copied memory n b.shelf h) h

    of_begun_as : (w : Way) (memory : Bool) (h : Header) (total now : ℕ) (b : Outbox) → P b.shelf → P (begun_as w memory out h total now b).shelf
    of_begun_as way.Never memory h total now b g = g
    of_begun_as way.ByTime memory h total now b g = of_first memory (note_of h total (length out.bytes) now b) total b g
    of_begun_as way.WhenAsked memory h total now b g = of_first memory (note_of h total (length out.bytes) now b) total b g

    of_begun : (memory : Bool) (h : Header) (total now : ℕ) (b : Outbox) → P b.shelf → P (begun memory out h total now b).shelf
    of_begun memory h total now b g = of_begun_as (way_of h.kind) memory h total now (cleared h now b) (of_happened (Sent h.kind) now b.shelf g)

    of_continued : (u : UnderWay) (memory : Bool) (b : Outbox) → P b.shelf → P (continued_with u memory out b).shelf
    of_continued (under_way.Kept n) memory b h = of_copied memory n b.shelf h
    of_continued under_way.Lost memory b h = h
    of_continued under_way.Nothing memory b h = h

-- ---- of one of all monitors

abbrev pub At : (List Kept → Type 0) → ℕ → List Outbox → Type 0
At P r bs = P (get_or bs r nothing).shelf

pub each_at : (P Q : List Kept → Type 0) (f : Outbox → Outbox) → Q [] → ((b : Outbox) → P b.shelf → Q (f b).shelf) → (bs : List Outbox) (r : ℕ) → At P r bs → At Q r (map f bs)
each_at P Q f none a bs r h = boxes.each_at (λ kept u. P kept) (λ kept u. Q kept) f none a bs r h

module _ (P : List Kept → Type 0) (none : P []) (lasts : Lasts P) (r : ℕ) where
  abbrev Both : List Kept → UnderWay → Type 0
  Both kept u = P kept

  both_last : boxes.Lasts Both
  both_last event now kept u other h = of_happened P lasts event now kept h

  pub risen_at : (h : Header) (now : ℕ) (c : Copies) → At P r c.boxes → At P r (risen h now c).boxes
  risen_at h now c g = boxes.risen_at Both none both_last r h now c g

  -- after the epoch rose
  pub began_at : (memory : Bool) (rank : ℕ) (out : Outgoing) (h : Header) (total now : ℕ) (c : Copies) → Grows P out → At P r (risen h now c).boxes → At P r (began memory rank out h total now c).boxes
  began_at memory rank out h total now c grows g =
      boxes.put_at Both (begun memory out h total now) (λ b k. of_begun P lasts out grows memory h total now b k) (begins h now c).boxes rank r (boxes.begins_at Both none both_last r h now c g)

  pub continued_at : (memory : Bool) (rank : ℕ) (out : Outgoing) (c : Copies) → Grows P out → At P r c.boxes → At P r (with_box rank (continued memory out (box_of rank c)) c).boxes
  continued_at memory rank out c grows g = boxes.put_at Both (continued memory out) (λ b k. of_continued P lasts out grows b.under_way memory b k) c.boxes rank r g

  pub sent_part_at : (part : Option DatagramPart) (memory : Bool) (rank : ℕ) (bytes : List ℕ) (now : ℕ) (c : Copies) → Grows P (datagram (Monitor rank) bytes) → At P r c.boxes → At P r (sent_part part memory rank bytes now c).boxes
  sent_part_at (Some (Whole h)) memory rank bytes now c grows g = began_at memory rank (datagram (Monitor rank) bytes) h (length bytes) now c grows (risen_at h now c g)
  sent_part_at (Some (First h total)) memory rank bytes now c grows g = began_at memory rank (datagram (Monitor rank) bytes) h total now c grows (risen_at h now c g)
  sent_part_at (Some (Later p)) memory rank bytes now c grows g = continued_at memory rank (datagram (Monitor rank) bytes) c grows g
  sent_part_at None memory rank bytes now c grows g = g

  pub sent_at : (memory : Bool) (rank : ℕ) (bytes : List ℕ) (now : ℕ) (c : Copies) → Grows P (datagram (Monitor rank) bytes) → At P r c.boxes → At P r (sent memory rank bytes now c).boxes
  sent_at memory rank bytes now c grows g = sent_part_at (part_of bytes) memory rank bytes now c grows g

  pub called_at_at : (rank : ℕ) (h : Header) (now : ℕ) (c : Copies) → At P r c.boxes → At P r (called_at rank h now c).boxes
  called_at_at rank h now c g = boxes.called_at_at Both none both_last r rank h now c g

  -- after the epoch rose
  pub whole_arrived_at : (memory : Bool) (rank : ℕ) (h : Header) (bytes : List ℕ) (now : ℕ) (c : Copies) → At P r (risen h now c).boxes → At P r (whole_arrived memory rank h bytes now c).boxes
  whole_arrived_at memory rank h bytes now c g = boxes.whole_arrived_at Both none both_last r memory rank h bytes now c g

  pub part_arrived_at : (part : Option DatagramPart) (memory : Bool) (rank : ℕ) (bytes : List ℕ) (now : ℕ) (c : Copies) → At P r c.boxes → At P r (part_arrived part memory rank bytes now c).boxes
  part_arrived_at part memory rank bytes now c g = boxes.part_arrived_at Both none both_last r part memory rank bytes now c g

  pub arrived_at : (memory : Bool) (rank : ℕ) (bytes : List ℕ) (now : ℕ) (c : Copies) → At P r c.boxes → At P r (arrived memory rank bytes now c).boxes
  arrived_at memory rank bytes now c g = part_arrived_at (part_of bytes) memory rank bytes now c g

-- Time passes: what goes on the way is said of each note.
pub passed_at : (P Q : List Kept → Type 0) (none : Q []) (lasts : Lasts Q) (r : ℕ) (again : Bool) (now : ℕ) (c : Copies) → ((kept : List Kept) → P kept → Q (due_sent again now kept)) → At P r c.boxes → At Q r (all_passed again now c).boxes
passed_at P Q none lasts r again now c goes h =
    boxes.passed_at (λ kept u. P kept) (λ kept u. Q kept) none r again now c (λ kept u g. of_released Q lasts now (due_sent again now kept) (goes kept g)) h

-- what becomes of one monitor's copies
pub put_self : (P Q : List Kept → Type 0) (f : Outbox → Outbox) → Q [] → ((b : Outbox) → P b.shelf → Q (f b).shelf) → (bs : List Outbox) (r : ℕ) → At P r bs → At Q r (set bs r (f (get_or bs r nothing)))
put_self P Q f none a bs r h = boxes.put_own (λ kept u. Q kept) none bs r (f (get_or bs r nothing)) (a (get_or bs r nothing) h)

-- ---- of all monitors

-- fewer copies, with other notes
abbrev pub Thins : (List Kept → Type 0) → Type 0
Thins P = (f : Note → Note) (p : Kept → Bool) (kept : List Kept) → P kept → P (map (λ k. with_note (f k.note) k) (filter p kept))

abbrev pub AllKeep : (List Kept → Type 0) → Copies → Type 0
AllKeep P c = AllByRecursion (λ b. P b.shelf) c.boxes

module _ (P : List Kept → Type 0) (none : P []) (thins : Thins P) where
  one_of_all : (bs : List Outbox) (r : ℕ) → AllByRecursion (λ b. P b.shelf) bs → At P r bs
  one_of_all [] r h = none
  one_of_all (b ∷ bs) zero h = h.0
  one_of_all (b ∷ bs) (suc r) h = one_of_all bs r h.1

  all_of_each : (bs : List Outbox) → ((r : ℕ) → At P r bs) → AllByRecursion (λ b. P b.shelf) bs
  all_of_each [] h = tt
  all_of_each (b ∷ bs) h = (h zero, all_of_each bs (λ r. h (suc r)))

  lasts : Lasts P
  lasts event now kept h = thins (after event now) (λ k. not (is_ended event k.note)) kept h

  pub of_sent : (memory : Bool) (rank : ℕ) (bytes : List ℕ) (now : ℕ) (c : Copies) → Grows P (datagram (Monitor rank) bytes) → AllKeep P c → AllKeep P (sent memory rank bytes now c)
  of_sent memory rank bytes now c grows h =
      all_of_each (sent memory rank bytes now c).boxes (λ r. sent_at P none lasts r memory rank bytes now c grows (one_of_all c.boxes r h))

  pub of_arrived : (memory : Bool) (rank : ℕ) (bytes : List ℕ) (now : ℕ) (c : Copies) → AllKeep P c → AllKeep P (arrived memory rank bytes now c)
  of_arrived memory rank bytes now c h = all_of_each (arrived memory rank bytes now c).boxes (λ r. arrived_at P none lasts r memory rank bytes now c (one_of_all c.boxes r h))

  pub of_all_passed : (again : Bool) (now : ℕ) (c : Copies) → AllKeep P c → AllKeep P (all_passed again now c)
  of_all_passed again now c h =
      all_of_each (all_passed again now c).boxes
      (λ r. passed_at P P none lasts r again now c (λ kept g. thins (after_sending_if_due again now) (λ k. not (is_spent now k.note)) kept g) (one_of_all c.boxes r h))
