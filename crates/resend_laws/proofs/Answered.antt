-- A message that arrives ends the copies that it answers.
use Rattle.std.specs.Prelude.{◌≡◌, ℕ, Bool, true, false, ◌||◌, not, refl, List, [], Option, Some}
use Rattle.std.specs.Str.{bytes_eq}
use Rattle.std.proofs.Common.{cond, sym, subst}
use Rattle.mon_decode.specs.declared.header.Header.{Header}
use Rattle.mon_decode.specs.Headers.{same_kind}
use Rattle.mon_link.specs.declared.link.Outgoing.{Outgoing}
use Rattle.mon_resend.specs.declared.copies.Copies.{Copies}
use Rattle.mon_resend.specs.declared.datagram.Part.{Part}
use Rattle.mon_resend.specs.declared.datagram.Part.TheVariants.{Whole}
use Rattle.mon_resend.specs.declared.note.Event.TheVariants.{Arrived}
use Rattle.mon_resend.specs.declared.note.Note.{Note}
use Rattle.mon_resend.specs.declared.outbox.Outbox.{Outbox}
use Rattle.mon_resend.specs.Again.{answered as asked_again, heard, received}
use Rattle.mon_resend.specs.Datagrams.{part_of}
use Rattle.mon_resend.specs.Notes.{after, is_ended}
use Rattle.mon_resend.specs.Rows.{is_answered}
use Rattle.mon_resend.specs.Shelves.{applied}
use Rattle.mon_resend.specs.World.{arrived, asks, called_at, received_at, is_dropped_at, is_part_taken, is_taken, part_arrived, risen}
use Rattle.mon_wire.specs.declared.kind.Kind.TheVariants as kind
use Rattle.resend_laws.specs.Copies.{EachOf, EachAt, IsOver, StaysOver}
use Rattle.resend_laws.proofs.Each.{IsStable, each_changed, each_lasts, no_not, over_lasts, stays_over}
use Rattle.resend_laws.proofs.Unchanged.{header_stays}
use Rattle.mon_resend.proofs.Walk.{of_released, risen_at, called_at_at, put_self}

abbrev IsAnswered : Header → Note → Type 0
IsAnswered h n = is_answered n.header h ≡ true

stable : (h : Header) → IsStable (IsAnswered h)
stable h event now n g = subst (λ k. is_answered k h ≡ true) (sym (header_stays event now n)) g

first_false : (a b : Bool) → (a || b) ≡ false → a ≡ false
first_false true b e = absurd cc
first_false false b e = refl

unless_dropped : (rank : ℕ) (x : Outgoing) (a b : Copies) (dropped : Bool) → dropped ≡ false → IsOver rank x b → IsOver rank x (cond dropped a b)
unless_dropped rank x a b true e h = absurd cc
unless_dropped rank x a b false e h = h

-- none of these questions
is_heard : (x : Outgoing) (begin forward chunk : Bool) (a b c d : Outbox) → ((begin || forward) || chunk) ≡ false → EachOf x (λ n. ⊥) c.shelf
    → EachOf x (λ n. ⊥) (cond begin a (cond forward b (cond (not chunk) c d))).shelf
is_heard x false false false a b c d e h = h
is_heard x true forward chunk a b c d e h = absurd cc
is_heard x false true chunk a b c d e h = absurd cc
is_heard x false false true a b c d e h = absurd cc

heard_over : (x : Outgoing) (h : Header) (now : ℕ) (b : Outbox) → EachOf x (IsAnswered h) b.shelf → EachOf x (λ n. ⊥) (heard h now b).shelf
heard_over x h now b g =
    of_released (EachOf x (λ n. ⊥)) (over_lasts x) now (applied (Arrived h) now b.shelf)
    (each_changed x (IsAnswered h) (λ n. ⊥) (after (Arrived h) now) (λ k. not (is_ended (Arrived h) k.note)) (λ k e f. no_not (is_answered k.note.header h) e f) b.shelf g)

received_over : (x : Outgoing) (memory : Bool) (h : Header) (bytes : List ℕ) (now : ℕ) (b : Outbox) → (asks h || same_kind h.kind kind.GetChunk) ≡ false → EachOf x (IsAnswered h) b.shelf → EachOf x (λ n. ⊥) (received memory h bytes now b).shelf
received_over x memory h bytes now b other g =
    let asked = record b { asked = cond memory bytes [] } in
    is_heard x (same_kind h.kind kind.Begin) (same_kind h.kind kind.Forward) (same_kind h.kind kind.GetChunk) (asked_again h now b) (asked_again h now b) (heard h now b)
    (cond (bytes_eq b.asked bytes) (asked_again h now b) (heard h now asked)) other (heard_over x h now b g)

arrived_over : (c : Copies) (memory : Bool) (rank : ℕ) (bytes : List ℕ) (now : ℕ) (h : Header) (x : Outgoing) → is_part_taken (Some (Whole h)) rank bytes now c ≡ false → (asks h || same_kind h.kind kind.GetChunk) ≡ false
    → EachAt rank x (IsAnswered h) c → IsOver rank x (part_arrived (Some (Whole h)) memory rank bytes now c)
arrived_over c memory rank bytes now h x taken other g =
    let P = EachOf x (IsAnswered h) in
    let lasts = each_lasts x (IsAnswered h) (stable h) in
    let rose = risen h now c in
    let p = called_at rank h now rose in
    let gp = called_at_at P tt lasts rank rank h now rose (risen_at P tt lasts rank h now c g) in
    let handed_up = first_false (is_dropped_at rank h now rose) _ taken in
    unless_dropped rank x p (received_at memory rank h bytes now p) (is_dropped_at rank h now rose) handed_up
    (put_self P (EachOf x (λ n. ⊥)) (received memory h bytes now) tt (λ b k. received_over x memory h bytes now b other k) p.boxes rank gp)

pub answered : (c : Copies) (memory : Bool) (rank : ℕ) (bytes : List ℕ) (now : ℕ) (h : Header) (x : Outgoing) → part_of bytes ≡ Some (Whole h) → is_taken rank bytes now c ≡ false
    → (asks h || same_kind h.kind kind.GetChunk) ≡ false → EachAt rank x (IsAnswered h) c → StaysOver rank x (arrived memory rank bytes now c)
answered c memory rank bytes now h x part taken other g =
    let over : (p : Option Part) → p ≡ Some (Whole h) → is_part_taken p rank bytes now c ≡ false → IsOver rank x (part_arrived p memory rank bytes now c) =
    λ p e t. subst (λ q. is_part_taken q rank bytes now c ≡ false → IsOver rank x (part_arrived q memory rank bytes now c)) (sym e) (λ u. arrived_over c memory rank bytes now h x u other g) t in
    stays_over rank x (arrived memory rank bytes now c) (over (part_of bytes) part taken)
