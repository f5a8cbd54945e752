-- What is kept after each step is some of what was kept before it, or what was to be sent.
use Rattle.std.specs.Prelude.{ℕ, Bool, true, false, List, [], ◌∷◌, ◌++◌, map, filter}
use Rattle.std.specs.List.{AllByRecursion, flat_map}
use Rattle.std.proofs.Common.{cond, inr, subst, sym}
use Rattle.std.proofs.lemmas.List.{map-append}
use Rattle.mon_link.specs.declared.link.Got.{Got}
use Rattle.mon_link.specs.declared.link.Got.TheVariants.{Datagram, Idle, Closed}
use Rattle.mon_link.specs.declared.link.Outgoing.{Outgoing}
use Rattle.mon_link.specs.declared.link.Peer.TheVariants.{Monitor, Client}
use Rattle.mon_resend.specs.declared.copies.Copies.{Copies}
use Rattle.mon_resend.specs.declared.note.Note.{Note}
use Rattle.mon_resend.specs.declared.outbox.Outbox.{Outbox}
use Rattle.mon_resend.specs.declared.shelf.Kept.{Kept}
use Rattle.mon_resend.specs.Copied.{AreOf, datagram}
use Rattle.mon_resend.specs.Notes.{is_due}
use Rattle.mon_resend.specs.Sending.{outs, with_got}
use Rattle.mon_resend.specs.Shelves.{due_copies, with_note}
use Rattle.mon_resend.specs.World.{sent, all_passed, all_due_copies}
use Rattle.mon_resend.proofs.Parts.{same, more, both, one_left, one_right}
use Rattle.mon_resend.proofs.Walk.{Thins, Grows, of_sent, of_arrived, of_all_passed}

abbrev outs_on : List Kept → List Outgoing
outs_on kept = map (λ k. k.out) kept

-- all of these are among those
abbrev IsAmong : List Outgoing → List Kept → Type 0
IsAmong those kept = AreOf those (outs_on kept)

none_among : (those : List Outgoing) → IsAmong those []
none_among those = record { each = λ x h. absurd h }

if_first : (f : Note → Note) (those : List Outgoing) (k : Kept) (kept : List Kept) (b : Bool) → AreOf those (k.out ∷ []) → IsAmong those (map (λ k. with_note (f k.note) k) kept)
    → IsAmong those (map (λ k. with_note (f k.note) k) (cond b (k ∷ kept) kept))
if_first f those k kept true one a = both those (k.out ∷ []) (outs_on (map (λ k. with_note (f k.note) k) kept)) one a
if_first f those k kept false one a = a

lasts_among : (those : List Outgoing) → Thins (IsAmong those)
lasts_among those f p [] h = h
lasts_among those f p (k ∷ kept) h =
    if_first f those k (filter p kept) (p k) (record { each = λ x g. h.each x (one_left (k.out ∷ []) (outs_on kept) x g) })
    (lasts_among those f p kept (record { each = λ x g. h.each x (inr g) }))

grows_among : (those : List Outgoing) (out : Outgoing) → AreOf those (out ∷ []) → Grows (IsAmong those) out
grows_among those out one n kept room h =
    subst (AreOf those) (sym (map-append (λ k. k.out) kept (record { out = out; note = n } ∷ []))) (both those (outs_on kept) (out ∷ []) h one)

-- ---- for all monitors

split : (those : List Outgoing) (bs : List Outbox) → AreOf those (flat_map (λ b. outs_on b.shelf) bs) → AllByRecursion (λ b. IsAmong those b.shelf) bs
split those [] h = tt
split those (b ∷ bs) h =
    let others = flat_map (λ b. outs_on b.shelf) bs in
    (record { each = λ x g. h.each x (one_left (outs_on b.shelf) others x g) }, split those bs (record { each = λ x g. h.each x (one_right (outs_on b.shelf) others x g) }))

joined : (those : List Outgoing) (bs : List Outbox) → AllByRecursion (λ b. IsAmong those b.shelf) bs → AreOf those (flat_map (λ b. outs_on b.shelf) bs)
joined those [] h = none_among those
joined those (b ∷ bs) h = both those (outs_on b.shelf) (flat_map (λ b. outs_on b.shelf) bs) h.0 (joined those bs h.1)

pub sent_among : (memory : Bool) (rank : ℕ) (bytes : List ℕ) (now : ℕ) (c : Copies) → AreOf (outs c ++ datagram (Monitor rank) bytes ∷ []) (outs (sent memory rank bytes now c))
sent_among memory rank bytes now c =
    let out = datagram (Monitor rank) bytes in
    let those = outs c ++ out ∷ [] in
    joined those (sent memory rank bytes now c).boxes
    (of_sent (IsAmong those) (none_among those) (lasts_among those) memory rank bytes now c
    (grows_among those out (record { each = λ x h. one_right (outs c) (out ∷ []) x h }))
    (split those c.boxes (more (outs c) (out ∷ []))))

pub got_among : (memory : Bool) (g : Got) (now : ℕ) (c : Copies) → AreOf (outs c) (outs (with_got memory g now c))
got_among memory (Datagram (Monitor rank) bytes) now c =
    joined (outs c) (with_got memory (Datagram (Monitor rank) bytes) now c).boxes
    (of_arrived (IsAmong (outs c)) (none_among (outs c)) (lasts_among (outs c)) memory rank bytes now c (split (outs c) c.boxes (same (outs c))))
got_among memory (Datagram (Client number) bytes) now c = same (outs c)
got_among memory Idle now c = same (outs c)
got_among memory Closed now c = same (outs c)

pub all_passed_among : (again : Bool) (now : ℕ) (c : Copies) → AreOf (outs c) (outs (all_passed again now c))
all_passed_among again now c =
    joined (outs c) (all_passed again now c).boxes
    (of_all_passed (IsAmong (outs c)) (none_among (outs c)) (lasts_among (outs c)) again now c (split (outs c) c.boxes (same (outs c))))

-- ---- copies that are sent

if_goes : (those : List Outgoing) (k : Kept) (kept : List Kept) (b : Bool) → AreOf those (k.out ∷ []) → IsAmong those kept → IsAmong those (cond b (k ∷ kept) kept)
if_goes those k kept true one a = both those (k.out ∷ []) (outs_on kept) one a
if_goes those k kept false one a = a

due_copies_among : (those : List Outgoing) (again : Bool) (now : ℕ) (kept : List Kept) → IsAmong those kept → AreOf those (due_copies again now kept)
due_copies_among those again now [] h = h
due_copies_among those again now (k ∷ kept) h =
    if_goes those k (filter (λ k. is_due again now k.note) kept) (is_due again now k.note) (record { each = λ x g. h.each x (one_left (k.out ∷ []) (outs_on kept) x g) })
    (due_copies_among those again now kept (record { each = λ x g. h.each x (inr g) }))

each_due_copy : (those : List Outgoing) (again : Bool) (now : ℕ) (bs : List Outbox) → AllByRecursion (λ b. IsAmong those b.shelf) bs → AreOf those (flat_map (λ b. due_copies again now b.shelf) bs)
each_due_copy those again now [] h = none_among those
each_due_copy those again now (b ∷ bs) h =
    both those (due_copies again now b.shelf) (flat_map (λ b. due_copies again now b.shelf) bs) (due_copies_among those again now b.shelf h.0) (each_due_copy those again now bs h.1)

pub due_among : (again : Bool) (now : ℕ) (c : Copies) → AreOf (outs c) (all_due_copies again now c)
due_among again now c = each_due_copy (outs c) again now c.boxes (split (outs c) c.boxes (same (outs c)))
