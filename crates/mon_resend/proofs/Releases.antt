-- The copies that are sent, one datagram and one monitor after the other.
use Rattle.std.specs.Prelude.{◌≡◌, ℕ, zero, suc, ◌+◌, ◌<◌, Bool, true, false, List, [], ◌∷◌, ◌++◌, length, map, filter, take, slice_get, get_or, refl}
use Rattle.std.specs.List.{flat_map}
use Rattle.std.proofs.Common.{cond, ap, sym, subst, arith, ◌∙◌, append_assoc}
use Rattle.std.proofs.lemmas.List.{append-nil}
use Rattle.mon_link.specs.declared.link.Outgoing.{Outgoing}
use Rattle.mon_resend.specs.declared.outbox.Outbox.{Outbox}
use Rattle.mon_resend.specs.declared.shelf.Kept.{Kept}
use Rattle.mon_resend.specs.Again.{nothing}
use Rattle.mon_resend.specs.Notes.{is_due}
use Rattle.mon_resend.specs.Shelves.{due_copies, due_copy_at}

first_one : (x : Kept) (b : Bool) → map (λ k. k.out) (cond b (x ∷ []) []) ≡ cond b (x.out ∷ []) []
first_one x true = refl
first_one x false = refl

later_one : (x : Kept) (b : Bool) (fs gs : List Kept) (more : List Outgoing) → map (λ k. k.out) fs ≡ map (λ k. k.out) gs ++ more
    → map (λ k. k.out) (cond b (x ∷ fs) fs) ≡ map (λ k. k.out) (cond b (x ∷ gs) gs) ++ more
later_one x true fs gs more e = ap (λ l. x.out ∷ l) e
later_one x false fs gs more e = e

pub due_copies_more : (again : Bool) (now : ℕ) (kept : List Kept) (at : ℕ) → at < length kept → due_copies again now (take (suc at) kept) ≡ due_copies again now (take at kept) ++ due_copy_at again now (slice_get kept at)
due_copies_more again now [] at lt = absurd (omega arith)
due_copies_more again now (x ∷ kept) zero lt = first_one x (is_due again now x.note)
due_copies_more again now (x ∷ kept) (suc at) lt =
    later_one x (is_due again now x.note) (filter (λ k. is_due again now k.note) (take (suc at) kept)) (filter (λ k. is_due again now k.note) (take at kept))
    (due_copy_at again now (slice_get kept at)) (due_copies_more again now kept at (omega arith))

pub all_more : (again : Bool) (now : ℕ) (bs : List Outbox) (i : ℕ)
    → flat_map (λ b. due_copies again now b.shelf) (take (suc i) bs) ≡ flat_map (λ b. due_copies again now b.shelf) (take i bs) ++ due_copies again now (get_or bs i nothing).shelf
all_more again now [] zero = refl
all_more again now [] (suc i) = refl
all_more again now (b ∷ bs) zero = append-nil (due_copies again now b.shelf)
all_more again now (b ∷ bs) (suc i) =
    ap (λ l. due_copies again now b.shelf ++ l) (all_more again now bs i)
    ∙ sym (append_assoc (due_copies again now b.shelf) (flat_map (λ b. due_copies again now b.shelf) (take i bs)) (due_copies again now (get_or bs i nothing).shelf))

pub due_copies_next : (again : Bool) (now : ℕ) (kept : List Kept) (at : ℕ) → at < length kept → due_copies again now (take (at + 1) kept) ≡ due_copies again now (take at kept) ++ due_copy_at again now (slice_get kept at)
due_copies_next again now kept at lt =
    let up : suc at ≡ at + 1 = omega arith in
    subst (λ m. due_copies again now (take m kept) ≡ due_copies again now (take at kept) ++ due_copy_at again now (slice_get kept at)) up (due_copies_more again now kept at lt)

pub all_next : (again : Bool) (now : ℕ) (bs : List Outbox) (i : ℕ)
    → flat_map (λ b. due_copies again now b.shelf) (take (i + 1) bs) ≡ flat_map (λ b. due_copies again now b.shelf) (take i bs) ++ due_copies again now (get_or bs i nothing).shelf
all_next again now bs i =
    let up : suc i ≡ i + 1 = omega arith in
    subst (λ m. flat_map (λ b. due_copies again now b.shelf) (take m bs) ≡ flat_map (λ b. due_copies again now b.shelf) (take i bs) ++ due_copies again now (get_or bs i nothing).shelf) up (all_more again now bs i)
