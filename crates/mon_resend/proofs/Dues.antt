-- When the first of some copies is due.
use Rattle.std.specs.Prelude.{◌≡◌, ℕ, zero, suc, ◌+◌, ◌<◌, min, List, [], ◌∷◌, length, take, refl}
use Rattle.std.proofs.Common.{arith, subst}
use Rattle.std.proofs.Math.ListN.{get_or}
use Rattle.mon_resend.specs.declared.outbox.Outbox.{Outbox}
use Rattle.mon_resend.specs.declared.shelf.Kept.{Kept}
use Rattle.mon_resend.specs.Again.{nothing}
use Rattle.mon_resend.specs.Shelves.{first_due}
use Rattle.mon_resend.specs.World.{boxes_due}

pub due_more : (xs : List Kept) (i : ℕ) (d : Kept) → i < length xs → first_due (take (suc i) xs) ≡ min (first_due (take i xs)) (get_or xs i d).note.due
due_more [] i d lt = absurd (omega arith)
due_more (x ∷ xs) zero d lt = omega arith
due_more (x ∷ xs) (suc i) d lt = let m = due_more xs i d (omega arith) in omega (arith, m)

boxes_one : (xs : List Outbox) (i : ℕ) → boxes_due (take (suc i) xs) ≡ min (boxes_due (take i xs)) (first_due (get_or xs i nothing).shelf)
boxes_one [] zero = refl
boxes_one [] (suc i) = refl
boxes_one (x ∷ xs) zero = omega arith
boxes_one (x ∷ xs) (suc i) = let m = boxes_one xs i in omega (arith, m)

pub boxes_next : (xs : List Outbox) (i : ℕ) → boxes_due (take (i + 1) xs) ≡ min (boxes_due (take i xs)) (first_due (get_or xs i nothing).shelf)
boxes_next xs i =
    let up : suc i ≡ i + 1 = omega arith in
    subst (λ m. boxes_due (take m xs) ≡ min (boxes_due (take i xs)) (first_due (get_or xs i nothing).shelf)) up (boxes_one xs i)
