-- The copies of a datagram leave.
use Rattle.std.specs.Prelude.{◌≡◌, ◌⊎◌, ℕ, zero, suc, ◌+◌, ◌≤◌, List, [], ◌∷◌, if◌then◌else◌}
use Rattle.mon_link.specs.declared.link.Outgoing.{Outgoing}
use Rattle.mon_link.specs.declared.link.Peer.TheVariants.{Monitor}
use Rattle.mon_resend.specs.declared.copies.Copies.{Copies}
use Rattle.mon_resend.specs.declared.note.Note.{Note}
use Rattle.mon_resend.specs.declared.shelf.Kept.{Kept}
use Rattle.mon_resend.specs.Copied.{IsOneOf, datagram}
use Rattle.mon_resend.specs.World.{all_due_copies, box_of, is_sent_now}
use Rattle.resend_laws.specs.Copies.{IsTried}
use Rattle.resend_laws.specs.Runs.{Step, Sends, Hears, Passes, step}

-- what the link is asked to send in a step
abbrev pub leaving : Step → Copies → List Outgoing
leaving (Sends memory to bytes now) c = if is_sent_now to bytes now c then datagram (Monitor to) bytes ∷ [] else []
leaving (Hears memory from bytes now) c = []
leaving (Passes again now) c = all_due_copies again now c

-- x leaves in at least n of these steps
abbrev pub LeavesIn : ℕ → Outgoing → List Step → Copies → Type 0
LeavesIn zero x steps c = Unit {0}
LeavesIn (suc n) x [] c = ⊥
LeavesIn (suc n) x (s ∷ steps) c =
    (IsOneOf (leaving s c) x × LeavesIn n x steps (step s c)) ⊎ LeavesIn (suc n) x steps (step s c)

-- ---- a copy is kept

-- some copy of x has a note of which this holds
abbrev pub SomeOf : Outgoing → (Note → Type 0) → List Kept → Type 0
SomeOf x Holds [] = ⊥
SomeOf x Holds (k ∷ kept) = ((k.out ≡ x) × Holds k.note) ⊎ SomeOf x Holds kept

-- such a copy is kept for the monitor
abbrev pub SomeAt : (rank : ℕ) → Outgoing → (Note → Type 0) → Copies → Type 0
SomeAt rank x Holds c = SomeOf x Holds (box_of rank c).shelf

abbrev pub IsKept : (rank : ℕ) → Outgoing → Copies → Type 0
IsKept rank x c = SomeAt rank x (λ n. Unit {0}) c

-- nothing that is sent or arrives ends the last copy of x
abbrev pub IsNotEnded : (rank : ℕ) → Outgoing → List Step → Copies → Type 0
IsNotEnded rank x [] c = Unit {0}
IsNotEnded rank x (Sends memory to bytes now ∷ steps) c =
    IsKept rank x (step (Sends memory to bytes now) c)
    × IsNotEnded rank x steps (step (Sends memory to bytes now) c)
IsNotEnded rank x (Hears memory from bytes now ∷ steps) c =
    IsKept rank x (step (Hears memory from bytes now) c)
    × IsNotEnded rank x steps (step (Hears memory from bytes now) c)
IsNotEnded rank x (Passes again now ∷ steps) c = IsNotEnded rank x steps (step (Passes again now) c)

-- The copy is sent again by time, and wasn't sent as a copy yet.
pub record IsUntried (wait since : ℕ) (n : Note) : Type 0 where
  pub tried : IsTried wait since n
  pub times : n.times ≡ 0

-- The copy was sent once more, and is due again after `wait` at most.
pub record IsDueAgain (wait now : ℕ) (old new : Note) : Type 0 where
  pub times : new.times ≡ suc old.times
  pub every : new.every ≤ wait
  pub due : new.due ≤ now + wait
