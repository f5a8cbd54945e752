-- The copies that are kept for one monitor, in the order in which they were given to send.
use Rattle.std.specs.Prelude.{ℕ, ◌-◌, ◌^◌, min, Bool, ◌&&◌, not, nat_le, List, [], ◌∷◌, length, map, filter, Option, None, Some, if◌then◌else◌}
use Rattle.std.specs.List.{sum_by}
use Rattle.mon_link.specs.declared.link.Outgoing.{Outgoing}
use Rattle.mon_resend.specs.declared.note.Event.{Event}
use Rattle.mon_resend.specs.declared.note.Note.{Note}
use Rattle.mon_resend.specs.declared.note.TheConstants.{NEVER}
use Rattle.mon_resend.specs.declared.shelf.Kept.{Kept}
use Rattle.mon_resend.specs.declared.shelf.TheConstants.{MOST_KEPT, MOST_KEPT_BYTES}
use Rattle.mon_resend.specs.Notes.{plus, is_ended, after, is_due, after_sending, is_spent}

abbrev pub bytes_of : List Kept → ℕ
bytes_of kept = min (sum_by (λ k. length k.out.bytes) kept) (2 ^ 64 - 1)

abbrev pub has_room : (datagrams bytes : ℕ) → List Kept → Bool
has_room datagrams bytes kept = nat_le (plus (length kept) datagrams) MOST_KEPT && nat_le (plus (bytes_of kept) bytes) MOST_KEPT_BYTES

abbrev pub with_note : Note → Kept → Kept
with_note n k = record k { note = n }

-- An event drops the copies that it ends, and changes the notes of others.
abbrev pub applied : Event → ℕ → List Kept → List Kept
applied event now kept = map (λ k. with_note (after event now k.note) k) (filter (λ k. not (is_ended event k.note)) kept)

-- ---- time

-- when the next copy is due
abbrev pub first_due : List Kept → ℕ
first_due [] = NEVER
first_due (k ∷ kept) = min k.note.due (first_due kept)

-- the copies that are to be sent now
abbrev pub due_kept : Bool → ℕ → List Kept → List Kept
due_kept again now kept = filter (λ k. is_due again now k.note) kept

abbrev pub due_copies : Bool → ℕ → List Kept → List Outgoing
due_copies again now kept = map (λ k. k.out) (due_kept again now kept)

abbrev pub due_copy_at : Bool → ℕ → Option Kept → List Outgoing
due_copy_at again now None = []
due_copy_at again now (Some k) = if is_due again now k.note then k.out ∷ [] else []

abbrev pub after_sending_if_due : Bool → ℕ → Note → Note
after_sending_if_due again now n = if is_due again now n then after_sending now n else n

-- The due copies were sent. Those that had been sent often enough before are dropped.
abbrev pub due_sent : Bool → ℕ → List Kept → List Kept
due_sent again now kept =
    map (λ k. with_note (after_sending_if_due again now k.note) k) (filter (λ k. not (is_spent now k.note)) kept)
