use Rattle.std.proofs.Common.{◌≡◌, not, filter}
use Rattle.mon_resend.specs.Notes.{is_spent}
use Rattle.mon_resend.specs.Shelves.{after_sending_if_due, with_note}
use Rattle.mon_resend.proofs.InPlace.{changed_to}
use Rattle.mon_resend.proofs.shelf.Shelf.due_sent.Given as goal

abbrev pub invariant-loop-kept : goal.invariant-loop-kept
invariant-loop-kept l = l.kept-items ≡ changed_to (λ k. with_note (after_sending_if_due l.again l.now k.note) k) l.kept-index (filter (λ k. not (is_spent l.now k.note)) l.fn.self)
