use Rattle.std.proofs.Common.{◌≡◌, not, filter}
use Rattle.mon_resend.specs.Notes.{after, is_ended}
use Rattle.mon_resend.specs.Shelves.{with_note}
use Rattle.mon_resend.proofs.InPlace.{changed_to}
use Rattle.mon_resend.proofs.shelf.Shelf.apply.Given as goal

abbrev pub invariant-loop-kept : goal.invariant-loop-kept
invariant-loop-kept l = l.kept-items ≡ changed_to (λ k. with_note (after l.event l.now k.note) k) l.kept-index (filter (λ k. not (is_ended l.event k.note)) l.fn.self)
