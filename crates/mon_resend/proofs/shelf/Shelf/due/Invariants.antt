use Rattle.std.proofs.Common.{◌≡◌, take}
use Rattle.mon_resend.specs.Shelves.{first_due}
use Rattle.mon_resend.proofs.shelf.Shelf.due.Given as goal

abbrev pub invariant-loop-kept : goal.invariant-loop-kept
invariant-loop-kept l = l.due ≡ first_due (take l.kept-index l.self)
