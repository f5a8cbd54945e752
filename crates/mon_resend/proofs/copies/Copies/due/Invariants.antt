use Rattle.std.proofs.Common.{◌≡◌, take}
use Rattle.mon_resend.specs.World.{boxes_due}
use Rattle.mon_resend.proofs.copies.Copies.due.Given as goal

abbrev pub invariant-loop-place : goal.invariant-loop-place
invariant-loop-place l = l.due ≡ boxes_due (take l.place l.self.boxes)
