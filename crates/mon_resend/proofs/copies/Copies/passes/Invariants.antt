use Rattle.std.proofs.Common.{◌≡◌}
use Rattle.mon_resend.specs.Again.{passed}
use Rattle.mon_resend.proofs.InPlace.{changed_to}
use Rattle.mon_resend.proofs.copies.Copies.passes.Given as goal

abbrev pub invariant-loop-place : goal.invariant-loop-place
invariant-loop-place l = l.self ≡ record l.fn.self { boxes = changed_to (λ b. passed l.again l.now b) l.place l.fn.self.boxes }
