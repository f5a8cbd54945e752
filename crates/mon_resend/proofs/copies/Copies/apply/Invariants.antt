use Rattle.std.proofs.Common.{◌≡◌}
use Rattle.mon_resend.specs.World.{with_event}
use Rattle.mon_resend.proofs.InPlace.{changed_to}
use Rattle.mon_resend.proofs.copies.Copies.apply.Given as goal

abbrev pub invariant-loop-place : goal.invariant-loop-place
invariant-loop-place l = l.self ≡ record l.fn.self { boxes = changed_to (λ b. with_event l.event l.now b) l.place l.fn.self.boxes }
