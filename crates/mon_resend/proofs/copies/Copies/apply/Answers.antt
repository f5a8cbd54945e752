use Rattle.mon_resend.specs.World.{with_event}
use Rattle.mon_resend.proofs.Boxes.{box_next}
use Rattle.mon_resend.proofs.copies.Copies.apply.Goals as goal

pub loop-place-preserved : goal.loop-place-preserved
loop-place-preserved c = box_next (λ b. with_event c.args.event c.args.now b) c.loop-place.place c.args.self.now c.loop-place.self c.apply_at.new.self c.loop-place.invariant c.apply_at.ensures
