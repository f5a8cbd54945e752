use Rattle.mon_resend.specs.Again.{passed}
use Rattle.mon_resend.proofs.Boxes.{box_next}
use Rattle.mon_resend.proofs.copies.Copies.passes.Goals as goal

pub loop-place-preserved : goal.loop-place-preserved
loop-place-preserved c = box_next (λ b. passed c.args.again c.args.now b) c.loop-place.place c.args.self.now c.loop-place.self c.pass_at.new.self c.loop-place.invariant c.pass_at.ensures
