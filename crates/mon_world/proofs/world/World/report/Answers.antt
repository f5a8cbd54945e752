use Rattle.std.proofs.Common.{◌≤◌, List, length, sym, subst, arith}
use Rattle.mon_tx.specs.Text.{text, most}
use Rattle.mon_tx.specs.declared.op.Op.{Op}
use Rattle.mon_world.proofs.Sizes.{few}
use Rattle.mon_world.proofs.world.World.report.Goals as goal

pub overflow_cast-result : goal.overflow_cast-result
overflow_cast-result c =
    let short = few c.ops.result.now (subst (λ (tx : List Op). length (text tx) ≤ most) (sym c.ops.ensures.value) c.requires) in
    omega arith
