use Rattle.std.proofs.Common.{[], ◌∷◌, ◌++◌, sym, ◌∙◌}
use Rattle.mon_stored.specs.Taking.{is_taking}
use Rattle.mon_stored.proofs.Loops.{filter-skips, filter-takes}
use Rattle.mon_stored.proofs.stored.taken_by.Goals as goal

pub loop-op-preserved-then-not-is_taking : goal.loop-op-preserved-then-not-is_taking
loop-op-preserved-then-not-is_taking c =
    c.loop-op.invariant ∙ sym (filter-skips c.args.ops.now c.loop-op.op-index c.op-item.result c.loop-op-test.true c.op-item.is is_taking (sym c.is_taking.ensures ∙ c.if-not-is_taking.true))

pub loop-op-preserved : goal.loop-op-preserved
loop-op-preserved c =
    c.in_ok-push.ensures.items ∙ (λ i. c.loop-op.invariant i ++ c.in_ok-copy.ensures i ∷ [])
    ∙ sym (filter-takes c.args.ops.now c.loop-op.op-index c.op-item.result c.loop-op-test.true c.op-item.is is_taking (sym c.is_taking.ensures ∙ c.if-not-is_taking.false))
