use Rattle.mon_stored.proofs.Picking.{join-first, join-last}
use Rattle.mon_stored.proofs.join.order_of.Goals as goal

pub loop-i-init : goal.loop-i-init
loop-i-init c = rw (c.new-order.ensures.items, c.empty-index.ensures) (join-first c.args.ops.now)

pub returns-clause-joined : goal.returns-clause-joined
returns-clause-joined c = join-last c.args.ops.now c.loop-i.i c.loop-i.order.items c.loop-i.index c.loop-i.invariant c.loop-i-test.false

pub returns-clause-below : goal.returns-clause-below
returns-clause-below c = c.loop-i.invariant.below
