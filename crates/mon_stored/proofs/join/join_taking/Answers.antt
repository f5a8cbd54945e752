use Rattle.mon_stored.proofs.Picking.{join-takes}
use Rattle.mon_stored.proofs.join.join_taking.Goals as goal

pub returns : goal.returns
returns c =
    rw c.in_ok-push.ensures.items
    (join-takes c.args.ops.now c.args.i c.args.order.now.items c.args.index.now c.requires.joined c.requires.within c.args.op.now c.make.new.index c.requires.here c.requires.taking c.in_ok-make.ensures)
