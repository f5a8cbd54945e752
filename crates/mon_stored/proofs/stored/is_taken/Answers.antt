use Rattle.mon_msg.specs.Joined.{takes_away}
use Rattle.mon_stored.proofs.Loops.{any-next, any-there, any-none}
use Rattle.mon_stored.proofs.stored.is_taken.Goals as goal

pub returns-then-takes_away : goal.returns-then-takes_away
returns-then-takes_away c =
    any-there (takes_away (c.args.at.now.prefix.now, c.args.at.now.text.now)) c.args.ops.now c.loop-op.op-index c.op-item.result c.loop-op-test.true c.op-item.is c.if-takes_away.ensures

pub loop-op-preserved : goal.loop-op-preserved
loop-op-preserved c =
    any-next c.args.ops.now c.loop-op.op-index c.op-item.result c.loop-op-test.true c.op-item.is (takes_away (c.args.at.now.prefix.now, c.args.at.now.text.now)) c.loop-op.invariant c.if-takes_away.ensures

pub returns : goal.returns
returns c = any-none (takes_away (c.args.at.now.prefix.now, c.args.at.now.text.now)) c.args.ops.now c.loop-op.op-index c.loop-op.invariant c.loop-op-test.false
