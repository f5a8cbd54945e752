use Rattle.std.proofs.Common.{arith}
use Rattle.mon_core.specs.Reacts.{SendsNamed}
use Rattle.mon_core.proofs.Naming.{all_seen, one_more}
use Rattle.mon_core.proofs.names.see_named.Goals as goal

pub loop-sent-preserved : goal.loop-sent-preserved
loop-sent-preserved c =
    one_more SendsNamed c.args.out.now c.loop-sent.sent-index c.sent-item.result (omega arith) c.sent-item.is c.loop-sent.invariant c.see_sent.ensures

pub returns : goal.returns
returns c = all_seen SendsNamed c.args.out.now c.loop-sent.sent-index (omega arith) c.loop-sent.invariant
