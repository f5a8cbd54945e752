use Rattle.std.proofs.Common.{arith}
use Rattle.mon_bounds.specs.Fitting.{IsNamed}
use Rattle.mon_core.proofs.Naming.{all_seen, one_more}
use Rattle.mon_core.proofs.names.see_entries.Goals as goal

pub loop-entry-preserved : goal.loop-entry-preserved
loop-entry-preserved c =
    one_more IsNamed c.args.entries.now c.loop-entry.entry-index c.entry-item.result (omega arith) c.entry-item.is c.loop-entry.invariant c.see_entry.ensures

pub returns : goal.returns
returns c = all_seen IsNamed c.args.entries.now c.loop-entry.entry-index (omega arith) c.loop-entry.invariant
