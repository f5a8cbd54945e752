use Rattle.std.proofs.Common.{◌≡◌, take}
use Rattle.mon_tx.proofs.transaction.Transaction.copy.Given as goal

abbrev pub invariant-loop-op : goal.invariant-loop-op
invariant-loop-op l = l.ops.items ≡ take l.op-index l.op-items
