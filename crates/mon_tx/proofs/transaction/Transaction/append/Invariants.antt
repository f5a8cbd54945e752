use Rattle.std.proofs.Common.{◌≡◌, ◌++◌, take}
use Rattle.mon_tx.proofs.transaction.Transaction.append.Given as goal

abbrev pub invariant-loop-op : goal.invariant-loop-op
invariant-loop-op l = l.self ≡ l.fn.self ++ take l.op-index l.op-items
