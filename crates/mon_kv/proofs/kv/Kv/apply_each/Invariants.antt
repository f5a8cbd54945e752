use Rattle.std.proofs.Common.{◌≡◌}
use Rattle.mon_tx.specs.EncodedOp.{rest_of}
use Rattle.mon_kv.specs.Applied.{applied}
use Rattle.mon_kv.proofs.kv.Kv.apply_each.Given as goal

abbrev pub invariant-loop-op : goal.invariant-loop-op
invariant-loop-op l = applied l.self (rest_of l.ops) ≡ applied l.fn.self (rest_of l.fn.ops)

abbrev pub decreases-loop-op : goal.decreases-loop-op
decreases-loop-op l = l.ops.left
