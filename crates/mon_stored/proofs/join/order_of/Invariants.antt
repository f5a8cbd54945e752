use Rattle.mon_stored.specs.Joining.{IsJoined}
use Rattle.mon_stored.proofs.join.order_of.Given as goal

abbrev pub invariant-loop-i : goal.invariant-loop-i
invariant-loop-i l = IsJoined l.ops l.i l.order.items l.index
