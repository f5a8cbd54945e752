use Rattle.std.proofs.Common.{◌≡◌, ◌+◌, length}
use Rattle.std.specs.FinMap.{len}
use Rattle.mon_store.proofs.Walks.{left}
use Rattle.mon_store.proofs.checkpoint.count.Given as goal

abbrev pub invariant-loop-next : goal.invariant-loop-next
invariant-loop-next l = l.count + length (left l.kv l.next) ≡ len l.kv

abbrev pub decreases-loop-next : goal.decreases-loop-next
decreases-loop-next l = length (left l.kv l.next)
