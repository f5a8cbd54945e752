use Rattle.std.proofs.Common.{◌≡◌, take, filter}
use Rattle.mon_stored.specs.Taking.{is_taking}
use Rattle.mon_stored.proofs.stored.taken_by.Given as goal

abbrev pub invariant-loop-op : goal.invariant-loop-op
invariant-loop-op l = l.taken.items ≡ filter is_taking (take l.op-index l.ops)
