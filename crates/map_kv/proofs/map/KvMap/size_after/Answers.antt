use Rattle.std.proofs.Common.{arith}
use Rattle.map_kv.proofs.Removed.{length_removed}
use Rattle.map_kv.proofs.map.KvMap.size_after.Goals as goal

pub overflow_sub-result : goal.overflow_sub-result
overflow_sub-result c = omega (arith, length_removed c.args.self.now c.in-Remove.key, c.size.ensures.size, rw c.as_str.ensures.value at c.held.ensures)
