use Rattle.std.proofs.Common.{◌≡◌, drop}
use Rattle.mon_tx.specs.Map.{apply}
use Rattle.mon_kv.proofs.kv.Kv.apply.Given as goal

abbrev pub invariant-loop-op : goal.invariant-loop-op
invariant-loop-op l = apply (drop l.op-index l.op-items) l.self ≡ apply l.op-items l.fn.self
