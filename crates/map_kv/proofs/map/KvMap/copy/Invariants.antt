use Rattle.std.proofs.Common.{◌≡◌, ◌++◌}
use Rattle.map_kv.specs.Kept.{pairs}
use Rattle.map_kv.proofs.map.KvMap.copy.Given as goal

abbrev pub invariant-loop-key : goal.invariant-loop-key
invariant-loop-key l = pairs l.entries.items ++ pairs l.key-iterator ≡ pairs l.self-inside.entries.entries
