use Rattle.std.proofs.Common.{◌≡◌, take}
use Rattle.map_log.proofs.map.LogMap.copy.Given as goal

abbrev pub invariant-loop-inc : goal.invariant-loop-inc
invariant-loop-inc l = l.copied ≡ take l.inc-index l.self-inside.entries.items
