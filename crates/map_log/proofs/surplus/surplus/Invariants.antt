use Rattle.std.proofs.Common.{◌≡◌, ◌+◌, drop}
use Rattle.map_log.specs.Map.{trimmed}
use Rattle.map_log.specs.Text.{size_of}
use Rattle.map_log.proofs.surplus.surplus.Given as goal

abbrev pub invariant-loop-i : goal.invariant-loop-i
invariant-loop-i l = (trimmed (drop l.i l.entries) ≡ trimmed l.entries) × (l.size ≡ 4 + size_of (drop l.i l.entries))
