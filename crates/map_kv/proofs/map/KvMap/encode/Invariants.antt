use Rattle.std.proofs.Common.{◌≡◌, ◌++◌}
use Rattle.std.specs.List.{flat_map, AllByRecursion}
use Rattle.map_kv.specs.Text.{map_text, entry_text, EntryFits}
use Rattle.map_kv.specs.Kept.{pairs}
use Rattle.map_kv.proofs.map.KvMap.encode.Given as goal

abbrev pub invariant-loop-key : goal.invariant-loop-key
invariant-loop-key l = (l.out ++ flat_map entry_text (pairs l.key-iterator) ≡ map_text l.self) × AllByRecursion EntryFits (pairs l.key-iterator)
