use Rattle.std.proofs.Common.{◌≡◌, ◌++◌, length, take}
use Rattle.std.specs.List.{flat_map}
use Rattle.mon_bytes.specs.Forms.{u32_bytes}
use Rattle.map_log.specs.Text.{inc_text}
use Rattle.map_log.proofs.map.LogMap.encode.Given as goal

abbrev pub invariant-loop-inc : goal.invariant-loop-inc
invariant-loop-inc l = l.out ≡ u32_bytes (length l.self) ++ flat_map inc_text (take l.inc-index l.self)
