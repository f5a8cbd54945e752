use Rattle.std.proofs.Common.{◌≡◌, ◌++◌, length, take}
use Rattle.std.specs.List.{flat_map}
use Rattle.mon_wire.specs.Message.Format.{u16_bytes}
use Rattle.mon_wire.specs.Message.Fields.{value}
use Rattle.mon_wire.proofs.write_lists.write_values.Given as goal

abbrev pub invariant-loop-tx : goal.invariant-loop-tx
invariant-loop-tx l = l.out ≡ l.fn.out ++ (u16_bytes (length l.values) ++ flat_map value.text (take l.tx-index l.values))
