use Rattle.std.proofs.Common.{◌≡◌, ◌++◌, length, take}
use Rattle.std.specs.List.{flat_map}
use Rattle.mon_wire.specs.Message.Format.{u16_bytes}
use Rattle.mon_wire.specs.Message.Parts.{entry}
use Rattle.mon_wire.proofs.write_lists.write_entries.Given as goal

abbrev pub invariant-loop-held : goal.invariant-loop-held
invariant-loop-held l = l.out ≡ l.fn.out ++ (u16_bytes (length l.entries) ++ flat_map entry.text (take l.held-index l.entries))
