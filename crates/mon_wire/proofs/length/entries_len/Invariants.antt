use Rattle.std.proofs.Common.{◌≡◌, ◌+◌, ◌-◌, ◌^◌, take}
use Rattle.std.specs.Prelude.{min, sum_by}
use Rattle.mon_wire.specs.Message.PartLengths.{entry_length}
use Rattle.mon_wire.proofs.length.entries_len.Given as goal

abbrev pub invariant-loop-entry : goal.invariant-loop-entry
invariant-loop-entry l = l.len ≡ min (2 + sum_by entry_length (take l.entry-index l.entries)) (2 ^ 64 - 1)
