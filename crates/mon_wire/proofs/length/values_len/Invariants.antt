use Rattle.std.proofs.Common.{◌≡◌, ◌+◌, ◌-◌, ◌^◌, take}
use Rattle.std.specs.Prelude.{min, sum_by}
use Rattle.mon_wire.specs.Message.PartLengths.{value_length}
use Rattle.mon_wire.proofs.length.values_len.Given as goal

abbrev pub invariant-loop-value : goal.invariant-loop-value
invariant-loop-value l = l.len ≡ min (2 + sum_by value_length (take l.value-index l.values)) (2 ^ 64 - 1)
