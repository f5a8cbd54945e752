use Rattle.std.proofs.Common.{◌≡◌, ◌+◌, ◌-◌, ◌^◌, take}
use Rattle.std.specs.Prelude.{min, sum_by}
use Rattle.mon_wire.specs.Message.PartLengths.{bytes_length}
use Rattle.mon_wire.proofs.length.blobs_len.Given as goal

abbrev pub invariant-loop-blob : goal.invariant-loop-blob
invariant-loop-blob l = l.len ≡ min (2 + sum_by bytes_length (take l.blob-index l.blobs)) (2 ^ 64 - 1)
