use Rattle.std.proofs.Common.{◌≡◌, ◌++◌, length, take}
use Rattle.std.specs.List.{flat_map}
use Rattle.mon_wire.specs.Message.Format.{u16_bytes}
use Rattle.mon_wire.specs.Message.Fields.{blob}
use Rattle.mon_wire.proofs.write_lists.write_blobs.Given as goal

abbrev pub invariant-loop-bytes : goal.invariant-loop-bytes
invariant-loop-bytes l = l.out ≡ l.fn.out ++ (u16_bytes (length l.blobs) ++ flat_map blob.text (take l.bytes-index l.blobs))
