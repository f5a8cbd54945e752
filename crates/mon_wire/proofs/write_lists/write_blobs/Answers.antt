use Rattle.mon_wire.specs.Message.Fields.{blob}
use Rattle.mon_wire.proofs.WriteLoops.{item_has}
use Rattle.mon_wire.proofs.write_lists.write_blobs.Goals as goal

pub write_bytes-requires : goal.write_bytes-requires
write_bytes-requires c = rw c.as_slice.ensures (item_has (blob.Form) c.args.blobs.now c.loop-bytes.bytes-index c.bytes-item.result c.requires.each c.loop-bytes-test.true c.bytes-item.is)
