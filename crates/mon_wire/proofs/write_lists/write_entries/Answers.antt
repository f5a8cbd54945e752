use Rattle.mon_wire.specs.Message.Parts.{entry}
use Rattle.mon_wire.proofs.WriteLoops.{item_has}
use Rattle.mon_wire.proofs.write_lists.write_entries.Goals as goal

pub write_entry-requires : goal.write_entry-requires
write_entry-requires c = (item_has (entry.Form) c.args.entries.now c.loop-held.held-index c.held-item.result c.requires.each c.loop-held-test.true c.held-item.is).1.1
