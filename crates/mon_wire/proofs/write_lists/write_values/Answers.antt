use Rattle.mon_tx.specs.Decode.{HasText}
use Rattle.mon_wire.proofs.WriteLoops.{item_has}
use Rattle.mon_wire.proofs.write_lists.write_values.Goals as goal

pub write_value-requires : goal.write_value-requires
write_value-requires c = (item_has (HasText) c.args.values.now c.loop-tx.tx-index c.tx-item.result c.requires.each c.loop-tx-test.true c.tx-item.is)
