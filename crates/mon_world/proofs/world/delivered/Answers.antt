use Rattle.std.proofs.Common.{arith}
use Rattle.mon_world.proofs.Delivering.{delivered_so}
use Rattle.mon_world.proofs.world.delivered.Goals as goal

pub returns : goal.returns
returns c = λ w are.
    delivered_so c.args.messages.now w c.args.number c.args.at c.index-messages-number.result c.in_ok-copy.field-0 are (omega arith) (omega arith) c.index-messages-number.is c.in_ok-copy.ensures
