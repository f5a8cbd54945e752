use Rattle.std.proofs.Common.{arith}
use Rattle.mon_wire.proofs.BodyLengths.{length-message}
use Rattle.mon_wire.proofs.message.Message.len.Goals as goal

pub returns-clause-text : goal.returns-clause-text
returns-clause-text c = λ is. omega (arith, length-message c.args.self.now is)
