use Rattle.mon_wire.proofs.BodyLengths.{length-message}
use Rattle.mon_wire.proofs.laws.law_length.Goals as goal

pub returns : goal.returns
returns c = length-message
