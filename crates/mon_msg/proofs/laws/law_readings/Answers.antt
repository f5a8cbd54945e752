use Rattle.mon_msg.proofs.Changed.{readings-apply}
use Rattle.mon_msg.proofs.laws.law_readings.Goals as goal

pub returns : goal.returns
returns c = readings-apply
