use Rattle.mon_msg.proofs.Changed.{readings-joined}
use Rattle.mon_msg.proofs.laws.law_changes.Goals as goal

pub returns : goal.returns
returns c = readings-joined
