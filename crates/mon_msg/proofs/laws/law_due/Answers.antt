use Rattle.mon_msg.proofs.Due.{due_is_next}
use Rattle.mon_msg.proofs.laws.law_due.Goals as goal

pub returns : goal.returns
returns c = due_is_next
