use Rattle.mon_tx.proofs.After.{get-apply}
use Rattle.mon_tx.proofs.law.law_last_decides.Goals as goal

pub returns : goal.returns
returns c = get-apply
