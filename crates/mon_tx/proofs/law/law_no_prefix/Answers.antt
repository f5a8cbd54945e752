use Rattle.mon_tx.proofs.Again.{no_prefix}
use Rattle.mon_tx.proofs.law.law_no_prefix.Goals as goal

pub returns : goal.returns
returns c = no_prefix
