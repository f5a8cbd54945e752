use Rattle.quorum_agreement.proofs.Every.{agrees, all_values, chosen, grows}
use Rattle.quorum_agreement.proofs.laws.law_agree.Goals as goal

pub returns : goal.returns
returns c = record { agree = agrees; grows = grows; values = all_values; chosen = chosen }
