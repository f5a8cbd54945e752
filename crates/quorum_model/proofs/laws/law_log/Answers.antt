use Rattle.quorum_model.proofs.Values.{safe_values}
use Rattle.quorum_model.proofs.laws.law_log.Goals as goal

pub returns : goal.returns
returns c = safe_values
