use Rattle.quorum_answers.proofs.Refusals.{all_refused}
use Rattle.quorum_answers.proofs.laws.law_refusals.Goals as goal

pub returns : goal.returns
returns c = all_refused
