use Rattle.quorum_elects.proofs.Elected.{elects}
use Rattle.quorum_elects.proofs.laws.law_near_majority_elects.Goals as goal

pub returns : goal.returns
returns c = elects
