use Rattle.quorum_rejoins.proofs.Serving.{far_serves}
use Rattle.quorum_rejoins.proofs.laws.law_far_majority_serves.Goals as goal

pub returns : goal.returns
returns c = far_serves
