use Rattle.quorum_rejoins.proofs.Serving.{catches_up}
use Rattle.quorum_rejoins.proofs.laws.law_majority_catches_up.Goals as goal

pub returns : goal.returns
returns c = catches_up
