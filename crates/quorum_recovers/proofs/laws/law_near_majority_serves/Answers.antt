use Rattle.quorum_recovers.proofs.Served.{serves_any}
use Rattle.quorum_recovers.proofs.laws.law_near_majority_serves.Goals as goal

pub returns : goal.returns
returns c = serves_any
