use Rattle.quorum_recovers.proofs.Served.{serves_as_planned}
use Rattle.quorum_recovers.proofs.laws.law_way_back_is_planned.Goals as goal

pub returns : goal.returns
returns c = serves_as_planned
