use Rattle.quorum_recovers.proofs.Served.{recovers}
use Rattle.quorum_recovers.proofs.laws.law_recovers.Goals as goal

pub returns : goal.returns
returns c = recovers
