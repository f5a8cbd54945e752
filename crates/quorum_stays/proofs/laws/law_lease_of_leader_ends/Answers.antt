use Rattle.quorum_stays.proofs.SteppingDown.{lease_ends}
use Rattle.quorum_stays.proofs.laws.law_lease_of_leader_ends.Goals as goal

pub returns : goal.returns
returns c = lease_ends
