use Rattle.quorum_stays.proofs.Leaving.{left}
use Rattle.quorum_stays.proofs.laws.law_lost_leader_is_left.Goals as goal

pub returns : goal.returns
returns c = left
