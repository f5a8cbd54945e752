use Rattle.quorum_laws.proofs.Elections.{one_active}
use Rattle.quorum_laws.proofs.laws.law_one_active.Goals as goal

pub returns : goal.returns
returns c = one_active
