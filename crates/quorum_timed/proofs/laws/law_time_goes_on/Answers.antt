use Rattle.quorum_timed.proofs.GoingOn.{goes_on}
use Rattle.quorum_timed.proofs.laws.law_time_goes_on.Goals as goal

pub returns : goal.returns
returns c = goes_on
