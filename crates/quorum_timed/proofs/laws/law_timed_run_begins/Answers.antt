use Rattle.quorum_timed.proofs.Beginning.{begins}
use Rattle.quorum_timed.proofs.laws.law_timed_run_begins.Goals as goal

pub returns : goal.returns
returns c = begins
