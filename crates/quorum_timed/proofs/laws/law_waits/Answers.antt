use Rattle.quorum_timed.proofs.Worlds.{waits}
use Rattle.quorum_timed.proofs.laws.law_waits.Goals as goal

pub returns : goal.returns
returns c = waits
