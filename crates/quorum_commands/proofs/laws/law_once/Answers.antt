use Rattle.quorum_commands.proofs.Runs.{once}
use Rattle.quorum_commands.proofs.laws.law_once.Goals as goal

pub returns : goal.returns
returns c = once
