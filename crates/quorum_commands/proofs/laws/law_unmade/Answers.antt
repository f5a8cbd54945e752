use Rattle.quorum_commands.proofs.Unmade.{unmade_unless_done}
use Rattle.quorum_commands.proofs.laws.law_unmade.Goals as goal

pub returns : goal.returns
returns c = unmade_unless_done
