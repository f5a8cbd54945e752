use Rattle.law_names.proofs.Runs.{run}
use Rattle.quorum_laws.proofs.Commands.{commands_hold}
use Rattle.quorum_laws.proofs.Events.{all_runs}
use Rattle.quorum_laws.proofs.laws.law_commands.Goals as goal

pub returns : goal.returns
returns c = λ ms events F. commands_hold ms (run ms events) (all_runs ms events F)
