use Rattle.law_names.proofs.Runs.{run}
use Rattle.quorum_laws.proofs.Elections.{active_are_led, epochs_sent, member_between, member_once, quorums}
use Rattle.quorum_laws.proofs.Events.{all_runs}
use Rattle.quorum_laws.proofs.laws.law_elections.Goals as goal

pub returns : goal.returns
returns c = record { epochs = epochs_sent; quorums = quorums; once = member_once; between = member_between; led = λ ms events F. active_are_led ms (run ms events) (all_runs ms events F) }
