use Rattle.quorum_network.proofs.Whole.{network_runs}
use Rattle.quorum_network.proofs.laws.law_network.Goals as goal

pub returns : goal.returns
returns c = record { runs = network_runs }
