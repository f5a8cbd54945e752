use Rattle.quorum_network.proofs.Tied.{opens_empty, opens_through}
use Rattle.quorum_network.proofs.laws.law_opening.Goals as goal

pub returns : goal.returns
returns g c = record { opens = λ member maps before W. opens_through member maps _ _ _ _ before W; new_store = opens_empty }
