use Rattle.quorum_network.proofs.Promised.{maps_agree}
use Rattle.quorum_network.proofs.laws.law_maps.Goals as goal

pub returns : goal.returns
returns c = maps_agree
