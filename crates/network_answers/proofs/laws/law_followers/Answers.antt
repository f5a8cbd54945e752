use Rattle.network_answers.proofs.Followed.{all_reach, end_holds, rises, so_far}
use Rattle.network_answers.proofs.laws.law_followers.Goals as goal
use Rattle.quorum_network.proofs.Names.{acknowledgements, network, requests}

pub returns : goal.returns
returns c = record {
  holds = λ ms steps log answers O A client turns asks s link written new e F reach. end_holds ms.count (requests ms steps) (acknowledgements ms steps) log (network ms steps).sent answers O A client s written asks link turns new e F reach;
  copies = λ ms steps log answers O A client asks s link written given reach. so_far ms.count (requests ms steps) (acknowledgements ms steps) log (network ms steps).sent answers O A client s written asks link given reach;
  rises = rises;
  shown = λ ms steps client turns asks s link written new e fine F. all_reach (network ms steps).sent client ms.count turns asks s link written new e fine F;
}
