use Rattle.quorum_network.proofs.Whole.{network_runs}
use Rattle.quorum_sockets.proofs.Over.{all_may}
use Rattle.quorum_sockets.proofs.Posts.{has_posted}
use Rattle.quorum_sockets.proofs.law.law_sockets.Goals as goal

pub returns : goal.returns
returns c = record {
  posts = has_posted;
  may = λ tag lt ms steps over. all_may tag lt ms steps over;
  runs = λ tag lt ms steps over. network_runs ms steps (all_may tag lt ms steps over);
}
