use Rattle.timed_failover.proofs.LosesLeader.{serves_again as without_leader}
use Rattle.timed_failover.proofs.LosesPeon.{serves_again as without_peon}
use Rattle.timed_failover.proofs.laws.law_failover.Goals as goal

pub returns : goal.returns
returns c = record {
  leader_lost = λ ms full q pace earlier best reign r t last more quick short R S W C ranks B quiet fits few. without_leader ms full q pace earlier best reign r t last more quick short R S W C ranks B quiet fits few;
  peon_lost = λ ms full q pace earlier best lost reign r t last more quick short R S none N M W other B silent C ranks fits few L quiet room late.
      without_peon ms full q pace earlier best lost reign r t last more quick short R S none N M W other B silent C ranks fits few L quiet room late;
}
