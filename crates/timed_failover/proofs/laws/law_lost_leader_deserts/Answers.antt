use Rattle.timed_failover.proofs.Deserting.{deserted}
use Rattle.timed_failover.proofs.laws.law_lost_leader_deserts.Goals as goal

pub returns : goal.returns
returns c = λ ms full q pace earlier reign r t R S W B quiet. deserted ms full q pace earlier reign r t R S W B quiet
