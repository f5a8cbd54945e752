use Rattle.timed_failover.proofs.Replaced.{replaced}
use Rattle.timed_failover.proofs.laws.law_lost_leader_is_replaced.Goals as goal

pub returns : goal.returns
returns c = λ ms full q pace earlier best reign r t last more quick short R S W C B quiet fits L room late. replaced ms full q pace earlier best reign r t last more quick short R S W C B quiet fits L room late
