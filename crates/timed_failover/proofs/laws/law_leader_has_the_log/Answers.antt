use Rattle.timed_failover.proofs.WholeLog.{has_the_log}
use Rattle.timed_failover.proofs.laws.law_leader_has_the_log.Goals as goal

pub returns : goal.returns
returns c = has_the_log
