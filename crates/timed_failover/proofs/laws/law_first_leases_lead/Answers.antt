use Rattle.timed_failover.proofs.SettledAtOnce.{opens}
use Rattle.timed_failover.proofs.laws.law_first_leases_lead.Goals as goal

pub returns : goal.returns
returns c = λ ms q pace reign version value won t short. opens ms q pace reign version value won t short
