use Rattle.timed_failover.proofs.Serving.{elected_serves}
use Rattle.timed_failover.proofs.laws.law_winner_serves.Goals as goal

pub returns : goal.returns
returns c = λ ms q pace E version value t last more quick short. elected_serves ms q pace E version value t last more quick short
