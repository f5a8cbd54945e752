use Rattle.timed_failover.proofs.Serving.{serves}
use Rattle.timed_failover.proofs.laws.law_new_leader_serves.Goals as goal

pub returns : goal.returns
returns c = λ ms q pace x t last more quick short X. serves ms q pace x t last more quick short X
