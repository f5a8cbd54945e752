use Rattle.timed_failover.proofs.SettlersCome.{committed}
use Rattle.timed_failover.proofs.laws.law_found_value_is_committed.Goals as goal

pub returns : goal.returns
returns c = λ ms q pace reign x t last more quick short. committed ms q pace quick short reign x t last more
