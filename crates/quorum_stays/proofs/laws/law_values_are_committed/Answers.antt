use Rattle.quorum_stays.proofs.Staying.{commits_in_time}
use Rattle.quorum_stays.proofs.laws.law_values_are_committed.Goals as goal

pub returns : goal.returns
returns c = λ ms q pace reign r b t last more K. commits_in_time ms q pace reign K r b t last more
