use Rattle.quorum_stays.proofs.Resting.{nothing_is_begun}
use Rattle.quorum_stays.proofs.laws.law_nothing_is_begun.Goals as goal

pub returns : goal.returns
returns c = λ ms q pace reign r t last more K. nothing_is_begun ms q pace reign K r t last more
