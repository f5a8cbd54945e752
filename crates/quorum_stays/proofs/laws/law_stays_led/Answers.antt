use Rattle.quorum_stays.proofs.Staying.{stays_led}
use Rattle.quorum_stays.proofs.laws.law_stays_led.Goals as goal

pub returns : goal.returns
returns c = λ ms q pace reign r t last more K. stays_led ms q pace reign K r t last more
