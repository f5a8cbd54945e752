use Rattle.quorum_agreement.proofs.SafeWorlds.{safe}
use Rattle.quorum_agreement.proofs.laws.law_safe.Goals as goal

pub returns : goal.returns
returns c = safe
