use Rattle.quorum_agreement.proofs.SafeWorlds.{safe}
use Rattle.quorum_agreement.proofs.laws.law_kept.Goals as goal

pub returns : goal.returns
returns c = λ ms events F. let S = safe ms events F in (S.kept, S.shown)
