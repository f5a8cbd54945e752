use Rattle.quorum_model.proofs.Writing.{all_kept}
use Rattle.quorum_model.proofs.laws.law_written.Goals as goal

pub returns : goal.returns
returns c = all_kept
