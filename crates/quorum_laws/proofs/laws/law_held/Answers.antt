use Rattle.quorum_laws.proofs.Events.{all_runs}
use Rattle.quorum_laws.proofs.laws.law_held.Goals as goal
use Rattle.quorum_model.proofs.Writing.{all_kept}

pub returns : goal.returns
returns c = λ ms events F. let I = all_runs ms events F in record { folded = λ i lt. I.held i; whole = λ i lt. all_kept ms events i }
