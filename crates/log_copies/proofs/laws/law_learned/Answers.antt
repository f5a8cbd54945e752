use Rattle.log_copies.proofs.Growing.{committed, more_values}
use Rattle.log_copies.proofs.Leaving.{still_has}
use Rattle.log_copies.proofs.Matching.{learned_values, run_told, versions_are}
use Rattle.log_copies.proofs.laws.law_learned.Goals as goal
use Rattle.std.proofs.Common.{suc}

pub returns : goal.returns
returns c = record {
  learned = learned_values;
  committed = λ log room all w K at value V m H. (more_values log room all w K at value V, committed log room all w K at value V m H);
  kept = still_has;
  told = λ log fits all c m V v. versions_are log _ (suc v) (run_told log fits all c m V v);
}
