use Rattle.log_copies.proofs.Shape.{monitor_shaped}
use Rattle.log_copies.proofs.Whole.{law, stays_shaped}
use Rattle.log_copies.proofs.laws.law_synchronized.Goals as goal

pub returns : goal.returns
returns c = record {
  finished = law;
  again = stays_shaped;
  first = λ log fits all c m V. monitor_shaped log fits all c V.within m V.folded;
}
