use Rattle.calm_runs.proofs.Whole.{ends, rests}
use Rattle.calm_runs.proofs.law_calm.Goals as goal

pub returns : goal.returns
returns c = record { ends = ends; rests = rests }
