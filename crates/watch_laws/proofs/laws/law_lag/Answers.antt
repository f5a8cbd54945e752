use Rattle.watch_laws.proofs.Lagging.{lag_ends}
use Rattle.watch_laws.proofs.laws.law_lag.Goals as goal

pub returns : goal.returns
returns c = lag_ends
