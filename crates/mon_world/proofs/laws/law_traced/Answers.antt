use Rattle.mon_world.proofs.Tracing.{traces_run}
use Rattle.mon_world.proofs.laws.law_traced.Goals as goal

pub returns : goal.returns
returns c = traces_run
