use Rattle.calm_quorum.proofs.Beginning.{begins_calmly, calm_first}
use Rattle.calm_quorum.proofs.law_calm_quorum.Goals as goal

pub returns : goal.returns
returns c = λ n some most. calm_first n some most (begins_calmly n some most)
