use Rattle.network_answers.proofs.Epochs.{linearizable}
use Rattle.network_answers.proofs.fresh.law_fresh.Goals as goal

pub returns : goal.returns
returns c = linearizable
