use Rattle.network_answers.proofs.Epochs.{done_in_order}
use Rattle.network_answers.proofs.fresh.law_writes.Goals as goal

pub returns : goal.returns
returns c = done_in_order
