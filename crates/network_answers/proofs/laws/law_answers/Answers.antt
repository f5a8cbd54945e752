use Rattle.network_answers.proofs.History.{history}
use Rattle.network_answers.proofs.laws.law_answers.Goals as goal

pub returns : goal.returns
returns c = history
