use Rattle.network_answers.proofs.Whose.{all_to}
use Rattle.network_answers.proofs.one_request.law_one_request.Goals as goal

pub returns : goal.returns
returns c = all_to
