use Rattle.quorum_answers.proofs.Changes.{name_next}
use Rattle.quorum_answers.proofs.since.law_since.Goals as goal

pub returns : goal.returns
returns c = name_next
