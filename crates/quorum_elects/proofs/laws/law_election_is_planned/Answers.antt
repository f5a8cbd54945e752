use Rattle.quorum_elects.proofs.Elected.{elects_by}
use Rattle.quorum_elects.proofs.laws.law_election_is_planned.Goals as goal

pub returns : goal.returns
returns c = elects_by
