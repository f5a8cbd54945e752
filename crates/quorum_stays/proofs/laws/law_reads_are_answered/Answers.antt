use Rattle.quorum_stays.proofs.Answering.{answers}
use Rattle.quorum_stays.proofs.laws.law_reads_are_answered.Goals as goal

pub returns : goal.returns
returns c = answers
