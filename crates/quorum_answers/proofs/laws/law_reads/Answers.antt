use Rattle.quorum_answers.proofs.Answers.{each_onward, epochs_onward, linearizable}
use Rattle.quorum_answers.proofs.laws.law_reads.Goals as goal

pub returns : goal.returns
returns c = record { linear = linearizable; epochs = epochs_onward; each = each_onward }
