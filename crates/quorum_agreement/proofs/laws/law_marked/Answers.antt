use Rattle.quorum_agreement.proofs.Every.{copying, full, told}
use Rattle.quorum_agreement.proofs.laws.law_marked.Goals as goal

pub returns : goal.returns
returns c = record { told = told; copied = copying; full = full }
