use Rattle.log_copies.proofs.Versions.{law}
use Rattle.log_copies.proofs.laws.law_caught_up.Goals as goal

pub returns : goal.returns
returns c = law
