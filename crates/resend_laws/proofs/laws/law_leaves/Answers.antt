use Rattle.resend_laws.proofs.Leaving.{asked, due, each_round, goes_on}
use Rattle.resend_laws.proofs.laws.law_leaves.Goals as goal

pub returns : goal.returns
returns c = record { due = due; asked = asked; again = goes_on; each_round = each_round }
