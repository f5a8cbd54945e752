use Rattle.resend_laws.proofs.Forwards.{in_order, one_by_one}
use Rattle.resend_laws.proofs.laws.law_forwards.Goals as goal

pub returns : goal.returns
returns c = record { in_order = in_order; one_by_one = one_by_one }
