use Rattle.resend_laws.proofs.Answered.{answered}
use Rattle.resend_laws.proofs.laws.law_answered.Goals as goal

pub returns : goal.returns
returns c = answered
