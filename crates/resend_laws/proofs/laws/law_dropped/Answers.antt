use Rattle.resend_laws.proofs.Dropped.{after_sending}
use Rattle.resend_laws.proofs.laws.law_dropped.Goals as goal

pub returns : goal.returns
returns c = after_sending
