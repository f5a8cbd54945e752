use Rattle.resend_laws.proofs.Released.{next_forward}
use Rattle.resend_laws.proofs.laws.law_next_forward.Goals as goal

pub returns : goal.returns
returns c = next_forward
