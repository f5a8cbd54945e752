use Rattle.resend_laws.proofs.Tried.{tried}
use Rattle.resend_laws.proofs.laws.law_tried.Goals as goal

pub returns : goal.returns
returns c = tried
