use Rattle.resend_laws.proofs.Older.{older}
use Rattle.resend_laws.proofs.laws.law_older.Goals as goal

pub returns : goal.returns
returns c = older
