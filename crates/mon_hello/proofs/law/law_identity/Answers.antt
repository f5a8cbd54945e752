use Rattle.mon_hello.proofs.Whole.{identities_apart}
use Rattle.mon_hello.proofs.law.law_identity.Goals as goal

pub returns : goal.returns
returns c = identities_apart
