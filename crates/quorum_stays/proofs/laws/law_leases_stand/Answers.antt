use Rattle.quorum_stays.proofs.Leases.{leases_stand}
use Rattle.quorum_stays.proofs.laws.law_leases_stand.Goals as goal

pub returns : goal.returns
returns c = λ ms q pace reign r t K S M none past. leases_stand ms q pace reign r t K S M none past
