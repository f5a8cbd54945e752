use Rattle.law_names.proofs.Runs.{run}
use Rattle.quorum_agreement.proofs.SafeWorlds.{safe}
use Rattle.quorum_agreement.proofs.laws.law_fence.Goals as goal
use Rattle.quorum_laws.proofs.Events.{all_runs}
use Rattle.quorum_laws.proofs.Leases.{leases_hold}

pub returns : goal.returns
returns c = λ ms events F. let S = safe ms events F in (S.one_active, leases_hold ms (run ms events) (all_runs ms events F), S.fence)
