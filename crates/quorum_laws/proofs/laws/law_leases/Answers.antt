use Rattle.law_names.proofs.Runs.{run}
use Rattle.quorum_laws.proofs.Events.{all_runs}
use Rattle.quorum_laws.proofs.Leases.{leases_hold}
use Rattle.quorum_laws.proofs.laws.law_leases.Goals as goal

pub returns : goal.returns
returns c = λ ms events F. leases_hold ms (run ms events) (all_runs ms events F)
