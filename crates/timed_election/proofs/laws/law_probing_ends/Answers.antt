use Rattle.timed_election.proofs.Probing.{goes_on_by}
use Rattle.timed_election.proofs.laws.law_probing_ends.Goals as goal

pub returns : goal.returns
returns c = λ ms q pace i at t last more short. goes_on_by ms q pace i at short t last more
