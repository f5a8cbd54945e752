use Rattle.timed_election.proofs.JoiningRun.{joined_by}
use Rattle.timed_election.proofs.laws.law_members_join.Goals as goal

pub returns : goal.returns
returns c = λ ms q pace best epoch by t last more quick short can deserted. joined_by ms q pace best epoch by t last more quick short can deserted
