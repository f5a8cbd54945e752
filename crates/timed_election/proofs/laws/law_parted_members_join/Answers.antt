use Rattle.timed_election.proofs.JoiningRun.{parted_by}
use Rattle.timed_election.proofs.laws.law_parted_members_join.Goals as goal

pub returns : goal.returns
returns c = λ ms q pace best leader epoch t last more quick short can parted. parted_by ms q pace best leader epoch t last more quick short can parted
