use Rattle.timed_election.proofs.Ending.{ends}
use Rattle.timed_election.proofs.laws.law_election_ends.Goals as goal

pub returns : goal.returns
returns c = λ ms q pace E t last more quick. ends ms q pace quick E t last more
