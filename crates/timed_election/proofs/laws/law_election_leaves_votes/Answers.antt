use Rattle.timed_election.proofs.Leaving.{leaves_votes}
use Rattle.timed_election.proofs.laws.law_election_leaves_votes.Goals as goal

pub returns : goal.returns
returns c = λ ms q pace E t last more quick short X soon. leaves_votes ms q pace quick short E t X soon last more
