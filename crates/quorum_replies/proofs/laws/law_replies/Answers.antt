use Rattle.quorum_replies.proofs.Runs.{answered_once}
use Rattle.quorum_replies.proofs.laws.law_replies.Goals as goal

pub returns : goal.returns
returns c = answered_once
