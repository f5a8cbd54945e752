use Rattle.quorum_stays.proofs.Forwarding.{counts_always, serves_by_peon}
use Rattle.quorum_stays.proofs.Serves.{attends_always, serves}
use Rattle.quorum_stays.proofs.laws.law_serves.Goals as goal

pub returns : goal.returns
returns c = record {
  attends = λ ms q pace reign r t last more K. attends_always ms q pace reign K r t last more;
  counts = λ ms q pace reign r f t last more K S qf nf N. counts_always ms q pace reign K f qf nf r t last more S N;
  leader = λ ms q pace reign r t last u session request more K. serves ms q pace reign K r t last u session request more;
  peons = λ ms q pace reign r f t last u session request more K S A qf nf N. serves_by_peon ms q pace reign K f qf nf r t last u session request more S A N;
}
