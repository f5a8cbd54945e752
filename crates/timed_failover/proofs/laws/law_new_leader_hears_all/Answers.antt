use Rattle.timed_failover.proofs.CollectCome.{heard_all}
use Rattle.timed_failover.proofs.laws.law_new_leader_hears_all.Goals as goal

pub returns : goal.returns
returns c = λ ms q pace x t last more quick X. heard_all ms q pace quick x (λ i qi. (let C = X.can in C.members i qi)) t last more X
