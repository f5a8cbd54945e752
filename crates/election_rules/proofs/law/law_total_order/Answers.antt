use Rattle.election_rules.proofs.RankingLaws.{strict}
use Rattle.election_rules.proofs.law.law_total_order.Goals as goal

pub returns : goal.returns
returns c = strict
