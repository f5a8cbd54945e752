use Rattle.quorum_network.proofs.Promised.{leads_are, one_leads, two_lead}
use Rattle.quorum_network.proofs.laws.law_leaders.Goals as goal

pub returns : goal.returns
returns c = record { one_leads = one_leads; leads = leads_are; leaders = two_lead }
