use Rattle.mon_msg.proofs.Runs.{longest_is}
use Rattle.mon_msg.proofs.laws.law_longest.Goals as goal

pub returns : goal.returns
returns c = record { values = longest_is; entries = longest_is; incrementals = longest_is }
