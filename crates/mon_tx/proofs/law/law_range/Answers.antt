use Rattle.mon_tx.proofs.Named.{range_of_versions, range_of_named}
use Rattle.mon_tx.proofs.Ranges.{four_keys}
use Rattle.mon_tx.proofs.law.law_range.Goals as goal

pub returns-clause-versions : goal.returns-clause-versions
returns-clause-versions c = range_of_versions

pub returns-clause-named : goal.returns-clause-named
returns-clause-named c = range_of_named

pub returns-clause-example : goal.returns-clause-example
returns-clause-example c = four_keys
