use Rattle.mon_disk.proofs.Below.{written_below, failed_below, synced_below, injected_below, settled_below}
use Rattle.mon_disk.proofs.law.law_images.Goals as goal

pub returns-clause-written : goal.returns-clause-written
returns-clause-written c = written_below

pub returns-clause-failed : goal.returns-clause-failed
returns-clause-failed c = failed_below

pub returns-clause-synced : goal.returns-clause-synced
returns-clause-synced c = synced_below

pub returns-clause-upset : goal.returns-clause-upset
returns-clause-upset c = injected_below

pub returns-clause-settled : goal.returns-clause-settled
returns-clause-settled c = settled_below
