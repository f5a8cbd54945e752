use Rattle.mon_tx.proofs.Takes.{takes_all}
use Rattle.mon_tx.proofs.Again.{transaction_again}
use Rattle.mon_tx.proofs.law.law_reading.Goals as goal

pub returns-clause-found : goal.returns-clause-found
returns-clause-found c = takes_all

pub returns-clause-only : goal.returns-clause-only
returns-clause-only c = transaction_again
