use Rattle.mon_journal.proofs.Headers.{file_again}
use Rattle.mon_journal.proofs.Encodes.{file_found}
use Rattle.mon_journal.proofs.law.law_written.Goals as goal

pub returns-clause-read : goal.returns-clause-read
returns-clause-read c = file_again

pub returns-clause-found : goal.returns-clause-found
returns-clause-found c = file_found
