use Rattle.mon_scrub.proofs.Found.{is_found}
use Rattle.mon_scrub.proofs.reading.parse.Goals as goal

pub returns-clause-found : goal.returns-clause-found
returns-clause-found c = is_found c.args.bytes.now c.read.result c.read.ensures
