use Rattle.schedule_text.proofs.ScheduleLaws.{read_found, read_only}
use Rattle.schedule_text.proofs.reader.parse.Goals as goal

pub returns-clause-found : goal.returns-clause-found
returns-clause-found c = read_found c.args.bytes.now c.read.result c.read.ensures

pub returns-clause-only : goal.returns-clause-only
returns-clause-only c = λ s h e. read_only c.args.bytes.now c.read.result c.read.ensures s h e
