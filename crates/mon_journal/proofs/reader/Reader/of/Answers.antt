use Rattle.std.proofs.Common.{arith}
use Rattle.mon_journal.proofs.Finds.{not_short}
use Rattle.mon_journal.proofs.Walks.{all_left_on}
use Rattle.mon_journal.proofs.reader.Reader.of.Goals as goal

pub returns-then-end-journal-clause-there : goal.returns-then-end-journal-clause-there
returns-then-end-journal-clause-there g c = not_short (g.D.Disk.state c.args.disk.now).content.seen c.args.journal.now c.in_ok-end.end _ c.requires.holds c.in_ok-end.ensures.length (omega arith)

pub returns-clause-left : goal.returns-clause-left
returns-clause-left g c = all_left_on (g.D.Disk.state c.args.disk.now).content.seen c.args.journal.now c.requires.holds
