use Rattle.std.proofs.Common.{arith}
use Rattle.schedule_text.proofs.LineLaws.{read_by_fields}
use Rattle.schedule_text.proofs.line.event_at.Goals as goal

pub returns-in-Ok : goal.returns-in-Ok
returns-in-Ok c =
    read_by_fields c.args.monitors c.args.line.now c.in-Ok.event (omega arith) c.in-Ok.ensures
