use Rattle.std.proofs.Common.{sym}
use Rattle.mon_msg.specs.Protocol.Readings.{readings_of}
use Rattle.svc_core.proofs.Outlines.{step_outlined}
use Rattle.svc_core.proofs.outline.outline_after.Goals as goal

pub returns-clause-outline : goal.returns-clause-outline
returns-clause-outline c =
    step_outlined (readings_of c.args.kv.now) c.args.key.now c.args.outline c.after-next.result c.args.v c.in-Some.bytes.now c.in-Some-2.inc (sym (rw c.in-Some.is at c.incremental.ensures))
    (rw c.in-Some-2.is at c.in_ok-inc.ensures.value) c.after-next.ensures.outline c.after-next.ensures.most
