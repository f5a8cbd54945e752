use Rattle.std.proofs.Common.{sym}
use Rattle.mon_msg.specs.Protocol.Readings.{readings_of}
use Rattle.svc_core.proofs.Outlines.{full_outlined}
use Rattle.svc_core.proofs.outline.full_outline.Goals as goal

pub returns-in-Some-clause-outline : goal.returns-in-Some-clause-outline
returns-in-Some-clause-outline c =
    full_outlined (readings_of c.args.kv.now) c.args.key.now c.outline_of.result c.args.latest c.in-Some.bytes.now c.requires.latest c.requires.not_newer (sym (rw c.in-Some.is at c.in_ok-bytes.ensures)) c.outline_of.ensures.outline
