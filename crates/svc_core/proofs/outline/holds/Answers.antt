use Rattle.std.proofs.Common.{◌+◌, arith}
use Rattle.mon_msg.specs.Protocol.Readings.{readings_of}
use Rattle.svc_core.proofs.Outlines.{read_holds}
use Rattle.svc_core.proofs.outline.holds.Goals as goal

pub returns-in-Some-2 : goal.returns-in-Some-2
returns-in-Some-2 c =
    read_holds (readings_of c.args.kv.now) c.args.key.now c.in-Some.full c.in-Some-2.outline c.last_version-last.result c.full_latest-latest.result (c.full_latest-latest.result + 1)
    c.last_version-last.ensures.value c.full_latest-latest.ensures.value (omega arith) (rw c.in-Some.is at c.in_ok-full.ensures.outline) (rw c.in-Some-2.is at c.in_ok-outline.ensures)
