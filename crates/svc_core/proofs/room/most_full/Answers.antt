use Rattle.std.proofs.Common.{Some, sym, arith}
use Rattle.mon_msg.specs.Protocol.Readings.{readings_of}
use Rattle.svc_core.proofs.Rooms.{decoded_within, full_within}
use Rattle.svc_core.proofs.room.most_full.Goals as goal

pub returns-in-Some-clause-full : goal.returns-in-Some-clause-full
returns-in-Some-clause-full c =
    full_within (readings_of c.args.kv.now) c.args.latest c.max.result (Some c.in-Some.bytes.now) c.requires (sym (rw c.in-Some.is at c.in_ok-bytes.ensures))
    (decoded_within c.max.result c.in-Some.bytes.now c.length.ensures.bytes (omega (arith, c.length.ensures.value, c.max.ensures)))
