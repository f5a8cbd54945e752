use Rattle.std.proofs.Common.{sym}
use Rattle.mon_msg.specs.Protocol.Readings.{readings_of}
use Rattle.svc_core.proofs.Rooms.{room_with, room_without}
use Rattle.svc_core.proofs.room.room_before.Goals as goal

pub returns-in-Some : goal.returns-in-Some
returns-in-Some c =
    room_with (readings_of c.args.kv.now) c.args.room c.args.v c.length.result c.in-Some.bytes.now c.checked_sub.result (sym (rw c.in-Some.is at c.incremental.ensures)) c.length.ensures.bytes c.length.ensures.value c.checked_sub.ensures

pub returns-in-None : goal.returns-in-None
returns-in-None c = room_without (readings_of c.args.kv.now) c.args.room c.args.v (sym (rw c.in-None.is at c.incremental.ensures))
