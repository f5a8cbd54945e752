use Rattle.std.proofs.Common.{◌-◌, ◌≤◌}
use Rattle.mon_msg.specs.Protocol.Readings.{readings_of}
use Rattle.svc_core.specs.Room.{IsRoom}
use Rattle.svc_core.proofs.room.room_before_all.Given as goal

abbrev pub invariant-loop-v : goal.invariant-loop-v
invariant-loop-v l = record { left : l.from ≤ l.v; room : IsRoom (readings_of l.kv) l.most (l.to - l.v) l.v l.room }
