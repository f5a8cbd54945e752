use Rattle.std.proofs.Common.{◌≡◌, ◌-◌, suc, arith}
use Rattle.mon_msg.specs.Protocol.Readings.{readings_of}
use Rattle.svc_core.proofs.Rooms.{room_after_all, room_before}
use Rattle.svc_core.proofs.room.room_before_all.Goals as goal

pub loop-v-init : goal.loop-v-init
loop-v-init c =
    let none : c.args.to - c.args.to ≡ 0 = omega arith in
    record { left = c.requires; room = rw none (room_after_all (readings_of c.args.kv.now) c.args.most c.args.to) }

pub loop-v-preserved : goal.loop-v-preserved
loop-v-preserved c =
    let one_more : c.args.to - (c.loop-v.v - 1) ≡ suc (c.args.to - c.loop-v.v) = omega arith in
    let next : suc (c.loop-v.v - 1) ≡ c.loop-v.v = omega arith in
    record {
      left = omega arith;
      room = rw one_more (room_before (readings_of c.args.kv.now) c.args.most c.loop-v.room c.in_ok-room.room (c.args.to - c.loop-v.v) (c.loop-v.v - 1) c.in_ok-room.ensures (rw next c.loop-v.invariant.room));
    }

pub returns : goal.returns
returns c = let at : c.loop-v.v ≡ c.args.from = omega arith in rw at at c.loop-v.invariant.room
