use Rattle.std.proofs.Common.{ap}
use Rattle.mon_msg.specs.Protocol.Readings.{readings_of}
use Rattle.mon_msg.specs.Protocol.Sending.{reply_to}
use Rattle.mon_msg.specs.Protocol.Table.{at_rest, before_start}
use Rattle.mon_msg.specs.declared.input.Input.{Input}
use Rattle.mon_wire.specs.declared.reply.Reply.TheVariants as reply
use Rattle.mon_event.specs.State.{state_of}
use Rattle.mon_core.proofs.Acting.{rests}
use Rattle.mon_core.proofs.inputs.before_start.Goals as goal

pub returns-in_ok-reply-in-Client : goal.returns-in_ok-reply-in-Client
returns-in_ok-reply-in-Client c =
    let me = c.args.here.now.me.now in
    let m = c.args.here.now.kv.now in
    let x = at_rest (readings_of m) (state_of c.args.event.now.state) in
    record {
      course = reply_to c.in-Client.session reply.Unavailable x;
      wanted_is = ap (λ (came : Input). before_start me c.args.here.now.time came x) c.in-Client.is;
      under_way = c.in_ok-reply-in-Client.ensures (readings_of m) x (rests me m c.args.event.now c.requires);
    }
