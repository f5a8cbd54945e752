use Rattle.std.proofs.Common.{◌≡◌, List, ◌++◌, IfOk, map, subst}
use Rattle.mon_msg.specs.Protocol.Readings.{readings_of}
use Rattle.mon_msg.specs.Protocol.Sending.{members, message_to}
use Rattle.mon_msg.specs.declared.plan.Sent.{Sent}
use Rattle.mon_wire.specs.declared.body.Body.TheVariants as body
use Rattle.paxos_leader.specs.Parts.{asked}
use Rattle.paxos_leader.proofs.collecting.send_collect.Goals as goal

pub returns : goal.returns
returns c =
    let me = c.args.act.now.me.now in
    let same : map (message_to me c.args.act.now.epoch (body.Collect c.args.pn c.first.result c.last.result)) (members me c.args.quorum) ≡ asked me c.args.quorum c.args.pn c.args.act.now.epoch (readings_of c.args.stored.now) =
    λ i. map (message_to me c.args.act.now.epoch (body.Collect c.args.pn (c.first.ensures i) (c.last.ensures.value i))) (members me c.args.quorum) in
    subst (λ (l : List Sent). IfOk c.send_to_members.result (λ sent. sent ≡ c.args.out ++ l)) same c.send_to_members.ensures
