use Rattle.std.proofs.Common.{◌≡◌, List, ◌++◌, IfOk, map, subst}
use Rattle.mon_msg.specs.Protocol.Sending.{members, message_to}
use Rattle.mon_msg.specs.declared.plan.Sent.{Sent}
use Rattle.mon_wire.specs.declared.body.Body.TheVariants as body
use Rattle.paxos_leader.proofs.values.send_commit.Goals as goal

pub returns : goal.returns
returns c =
    subst (λ (out : List Sent). IfOk c.send_to_members.result (λ sent. sent ≡ out ++ map (message_to c.args.act.now.me.now c.args.act.now.epoch (body.Commit c.args.from c.args.values)) (members c.args.act.now.me.now c.args.quorum))) c.new.ensures c.send_to_members.ensures
