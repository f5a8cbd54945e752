use Rattle.std.proofs.Common.{◌≡◌, List, ◌++◌, IfOk, subst}
use Rattle.mon_msg.specs.declared.plan.Sent.{Sent}
use Rattle.paxos_leader.proofs.Beginning.{victories}
use Rattle.paxos_leader.proofs.inputs.send_victory.Goals as goal

pub returns : goal.returns
returns c =
    subst (λ (out : List Sent). IfOk c.send_to_members.result (λ sent. sent ≡ out ++ victories c.args.act.now.me.now c.args.act.now.epoch c.args.quorum)) c.new.ensures c.send_to_members.ensures
