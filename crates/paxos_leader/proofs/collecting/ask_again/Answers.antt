use Rattle.std.proofs.Common.{List, [], subst}
use Rattle.mon_msg.specs.Protocol.Collecting.{collect}
use Rattle.mon_msg.specs.Protocol.Readings.{Readings, readings_of}
use Rattle.mon_msg.specs.Protocol.State.{start_leader}
use Rattle.mon_msg.specs.declared.plan.Sent.{Sent}
use Rattle.paxos_leader.specs.Drafts.{ActsOn, IsAsking}
use Rattle.paxos_leader.proofs.collecting.ask_again.Goals as goal

pub returns-clause-goes : goal.returns-clause-goes
returns-clause-goes c =
    let act = c.args.act.now in
    let w : Readings = readings_of c.args.stored.now in
    subst
    (λ (o : List Sent). ActsOn act (IsAsking act.epoch w) (record { tx = []; out = o; state = start_leader }) (λ me now. collect me now c.args.quorum c.args.above) c.collect.result)
    c.new-out.ensures c.collect.ensures.goes
