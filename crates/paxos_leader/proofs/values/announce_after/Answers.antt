use Rattle.std.proofs.Common.{ℕ, [], Ok, IfOk, subst}
use Rattle.mon_msg.specs.declared.paxos.Leader.{Leader}
use Rattle.mon_msg.specs.declared.plan.Plan.{Plan}
use Rattle.paxos_leader.specs.Drafts.{ActsOn, GoesOn, IsHere}
use Rattle.paxos_leader.specs.Parts.{announced}
use Rattle.paxos_leader.specs.declared.seen.Act.{Act}
use Rattle.paxos_leader.proofs.values.announce_after.Goals as goal

pub returns-clause-goes : goal.returns-clause-goes
returns-clause-goes c =
    subst (λ (here : ℕ × ℕ). IfOk c.announce.result
    (λ (p : Plan Leader). GoesOn c.args.here.now.me.now c.args.here.now.time (IsHere here.0 here.1) (record { tx = c.args.tx; out = []; state = c.args.state }) (announced c.args.here.now.me.now c.args.here.now.time c.args.version c.args.values) (Ok p)))
    c.in_ok-epoch.ensures
    (subst
    (λ (act : Act). IfOk c.announce.result
    (λ (p : Plan Leader). ActsOn act (IsHere act.epoch c.in_ok-epoch.last) (record { tx = c.args.tx; out = []; state = c.args.state }) (λ me now. announced me now c.args.version c.args.values) (Ok p)))
    c.of-act.ensures c.announce.ensures.goes)
