use Rattle.std.proofs.Common.{refl, ap, ◌∙◌}
use Rattle.mon_msg.specs.declared.plan.Plan.{Plan}
use Rattle.mon_msg.specs.declared.paxos.Leader.{Leader}
use Rattle.paxos_leader.proofs.Committing.{announces}
use Rattle.paxos_leader.proofs.values.announce.Goals as goal

pub returns-clause-goes : goal.returns-clause-goes
returns-clause-goes c =
    let me = c.args.act.now.me.now in
    announces me c.args.act.now.time c.args.act.now.epoch c.args.last c.args.version c.args.state c.args.values c.args.tx
    (record { tx = c.args.tx; out = c.in_ok-out.out; state = c.without_value-state.result }) refl
    c.in_ok-out.ensures
    c.without_value-state.ensures
    c.in_ok-plan.plan c.in_ok-answered.field-0 c.in_ok-plan.ensures.stays c.in_ok-answered.ensures c.in_ok-plan.ensures.goes

pub returns-clause-stays : goal.returns-clause-stays
returns-clause-stays c = ap (λ (p : Plan Leader). p.next) c.in_ok-answered.ensures ∙ c.in_ok-plan.ensures.stays
