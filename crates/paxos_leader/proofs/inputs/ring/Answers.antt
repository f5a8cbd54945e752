use Rattle.std.proofs.Common.{refl, sym, ap, subst, ◌∙◌}
use Rattle.mon_msg.specs.Protocol.Phases.{phase_of}
use Rattle.mon_msg.specs.Protocol.Readings.{Readings, readings_of}
use Rattle.mon_msg.specs.Protocol.Table.{timer_comes}
use Rattle.mon_msg.specs.declared.paxos.Leader.{Leader}
use Rattle.mon_msg.specs.declared.plan.Next.TheVariants as next
use Rattle.mon_msg.specs.declared.plan.Plan.{Plan}
use Rattle.mon_wire.specs.declared.phase.Timer.{Timer}
use Rattle.mon_plan.specs.Plans.{PlansRow, leads}
use Rattle.mon_plan.specs.Seen.{IsMet}
use Rattle.paxos_leader.proofs.Hearing.{rings}
use Rattle.paxos_leader.proofs.Noting.{nothing_but, stays_leaves, bootstrap_leaves}
use Rattle.paxos_leader.proofs.inputs.ring.Goals as goal

pub returns-in-Renew-clause-plans : goal.returns-in-Renew-clause-plans
returns-in-Renew-clause-plans c =
    let met = IsMet c.args.here.now.me.now c.args.here.now.time (readings_of c.args.here.now.kv.now) c.args.view.now (λ s. s.leader) c.args.state in
    subst (λ (t : Timer). PlansRow c.args.here.now.me.now c.args.here.now.time leads met (timer_comes c.args.here.now.me.now c.args.here.now.time t) c.renew.result) (sym c.in-Renew.is) c.renew.ensures.plans

pub returns-in-Renew-clause-leaves : goal.returns-in-Renew-clause-leaves
returns-in-Renew-clause-leaves c = stays_leaves c.args.view.now.phase c.renew.result c.renew.ensures.stays

pub returns-in_default-clause-plans : goal.returns-in_default-clause-plans
returns-in_default-clause-plans c =
    let me = c.args.here.now.me.now in
    let now = c.args.here.now.time in
    let l : Leader = c.args.state in
    let w : Readings = readings_of c.args.here.now.kv.now in
    nothing_but me now (IsMet me now w c.args.view.now (λ s. s.leader) l) (timer_comes me now c.args.kind) l
    (λ x b lead. ap (λ (k : Leader). phase_of k.stage) (sym b.role) ∙ b.seen.stage lead)
    next.Bootstrap (λ x. refl) (λ x b. b.role)
    (λ x b. rings me now c.args.kind c.requires c.in_default.not-Renew x)
    c.planned.result c.planned.ensures

pub returns-in_default-clause-leaves : goal.returns-in_default-clause-leaves
returns-in_default-clause-leaves c =
    bootstrap_leaves c.args.view.now.phase c.planned.result (ap (λ (p : Plan Leader). p.next) c.planned.ensures) (ap (λ (p : Plan Leader). p.tx) c.planned.ensures)
