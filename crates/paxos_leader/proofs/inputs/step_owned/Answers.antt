use Rattle.std.proofs.Common.{◌≡◌, true, sym, subst}
use Rattle.mon_msg.specs.Protocol.Readings.{readings_of}
use Rattle.mon_msg.specs.declared.input.Input.{Input}
use Rattle.mon_plan.specs.Inputs.{row}
use Rattle.mon_plan.specs.Plans.{PlansRow, leads}
use Rattle.mon_plan.specs.Seen.{IsMet}
use Rattle.paxos_leader.specs.Inputs.{is_input}
use Rattle.paxos_leader.proofs.inputs.step_owned.Goals as goal

pub ring-requires : goal.ring-requires
ring-requires c = subst (λ (came : Input). is_input came ≡ true) c.in-Timer.is c.requires.input

pub returns-in-Deliver-clause-plans : goal.returns-in-Deliver-clause-plans
returns-in-Deliver-clause-plans c =
    λ shared.
    let met = IsMet c.args.here.now.me.now c.args.here.now.time (readings_of c.args.here.now.kv.now) c.args.view.now (λ s. s.leader) c.args.state in
    subst (λ (came : Input). PlansRow c.args.here.now.me.now c.args.here.now.time leads met (row c.args.here.now.me.now shared c.args.here.now.time came) c.hear.result) (sym c.in-Deliver.is) (c.hear.ensures.plans shared)

pub returns-in-Timer-clause-plans : goal.returns-in-Timer-clause-plans
returns-in-Timer-clause-plans c =
    λ shared.
    let met = IsMet c.args.here.now.me.now c.args.here.now.time (readings_of c.args.here.now.kv.now) c.args.view.now (λ s. s.leader) c.args.state in
    subst (λ (came : Input). PlansRow c.args.here.now.me.now c.args.here.now.time leads met (row c.args.here.now.me.now shared c.args.here.now.time came) c.ring.result) (sym c.in-Timer.is) c.ring.ensures.plans
