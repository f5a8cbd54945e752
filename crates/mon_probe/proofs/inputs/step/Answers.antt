use Rattle.std.proofs.Common.{Ok, IsTrue, refl, sym, subst}
use Rattle.mon_msg.specs.Protocol.Hearing.{hear}
use Rattle.mon_msg.specs.Protocol.Readings.{readings_of}
use Rattle.mon_msg.specs.Protocol.Table.{timer_comes}
use Rattle.mon_msg.specs.declared.input.Input.{Input}
use Rattle.mon_msg.specs.declared.plan.Next.TheVariants as next
use Rattle.mon_plan.specs.Inputs.{row}
use Rattle.mon_tx.specs.Map.{Store}
use Rattle.mon_probe.specs.Rows.{PlansProbe, is_input}
use Rattle.mon_probe.proofs.Known.{acts}
use Rattle.mon_probe.proofs.ProbeLaws.{rings}
use Rattle.mon_probe.proofs.inputs.step.Goals as goal

pub returns-in-Deliver-clause-plans : goal.returns-in-Deliver-clause-plans
returns-in-Deliver-clause-plans c =
    λ shared.
    let m = c.in-Deliver.message in
    subst (λ (came : Input). PlansProbe c.args.me.now c.args.now (readings_of c.args.kv.now) c.args.view.now c.args.state.now (row c.args.me.now shared c.args.now came) c.hear.result) (sym c.in-Deliver.is)
    (subst (λ (store : Store). PlansProbe c.args.me.now c.args.now (readings_of store) c.args.view.now c.args.state.now (hear c.args.me.now shared c.args.now m.from m.epoch m.body) c.hear.result) c.of-stored.ensures
    (c.hear.ensures.plans shared c.args.now))

pub returns-in-Timer-clause-plans : goal.returns-in-Timer-clause-plans
returns-in-Timer-clause-plans c =
    λ shared.
    let me = c.args.me.now in
    let s = c.args.state.now in
    let w = readings_of c.args.kv.now in
    subst (λ (came : Input). PlansProbe me c.args.now w c.args.view.now s (row me shared c.args.now came) (Ok c.planned.result)) (sym c.in-Timer.is)
    (acts me c.args.now w c.args.view.now s (timer_comes me c.args.now c.in-Timer.field-0) c.planned.result next.Bootstrap (λ x. refl) c.planned.ensures
    (λ x b. rings me c.args.now c.in-Timer.field-0 (subst (λ (came : Input). IsTrue (is_input came)) c.in-Timer.is c.requires) x))
