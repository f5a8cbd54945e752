use Rattle.std.proofs.Common.{sym, subst}
use Rattle.mon_msg.specs.Protocol.Readings.{readings_of}
use Rattle.mon_msg.specs.Protocol.Hearing.{hear}
use Rattle.mon_msg.specs.declared.input.Input.{Input}
use Rattle.mon_plan.specs.Inputs.{row}
use Rattle.mon_tx.specs.Map.{Store}
use Rattle.mon_elector.specs.Rows.{PlansElection}
use Rattle.mon_elector.proofs.inputs.step.Goals as goal

pub returns-in-Deliver-clause-plans : goal.returns-in-Deliver-clause-plans
returns-in-Deliver-clause-plans c =
    λ shared.
    let m = c.in-Deliver.message in
    subst (λ (came : Input). PlansElection c.args.me.now c.args.now (readings_of c.args.kv.now) c.args.view.now c.args.state.now (row c.args.me.now shared c.args.now came) c.hear.result) (sym c.in-Deliver.is)
    (subst (λ (store : Store). PlansElection c.args.me.now c.args.now (readings_of store) c.args.view.now c.args.state.now (hear c.args.me.now shared c.args.now m.from m.epoch m.body) c.hear.result) c.of-stored.ensures
    (c.hear.ensures.plans shared))
