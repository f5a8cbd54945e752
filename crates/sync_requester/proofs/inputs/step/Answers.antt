use Rattle.std.proofs.Common.{sym, subst}
use Rattle.mon_msg.specs.Protocol.Course.{requester_is}
use Rattle.mon_msg.specs.Protocol.Readings.{readings_of}
use Rattle.mon_msg.specs.declared.input.Input.{Input}
use Rattle.mon_plan.specs.Inputs.{row}
use Rattle.mon_plan.specs.Plans.{PlansRow}
use Rattle.mon_plan.specs.Seen.{IsMet}
use Rattle.sync_requester.proofs.inputs.step.Goals as goal

pub returns-in-Deliver-clause-plans : goal.returns-in-Deliver-clause-plans
returns-in-Deliver-clause-plans c =
    λ shared.
    let me = c.args.me.now in
    let met = IsMet me c.args.now (readings_of c.args.kv.now) c.args.view.now (λ st. st.requester) c.args.state.now in
    subst (λ (came : Input). PlansRow me c.args.now requester_is met (row me shared c.args.now came) c.hear.result) (sym c.in-Deliver.is) (c.hear.ensures.plans shared)

pub returns-in-Timer-clause-plans : goal.returns-in-Timer-clause-plans
returns-in-Timer-clause-plans c =
    λ shared.
    let me = c.args.me.now in
    let met = IsMet me c.args.now (readings_of c.args.kv.now) c.args.view.now (λ st. st.requester) c.args.state.now in
    subst (λ (came : Input). PlansRow me c.args.now requester_is met (row me shared c.args.now came) c.ring.result) (sym c.in-Timer.is) c.ring.ensures.plans
