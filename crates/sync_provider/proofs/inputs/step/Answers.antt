use Rattle.std.proofs.Common.{◌≡◌, sym, subst}
use Rattle.mon_msg.specs.Protocol.Course.{provider_is}
use Rattle.mon_msg.specs.Protocol.Hearing.{hear}
use Rattle.mon_msg.specs.Protocol.Readings.{readings_of, shared_entries}
use Rattle.mon_msg.specs.declared.input.Input.{Input}
use Rattle.mon_msg.specs.declared.plan.Next.TheVariants as next
use Rattle.mon_msg.specs.declared.plan.Next.{Next}
use Rattle.mon_msg.specs.declared.plan.Plan.{Plan}
use Rattle.mon_msg.specs.declared.synchronization.Provider.{Provider}
use Rattle.mon_plan.specs.Inputs.{row}
use Rattle.mon_plan.specs.Leaves.{Leaves}
use Rattle.mon_plan.specs.Plans.{PlansRow}
use Rattle.mon_plan.specs.Seen.{IsMet}
use Rattle.mon_plan.proofs.Planning.{weaken}
use Rattle.sync_provider.specs.Rows.{Holds}
use Rattle.sync_provider.proofs.Fallible.{if_ok}
use Rattle.sync_provider.proofs.inputs.step.Goals as goal

pub returns-clause-plans : goal.returns-clause-plans
returns-clause-plans c =
    let me = c.args.me.now in
    let s = c.args.state.now in
    let w = readings_of c.args.kv.now in
    let m = c.in-Deliver.message in
    let met = IsMet me c.args.now w c.args.view.now (λ st. st.provider) s in
    let shared = shared_entries c.args.kv.now in
    subst (λ (came : Input). PlansRow me c.args.now provider_is met (row me shared c.args.now came) c.hear.result) (sym c.in-Deliver.is)
    (weaken me c.args.now provider_is (Holds w s) met (λ x. x) (hear me shared c.args.now m.from m.epoch m.body) c.hear.result
    (λ x b. record { readings = b.readings; role = b.role }) (c.hear.ensures.plans c.args.now))

pub returns-clause-leaves : goal.returns-clause-leaves
returns-clause-leaves c =
    let at = c.args.view.now.phase in
    if_ok (λ (p : Plan Provider). p.next ≡ next.Stay) (λ (p : Plan Provider). Leaves at p.next p.tx)
    (λ p e. subst (λ (n : Next). Leaves at n p.tx) (sym e) tt) c.hear.result c.hear.ensures.stays
