use Rattle.std.proofs.Common.{[], IsTrue, Ok, refl, sym, subst}
use Rattle.mon_msg.specs.Protocol.Course.{peon_is}
use Rattle.mon_msg.specs.Protocol.Readings.{readings_of}
use Rattle.mon_msg.specs.Protocol.Table.{timer_comes}
use Rattle.mon_msg.specs.declared.input.Input.TheVariants as input
use Rattle.mon_msg.specs.declared.input.Input.{Input}
use Rattle.mon_msg.specs.declared.plan.Next.TheVariants as next
use Rattle.mon_tx.specs.Map.{Store}
use Rattle.mon_plan.specs.Inputs.{row}
use Rattle.mon_plan.specs.Plans.{PlansRow}
use Rattle.mon_plan.specs.Seen.{IsMet}
use Rattle.mon_plan.proofs.Kept.{kept-peon}
use Rattle.mon_plan.proofs.Planning.{only_acts}
use Rattle.paxos_peon.specs.Rows.{is_input}
use Rattle.paxos_peon.proofs.HearLaws.{rings}
use Rattle.paxos_peon.proofs.inputs.step.Goals as goal

pub returns-in-Deliver-clause-plans : goal.returns-in-Deliver-clause-plans
returns-in-Deliver-clause-plans c =
    λ shared.
    let met = λ (m : Store). IsMet c.args.me.now c.args.now (readings_of m) c.args.view.now (λ st. st.peon) c.args.state.now in
    subst (λ (came : Input). PlansRow c.args.me.now c.args.now peon_is (met c.args.kv.now) (row c.args.me.now shared c.args.now came) c.hear.result) (sym c.in-Deliver.is)
    (subst (λ (m : Store). PlansRow c.args.me.now c.args.now peon_is (met m) (row c.args.me.now shared c.args.now (input.Deliver c.in-Deliver.message)) c.hear.result) c.of-stored.ensures (c.hear.ensures.plans shared))

pub returns-in-Timer-clause-plans : goal.returns-in-Timer-clause-plans
returns-in-Timer-clause-plans c =
    λ shared.
    let me = c.args.me.now in
    let s = c.args.state.now in
    let w = readings_of c.args.kv.now in
    let met = IsMet me c.args.now w c.args.view.now (λ st. st.peon) s in
    subst (λ (came : Input). PlansRow me c.args.now peon_is met (row me shared c.args.now came) (Ok c.planned.result)) (sym c.in-Timer.is)
    (only_acts me c.args.now peon_is met (λ x. x) (timer_comes me c.args.now c.in-Timer.field-0)
    [] tt s (λ x b. kept-peon s x b.role) next.Bootstrap (λ x. refl)
    (λ x b. rings me c.args.now c.in-Timer.field-0 (subst (λ (came : Input). IsTrue (is_input came)) c.in-Timer.is c.requires.input) x)
    c.planned.result c.planned.ensures)
