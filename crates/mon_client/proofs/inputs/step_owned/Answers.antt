use Rattle.std.proofs.Common.{IsTrue, sym, subst}
use Rattle.mon_msg.specs.Protocol.Commands.{propose_due}
use Rattle.mon_msg.specs.Protocol.Course.{clients_are}
use Rattle.mon_msg.specs.Protocol.Readings.{readings_of}
use Rattle.mon_msg.specs.Protocol.Table.{timer_comes}
use Rattle.mon_msg.specs.declared.input.Input.{Input}
use Rattle.mon_plan.specs.Inputs.{row}
use Rattle.mon_plan.specs.Plans.{PlansRow}
use Rattle.mon_plan.specs.Seen.{IsMet}
use Rattle.mon_plan.proofs.Planning.{instead}
use Rattle.mon_client.specs.Rows.{is_input}
use Rattle.mon_client.proofs.HandedOnLaws.{rings}
use Rattle.mon_client.proofs.inputs.step_owned.Goals as goal

pub returns-in-Deliver-clause-plans : goal.returns-in-Deliver-clause-plans
returns-in-Deliver-clause-plans c =
    λ shared.
    let me = c.args.here.now.me.now in
    let met = IsMet me c.args.here.now.time (readings_of c.args.here.now.kv.now) c.args.view.now (λ st. st.clients) c.args.clients in
    subst (λ (came : Input). PlansRow me c.args.here.now.time clients_are met (row me shared c.args.here.now.time came) c.hear.result) (sym c.in-Deliver.is) (c.hear.ensures.plans shared)

pub returns-in-Client-clause-plans : goal.returns-in-Client-clause-plans
returns-in-Client-clause-plans c =
    λ shared.
    let me = c.args.here.now.me.now in
    let met = IsMet me c.args.here.now.time (readings_of c.args.here.now.kv.now) c.args.view.now (λ st. st.clients) c.args.clients in
    subst (λ (came : Input). PlansRow me c.args.here.now.time clients_are met (row me shared c.args.here.now.time came) c.client.result) (sym c.in-Client.is) c.client.ensures.plans

pub returns-in-Timer-clause-plans : goal.returns-in-Timer-clause-plans
returns-in-Timer-clause-plans c =
    λ shared.
    let me = c.args.here.now.me.now in
    let met = IsMet me c.args.here.now.time (readings_of c.args.here.now.kv.now) c.args.view.now (λ st. st.clients) c.args.clients in
    subst (λ (came : Input). PlansRow me c.args.here.now.time clients_are met (row me shared c.args.here.now.time came) c.propose_due.result) (sym c.in-Timer.is)
    (instead me c.args.here.now.time clients_are met (λ x. x) (propose_due me c.args.here.now.time) (timer_comes me c.args.here.now.time c.in-Timer.field-0) c.propose_due.result
    (λ x b. rings me c.args.here.now.time c.in-Timer.field-0 (subst (λ (came : Input). IsTrue (is_input came)) c.in-Timer.is c.requires.input) x) c.propose_due.ensures.plans)
