use Rattle.std.proofs.Common.{◌^◌, ◌+◌, min, [], ◌∷◌, refl, ap, sym, subst, ◌∙◌, arith}
use Rattle.mon_msg.specs.Protocol.Course.{clients_are}
use Rattle.mon_msg.specs.Protocol.Proposing.{refusal, propose}
use Rattle.mon_msg.specs.Protocol.Readings.{Readings, readings_of, epoch_of}
use Rattle.mon_msg.specs.Protocol.Sending.{answer_to}
use Rattle.mon_msg.specs.Protocol.Services.{service_last}
use Rattle.mon_msg.specs.Protocol.Timers.{length_of}
use Rattle.mon_msg.specs.Protocol.Value.{service_of, value}
use Rattle.mon_msg.specs.declared.clients.Clients.{Clients}
use Rattle.mon_msg.specs.declared.plan.Arming.TheVariants as arming
use Rattle.mon_msg.specs.declared.plan.Next.TheVariants as next
use Rattle.mon_msg.specs.declared.plan.Plan.{Plan}
use Rattle.mon_wire.specs.declared.phase.Phase.TheVariants as phase
use Rattle.mon_wire.specs.declared.phase.Timer.TheVariants as timer
use Rattle.mon_plan.specs.Leaves.{Leaves}
use Rattle.mon_client.specs.Rows.{IsUnderWay}
use Rattle.mon_client.proofs.Planned.{plan_of, plans}
use Rattle.mon_client.proofs.ProposalLaws.{refused_is, propose-spent, propose-made, propose-refused}
use Rattle.mon_client.proofs.ValueLaws.{value-begins}
use Rattle.mon_client.proofs.proposals.propose.Goals as goal

pub returns-then-last_version-ge-GREATEST-clause-plans : goal.returns-then-last_version-ge-GREATEST-clause-plans
returns-then-last_version-ge-GREATEST-clause-plans c =
    let here = c.args.here.now in
    λ x b.
    let told = c.last_version.ensures.value ∙ ap (service_last (readings_of here.kv.now)) c.service_of.ensures in
    let same = ap (λ (w : Readings). service_last w (service_of c.args.command.now)) b.readings in
    propose-spent here.me.now here.time c.args.clients c.args.command.now c.args.origin x (omega (arith, told, same, c.if-last_version-ge-GREATEST.true))

pub value-requires : goal.value-requires
value-requires c =
    let here = c.args.here.now in
    let told = c.last_version.ensures.value ∙ ap (service_last (readings_of here.kv.now)) c.service_of.ensures in
    omega (arith, told, c.if-last_version-ge-GREATEST.false)

pub returns-in-Ok-clause-plans : goal.returns-in-Ok-clause-plans
returns-in-Ok-clause-plans c =
    let here = c.args.here.now in
    let me = here.me.now in
    let w = readings_of here.kv.now in
    let told = c.last_version.ensures.value ∙ ap (service_last w) c.service_of.ensures in
    plans me here.time (IsUnderWay me here.time w here.view.now) (λ x. propose me here.time c.args.command.now c.args.origin (clients_are c.args.clients x))
    [] [] c.args.clients (next.Begin c.in-Ok.value c.args.origin)
    (λ x b.
    let same = ap (λ (r : Readings). service_last r (service_of c.args.command.now)) b.readings in
    propose-made me here.time c.args.clients c.args.command.now c.args.origin x (omega (arith, told, same, c.if-last_version-ge-GREATEST.false)) c.in-Ok.value
    ((λ i. value (b.readings i) c.args.command.now (sym c.asked_of.ensures i)) ∙ c.in-Ok.ensures.made))
    c.planned.result c.planned.ensures

pub returns-in-Ok-clause-leaves : goal.returns-in-Ok-clause-leaves
returns-in-Ok-clause-leaves c =
    let here = c.args.here.now in
    let m = here.kv.now in
    let told = c.last_version.ensures.value ∙ ap (service_last (readings_of m)) c.service_of.ensures in
    subst (λ (p : Plan Clients). Leaves phase.Active p.next p.tx) (sym c.planned.ensures)
    (refl, refl, value-begins m (service_of c.args.command.now) c.in-Ok.value c.in-Ok.ensures.short (omega (arith, told, c.if-last_version-ge-GREATEST.false)))

pub returns-in_ok-refuse-in-Err-clause-plans : goal.returns-in_ok-refuse-in-Err-clause-plans
returns-in_ok-refuse-in-Err-clause-plans c =
    let here = c.args.here.now in
    let me = here.me.now in
    let w = readings_of here.kv.now in
    let told = c.last_version.ensures.value ∙ ap (service_last w) c.service_of.ensures in
    let e = c.in-Err.refused in
    plans me here.time (IsUnderWay me here.time w here.view.now) (λ x. propose me here.time c.args.command.now c.args.origin (clients_are c.args.clients x))
    (answer_to me (epoch_of w) c.args.origin (refusal e) ∷ []) (arming.Arm timer.Propose (min (here.time + length_of timer.Propose) (2 ^ 62)) ∷ []) c.args.clients next.Stay
    (λ x b.
    let same = ap (λ (r : Readings). service_last r (service_of c.args.command.now)) b.readings in
    propose-refused me here.time c.args.clients c.args.command.now c.args.origin x w b.readings (omega (arith, told, same, c.if-last_version-ge-GREATEST.false)) e
    ((λ i. value (b.readings i) c.args.command.now (sym c.asked_of.ensures i)) ∙ refused_is e (value w c.args.command.now c.asked_of.result) c.in-Err.ensures.made c.in_ok-reply-in-Err.ensures.known))
    c.in_ok-refuse-in-Err.field-0
    (c.in_ok-refuse-in-Err.ensures
    ∙ (λ i. plan_of (answer_to me (epoch_of w) c.args.origin (c.in_ok-reply-in-Err.ensures.reply i) ∷ []) (arming.Arm timer.Propose (min (here.time + length_of timer.Propose) (2 ^ 62)) ∷ []) c.args.clients next.Stay))
