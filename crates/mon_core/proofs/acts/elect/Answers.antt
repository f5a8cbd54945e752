use Rattle.std.proofs.Common.{ap, sym, ◌∙◌, Result, Err, subst}
use Rattle.std.proofs.lemmas.Result.{err_from_is_err_and}
use Rattle.mon_msg.specs.Protocol.Course.{elector_is}
use Rattle.mon_msg.specs.Protocol.State.{State}
use Rattle.mon_msg.specs.declared.plan.Next.TheVariants as next
use Rattle.mon_elector.specs.Rows.{IsCalled}
use Rattle.mon_msg.specs.declared.plan.RoleStop.{RoleStop}
use Rattle.mon_core.specs.Acts.{Acts}
use Rattle.mon_core.proofs.Acting.{act_ends, act_fails, writes_epoch}
use Rattle.mon_core.proofs.acts.elect.Goals as goal

pub returns-in_err-plan : goal.returns-in_err-plan
returns-in_err-plan c =
    let m = c.args.here.now.kv.now in
    let e = c.args.event.now in
    let p = err_from_is_err_and c.from_residual-in_err-plan.result c.from_residual-in_err-plan.ensures.1 in
    subst (λ (r : Result Unit RoleStop). Acts c.args.here.now.me.now m c.args.here.now.time e next.Elect e r) (sym (p.1 ∙ ap Err p.2))
    (act_fails c.args.here.now.me.now c.args.here.now.time m elector_is next.Elect e (IsCalled c.in_ok-epoch.epoch e.state.elector)
    (λ x u. record { epoch = writes_epoch m e x u c.in_ok-epoch.epoch c.in_ok-epoch.ensures; role = ap (λ (s : State). s.elector) (sym u.state) })
    e c.in_err-plan.field-0.0 c.in_err-plan.ensures.plans)

pub returns : goal.returns
returns c =
    let m = c.args.here.now.kv.now in
    let e = c.args.event.now in
    act_ends c.args.here.now.me.now c.args.here.now.time m elector_is next.Elect e (IsCalled c.in_ok-epoch.epoch e.state.elector)
    (λ x u. record { epoch = writes_epoch m e x u c.in_ok-epoch.epoch c.in_ok-epoch.ensures; role = ap (λ (s : State). s.elector) (sym u.state) })
    c.start_over.new.self c.start_over.ensures.goes c.in_ok-plan.plan c.in_ok-plan.ensures.plans
    c.carry_out.new.self c.in_ok-carry_out.field-0 c.in_ok-carry_out.ensures c.in_ok-plan.ensures.stays
