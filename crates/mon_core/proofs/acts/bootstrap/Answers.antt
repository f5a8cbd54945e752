use Rattle.std.proofs.Common.{ap, sym, subst, Result, Err, ◌∙◌}
use Rattle.std.proofs.lemmas.Result.{err_from_is_err_and}
use Rattle.mon_msg.specs.Protocol.Course.{prober_is}
use Rattle.mon_msg.specs.Protocol.Readings.{readings_of}
use Rattle.mon_msg.specs.declared.plan.Next.TheVariants as next
use Rattle.mon_probe.specs.Rows.{IsBegun}
use Rattle.mon_msg.specs.Protocol.Readings.{Readings}
use Rattle.mon_msg.specs.declared.plan.RoleStop.{RoleStop}
use Rattle.mon_core.proofs.Acting.{act_fails, act_goes_on, kept, writes_epoch}
use Rattle.mon_core.proofs.Leaving.{ends_last, may_end}
use Rattle.mon_core.specs.Acts.{Acts, IsLast, MayAct}
use Rattle.mon_msg.specs.declared.plan.Next.{Next}
use Rattle.mon_core.proofs.acts.bootstrap.Goals as goal

pub returns-in_err-plan : goal.returns-in_err-plan
returns-in_err-plan c =
    let m = c.args.here.now.kv.now in
    let e = c.args.event.now in
    let p = err_from_is_err_and c.from_residual-in_err-plan.result c.from_residual-in_err-plan.ensures.1 in
    subst (λ (r : Result Unit RoleStop). Acts c.args.here.now.me.now m c.args.here.now.time e next.Bootstrap e r) (sym (p.1 ∙ ap Err p.2))
    (act_fails c.args.here.now.me.now c.args.here.now.time m prober_is next.Bootstrap e (IsBegun c.args.here.now.me.now (readings_of m) c.in_ok-epoch.epoch)
    (λ x u. record {
      epoch = writes_epoch m e x u c.in_ok-epoch.epoch c.in_ok-epoch.ensures;
      marked = λ alone. ap (λ (w : Readings). w.marked) (kept m e x u (c.requires alone));
    })
    e c.in_err-plan.field-0.0 c.in_err-plan.ensures.plans)

pub lead_alone-requires-clause-last : goal.lead_alone-requires-clause-last
lead_alone-requires-clause-last c =
    subst IsLast (sym c.in_ok-next.ensures.next)
    (ends_last c.args.here.now.me.now c.in_ok-plan.plan.tx c.in_ok-plan.plan.next c.in_ok-plan.ensures.ends)

pub lead_alone-requires-clause-may : goal.lead_alone-requires-clause-may
lead_alone-requires-clause-may c =
    let me = c.args.here.now.me.now in
    let m = c.args.here.now.kv.now in
    subst (λ (n : Next). MayAct me m c.carry_out.new.self n) (sym c.in_ok-next.ensures.next)
    (may_end me m c.args.event.now c.start_over.new.self c.start_over.ensures.written c.requires
    c.in_ok-plan.plan.tx c.carry_out.new.self c.in_ok-next.ensures.written c.in_ok-plan.plan.next c.in_ok-plan.ensures.ends)

pub returns : goal.returns
returns c =
    let m = c.args.here.now.kv.now in
    let e = c.args.event.now in
    act_goes_on c.args.here.now.me.now c.args.here.now.time m prober_is next.Bootstrap e (IsBegun c.args.here.now.me.now (readings_of m) c.in_ok-epoch.epoch)
    (λ x u. record {
      epoch = writes_epoch m e x u c.in_ok-epoch.epoch c.in_ok-epoch.ensures;
      marked = λ alone. ap (λ (w : Readings). w.marked) (kept m e x u (c.requires alone));
    })
    c.start_over.new.self c.start_over.ensures.goes c.in_ok-plan.plan c.in_ok-plan.ensures.plans
    c.carry_out.new.self c.in_ok-next.next c.in_ok-next.ensures c.lead_alone.new.event c.lead_alone.result c.lead_alone.ensures
