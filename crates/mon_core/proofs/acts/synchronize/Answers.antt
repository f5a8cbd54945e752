use Rattle.std.proofs.Common.{Bool, true, false, Result, Err, ap, sym, subst, ◌∙◌}
use Rattle.std.proofs.lemmas.Result.{err_from_is_err_and}
use Rattle.mon_msg.specs.Protocol.Course.{requester_is, in_phase}
use Rattle.mon_msg.specs.Protocol.Readings.{readings_of}
use Rattle.mon_msg.specs.declared.plan.Next.TheVariants as next
use Rattle.mon_msg.specs.declared.plan.Next.{Next}
use Rattle.mon_msg.specs.declared.view.Me.{Me}
use Rattle.mon_tx.specs.Map.{Store}
use Rattle.mon_wire.specs.declared.phase.Phase.TheVariants as phase
use Rattle.std.specs.Prelude.{if◌then◌else◌, ℕ}
use Rattle.mon_plan.specs.Plans.{entered}
use Rattle.sync_requester.specs.Rows.{IsEntering}
use Rattle.mon_event.specs.Events.{Goes}
use Rattle.mon_event.specs.declared.event.Event.{Event}
use Rattle.mon_core.specs.Acts.{Acts, KeepsAll, MayAct}
use Rattle.mon_msg.specs.declared.plan.RoleStop.{RoleStop}
use Rattle.mon_core.proofs.Acting.{act_ends, act_fails, kept, writes_epoch}
use Rattle.mon_core.proofs.acts.synchronize.Goals as goal

abbrev copying : Bool → ℕ → Next
copying full from = if full then next.FullSync from else next.RecentSync from

-- whichever copy it takes
keeps : (full : Bool) (from : ℕ) (me : Me) (m : Store) (e : Event) → MayAct me m e (copying full from) → KeepsAll m e.tx
keeps true from me m e h = h
keeps false from me m e h = h

enters : (full : Bool) (from : ℕ) (e begun : Event) → Goes e begun (in_phase phase.Synchronizing) → Goes e begun (entered (copying full from))
enters true from e begun h = h
enters false from e begun h = h

pub returns-in_err-plan : goal.returns-in_err-plan
returns-in_err-plan c =
    let m = c.args.here.now.kv.now in
    let e = c.args.event.now in
    let p = err_from_is_err_and c.from_residual-in_err-plan.result c.from_residual-in_err-plan.ensures.1 in
    subst (λ (r : Result Unit RoleStop). Acts c.args.here.now.me.now m c.args.here.now.time e (copying c.args.full c.args.from) e r) (sym (p.1 ∙ ap Err p.2))
    (act_fails c.args.here.now.me.now c.args.here.now.time m requester_is (copying c.args.full c.args.from) e (IsEntering c.in_ok-epoch.epoch (readings_of m))
    (λ x u. record {
      epoch = writes_epoch m e x u c.in_ok-epoch.epoch c.in_ok-epoch.ensures;
      kept = kept m e x u (keeps c.args.full c.args.from c.args.here.now.me.now m e c.requires);
    })
    e c.in_err-plan.field-0.0 c.in_err-plan.ensures.plans)

pub returns : goal.returns
returns c =
    let m = c.args.here.now.kv.now in
    let e = c.args.event.now in
    act_ends c.args.here.now.me.now c.args.here.now.time m requester_is (copying c.args.full c.args.from) e (IsEntering c.in_ok-epoch.epoch (readings_of m))
    (λ x u. record {
      epoch = writes_epoch m e x u c.in_ok-epoch.epoch c.in_ok-epoch.ensures;
      kept = kept m e x u (keeps c.args.full c.args.from c.args.here.now.me.now m e c.requires);
    })
    c.enter_phase.new.self (enters c.args.full c.args.from e c.enter_phase.new.self c.enter_phase.ensures.goes)
    c.in_ok-plan.plan c.in_ok-plan.ensures.plans
    c.carry_out.new.self c.in_ok-carry_out.field-0 c.in_ok-carry_out.ensures c.in_ok-plan.ensures.stays
