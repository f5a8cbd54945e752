use Rattle.std.proofs.Common.{Ok, refl, sym, subst}
use Rattle.mon_msg.specs.Protocol.Course.{requester_is}
use Rattle.mon_msg.specs.Protocol.Readings.{readings_of}
use Rattle.mon_msg.specs.Protocol.Table.{timer_comes}
use Rattle.mon_msg.specs.declared.plan.Next.TheVariants as next
use Rattle.mon_plan.specs.Plans.{PlansRow}
use Rattle.mon_plan.specs.Seen.{IsMet}
use Rattle.mon_wire.specs.declared.phase.Timer.TheVariants as timer
use Rattle.mon_wire.specs.declared.phase.Timer.{Timer}
use Rattle.sync_requester.proofs.Planned.{remains}
use Rattle.sync_requester.proofs.inputs.ring.Goals as goal

pub returns-in_ok-copy-in-Sync-clause-plans : goal.returns-in_ok-copy-in-Sync-clause-plans
returns-in_ok-copy-in-Sync-clause-plans c =
    let me = c.args.here.now.me.now in
    let s = c.args.state.now in
    let met = IsMet me c.args.here.now.time (readings_of c.args.here.now.kv.now) c.args.view.now (λ st. st.requester) s in
    subst (λ (t : Timer). PlansRow me c.args.here.now.time requester_is met (timer_comes me c.args.here.now.time t) (Ok c.planned.result)) (sym c.in-Sync.is)
    (remains me c.args.here.now.time met (timer_comes me c.args.here.now.time timer.Sync) s (λ x b. b.role) next.Bootstrap (λ x. refl) (λ x b. refl)
    c.planned.result c.in_ok-copy-in-Sync.field-0 c.in_ok-copy-in-Sync.ensures c.planned.ensures)

pub returns-in-Step-clause-plans : goal.returns-in-Step-clause-plans
returns-in-Step-clause-plans c =
    let me = c.args.here.now.me.now in
    let met = IsMet me c.args.here.now.time (readings_of c.args.here.now.kv.now) c.args.view.now (λ st. st.requester) c.args.state.now in
    subst (λ (t : Timer). PlansRow me c.args.here.now.time requester_is met (timer_comes me c.args.here.now.time t) c.step_replay.result) (sym c.in-Step.is) c.step_replay.ensures.plans
