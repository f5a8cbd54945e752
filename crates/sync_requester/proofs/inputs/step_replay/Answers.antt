use Rattle.std.proofs.Common.{refl, sym, ap, ◌∙◌}
use Rattle.mon_msg.specs.Protocol.Course.{requester_is}
use Rattle.mon_msg.specs.Protocol.Readings.{readings_of}
use Rattle.mon_msg.specs.Protocol.Replay.{replay_step, step_in}
use Rattle.mon_msg.specs.declared.plan.Next.TheVariants as next
use Rattle.mon_msg.specs.declared.synchronization.SyncStage.TheVariants as sync
use Rattle.mon_msg.specs.declared.synchronization.SyncStage.{SyncStage}
use Rattle.mon_plan.proofs.Planning.{instead, weaken}
use Rattle.mon_plan.specs.Seen.{IsMet}
use Rattle.sync_requester.specs.Rows.{Holds}
use Rattle.sync_requester.proofs.HearLaws.{idle, idle-stage, stepping}
use Rattle.sync_requester.proofs.Planned.{remains}
use Rattle.sync_requester.proofs.inputs.step_replay.Goals as goal

pub returns-then-not-synchronizes-clause-plans : goal.returns-then-not-synchronizes-clause-plans
returns-then-not-synchronizes-clause-plans c =
    let me = c.args.here.now.me.now in
    let s = c.args.state.now in
    let w = readings_of c.args.here.now.kv.now in
    remains me c.args.here.now.time (IsMet me c.args.here.now.time w c.args.view.now (λ st. st.requester) s) (replay_step me c.args.here.now.time) s (λ x b. b.role) next.Stay (λ x. refl)
    (λ x b. idle me c.args.here.now.time w c.args.view.now s (sym c.synchronizes.ensures ∙ c.if-not-synchronizes.true) x b)
    c.stay.result c.in_ok-copy.field-0 c.in_ok-copy.ensures c.stay.ensures

pub returns-in-Replay-clause-plans : goal.returns-in-Replay-clause-plans
returns-in-Replay-clause-plans c =
    let me = c.args.here.now.me.now in
    let s = c.args.state.now in
    let w = readings_of c.args.here.now.kv.now in
    let met = IsMet me c.args.here.now.time w c.args.view.now (λ st. st.requester) s in
    let row = step_in me c.args.here.now.time (sync.Replay c.in-Replay.next c.in-Replay.end) in
    instead me c.args.here.now.time requester_is met (λ x. x) row (replay_step me c.args.here.now.time) c.replay.result
    (λ x b.
    stepping me c.args.here.now.time w c.args.view.now s (sym c.synchronizes.ensures ∙ c.if-not-synchronizes.false) x b
    ∙ ap (λ (stage : SyncStage). step_in me c.args.here.now.time stage x) c.in-Replay.is)
    (weaken me c.args.here.now.time requester_is (Holds w s) met (λ x. x) row c.replay.result (λ x b. record { readings = b.readings; role = b.role })
    c.replay.ensures.plans)

pub returns-in_ok-copy-in-Cookie-clause-plans : goal.returns-in_ok-copy-in-Cookie-clause-plans
returns-in_ok-copy-in-Cookie-clause-plans c =
    let me = c.args.here.now.me.now in
    let s = c.args.state.now in
    let w = readings_of c.args.here.now.kv.now in
    remains me c.args.here.now.time (IsMet me c.args.here.now.time w c.args.view.now (λ st. st.requester) s) (replay_step me c.args.here.now.time) s (λ x b. b.role) next.Stay (λ x. refl)
    (λ x b.
    stepping me c.args.here.now.time w c.args.view.now s (sym c.synchronizes.ensures ∙ c.if-not-synchronizes.false) x b
    ∙ idle-stage me c.args.here.now.time s.stage c.in-Cookie.is x)
    c.stay-in-Cookie.result c.in_ok-copy-in-Cookie.field-0 c.in_ok-copy-in-Cookie.ensures c.stay-in-Cookie.ensures
