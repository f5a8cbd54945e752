use Rattle.std.proofs.Common.{List, [], ◌∷◌, ◌++◌, Some, Result, Err, refl, sym, ap, subst, ◌∙◌}
use Rattle.std.proofs.lemmas.Result.{err_from_is_err_and}
use Rattle.mon_msg.specs.Protocol.Changes.{Change, encoded}
use Rattle.mon_msg.specs.Protocol.Leading.{begin_alone}
use Rattle.mon_msg.specs.Protocol.Readings.{readings_of}
use Rattle.mon_msg.specs.declared.paxos.Leader.{Leader}
use Rattle.mon_msg.specs.declared.paxos.LeaderStage.TheVariants as stage
use Rattle.mon_msg.specs.declared.plan.Plan.{Plan}
use Rattle.mon_msg.specs.declared.plan.RoleStop.{RoleStop}
use Rattle.mon_plan.specs.Learned.{learned}
use Rattle.mon_plan.specs.Plans.{Plans, leads}
use Rattle.paxos_leader.specs.Drafts.{IsLed}
use Rattle.paxos_leader.specs.declared.draft.Draft.{Draft}
use Rattle.paxos_leader.proofs.Beginning.{alone-spent, alone-answers}
use Rattle.paxos_leader.proofs.inputs.begin_answered.Goals as goal

pub returns-in_err-plan-clause-plans : goal.returns-in_err-plan-clause-plans
returns-in_err-plan-clause-plans c =
    λ now.
    let me = c.args.here.now.me.now in
    let led = IsLed (readings_of c.args.here.now.kv.now) c.args.state in
    let v = c.args.version in
    let value = c.args.value in
    let o = c.args.origin in
    let failed = err_from_is_err_and c.from_residual.result c.from_residual.ensures.1 in
    subst (λ (r : Result (Plan Leader) RoleStop). Plans me now leads led (λ x. x) (begin_alone me v value (Some o)) r) (sym (failed.1 ∙ ap Err failed.2))
    (alone-spent me now led v value (Some o) c.in_err-plan.field-0.0 c.in_err-plan.ensures.alone)

pub returns-clause-plans : goal.returns-clause-plans
returns-clause-plans c =
    λ now.
    let v = c.args.version in
    let value = c.args.value in
    let cs : List Change = learned v (value ∷ []) in
    let plan : Plan Leader = c.in_ok-plan.plan in
    let h = c.in_ok-plan.ensures.alone in
    let new = c.new-draft.ensures in
    alone-answers c.args.here.now.me.now now c.args.here.now.kv.now c.args.state v value c.args.origin h.fit plan.tx
    (ap (λ (p : Plan Leader). p.tx) h.plan ∙ ap (λ (d : Draft). d.tx ++ encoded cs) new) h.learns
    (record plan { out = c.in_ok-out.out }) refl c.in_ok-out.ensures (ap (λ (p : Plan Leader). p.timers) h.plan)
    (ap (λ (p : Plan Leader). p.state) h.plan ∙ ap (λ (d : Draft). record d.state { stage = stage.Active }) new) (ap (λ (p : Plan Leader). p.next) h.plan)
