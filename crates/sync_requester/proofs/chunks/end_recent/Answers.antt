use Rattle.std.proofs.Common.{ℕ, suc, true, Result, refl, ap, Err, sym, subst, ◌∙◌}
use Rattle.std.proofs.lemmas.Result.{err_from_is_err_and}
use Rattle.mon_msg.specs.Protocol.Changes.{encoded}
use Rattle.mon_msg.specs.Protocol.Chunks.{replay_or_end, take_last}
use Rattle.mon_msg.specs.Protocol.Course.{Course, ◌>>=◌, requester_is}
use Rattle.mon_msg.specs.Protocol.Readings.{readings_of}
use Rattle.mon_msg.specs.declared.plan.Next.TheVariants as next
use Rattle.mon_msg.specs.declared.plan.Plan.{Plan}
use Rattle.mon_msg.specs.declared.plan.RoleStop.{RoleStop}
use Rattle.mon_msg.specs.declared.synchronization.Requester.{Requester}
use Rattle.mon_plan.proofs.Planning.{does_as}
use Rattle.mon_plan.specs.Plans.{PlansRow}
use Rattle.mon_types.specs.declared.names.Which.{Which}
use Rattle.sync_requester.specs.Copied.{copied}
use Rattle.sync_requester.specs.Rows.{IsHeard}
use Rattle.sync_requester.proofs.ChunkLaws.{recent-ends, take-stops}
use Rattle.sync_requester.proofs.Planned.{then_acts}
use Rattle.sync_requester.proofs.chunks.end_recent.Goals as goal

pub returns-clause-plans : goal.returns-clause-plans
returns-clause-plans c =
    λ f last.
    let me = c.args.here.now.me.now in
    let now : ℕ = c.args.here.now.time in
    let w = readings_of c.args.here.now.kv.now in
    let s = c.args.state.now in
    let p = c.args.chunk.now.place.now in
    let values = c.args.chunk.now.values.now in
    let entries = c.args.chunk.now.entries.now in
    let taken = c.in_ok-tx.field-0 in
    let h = c.in_ok-tx.ensures in
    let cs = copied s.full (suc p.version) values entries in
    does_as me now requester_is (IsHeard w s f) (λ x. x) (take_last me now p values entries last)
    cs h.fit (then_acts (encoded cs) (record s { place = taken.place }) next.Bootstrap) refl
    (λ x b. recent-ends w s f x b me now p values entries taken h last c.requires.recent)
    c.writing.result (c.writing.ensures ∙ (λ i. then_acts (h.encoded i) (c.at_place.ensures i) next.Bootstrap))

pub returns-in_err-tx-clause-plans : goal.returns-in_err-tx-clause-plans
returns-in_err-tx-clause-plans c =
    λ f last.
    let me = c.args.here.now.me.now in
    let now : ℕ = c.args.here.now.time in
    let w = readings_of c.args.here.now.kv.now in
    let s = c.args.state.now in
    let p = c.args.chunk.now.place.now in
    let values = c.args.chunk.now.values.now in
    let entries = c.args.chunk.now.entries.now in
    let failed = err_from_is_err_and c.from_residual.result c.from_residual.ensures.1 in
    let row = take_last me now p values entries last in
    subst (λ (r : Result (Plan Requester) RoleStop). PlansRow me now requester_is (IsHeard w s f) row r) (sym (failed.1 ∙ ap Err failed.2))
    (take-stops s p values entries true me now (IsHeard w s f) row c.in_err-tx.field-0.0 c.in_err-tx.ensures (λ x b. b.role)
    (λ x b which e. ap (λ (r : Result Course Which). r >>= replay_or_end me now last) e))
