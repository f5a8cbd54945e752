use Rattle.std.proofs.Common.{suc, ◌^◌, true, Result, ap, arith, Err, sym, subst, ◌∙◌}
use Rattle.std.proofs.lemmas.Result.{err_from_is_err_and}
use Rattle.mon_msg.specs.Protocol.Chunks.{replay_or_end, take_last}
use Rattle.mon_msg.specs.Protocol.Course.{Course, ◌>>=◌, requester_is}
use Rattle.mon_msg.specs.Protocol.Readings.{readings_of}
use Rattle.mon_msg.specs.declared.plan.Plan.{Plan}
use Rattle.mon_msg.specs.declared.plan.RoleStop.{RoleStop}
use Rattle.mon_msg.specs.declared.synchronization.Requester.{Requester}
use Rattle.mon_plan.proofs.Learning.{above}
use Rattle.mon_plan.specs.Plans.{PlansRow}
use Rattle.mon_types.specs.declared.names.Which.{Which}
use Rattle.sync_requester.specs.Rows.{IsHeard}
use Rattle.sync_requester.proofs.ChunkLaws.{copy-spent, take-stops}
use Rattle.sync_requester.proofs.chunks.end_copy.Goals as goal

pub returns-in_default-clause-plans : goal.returns-in_default-clause-plans
returns-in_default-clause-plans c =
    λ f x b.
    let me = c.args.here.now.me.now in
    let w = readings_of c.args.here.now.kv.now in
    let s = c.args.state.now in
    let taken = c.in_ok-tx.field-0 in
    let h = c.in_ok-tx.ensures in
    copy-spent w s f x b me c.args.here.now.time c.args.chunk.now.place.now c.args.chunk.now.values.now c.args.chunk.now.entries.now taken h c.args.last c.requires.full
    (let over = above (suc s.start) (2 ^ 62) (λ le. c.in_default.ensures.valid.1 (omega (arith, le))) in omega (arith, over))

pub returns-in_err-tx-clause-plans : goal.returns-in_err-tx-clause-plans
returns-in_err-tx-clause-plans c =
    λ f.
    let me = c.args.here.now.me.now in
    let w = readings_of c.args.here.now.kv.now in
    let s = c.args.state.now in
    let p = c.args.chunk.now.place.now in
    let values = c.args.chunk.now.values.now in
    let entries = c.args.chunk.now.entries.now in
    let failed = err_from_is_err_and c.from_residual.result c.from_residual.ensures.1 in
    let row = take_last me c.args.here.now.time p values entries c.args.last in
    subst (λ (r : Result (Plan Requester) RoleStop). PlansRow me c.args.here.now.time requester_is (IsHeard w s f) row r) (sym (failed.1 ∙ ap Err failed.2))
    (take-stops s p values entries true me c.args.here.now.time (IsHeard w s f) row c.in_err-tx.field-0.0 c.in_err-tx.ensures (λ x b. b.role)
    (λ x b which e. ap (λ (r : Result Course Which). r >>= replay_or_end me c.args.here.now.time c.args.last) e))
