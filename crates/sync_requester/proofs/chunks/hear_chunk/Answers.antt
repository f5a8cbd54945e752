use Rattle.std.proofs.Common.{◌≡◌, suc, true, false, List, Result, Ok, refl, sym, ap, ◌∙◌, Err, subst}
use Rattle.std.proofs.lemmas.Result.{err_from_is_err_and}
use Rattle.mon_msg.specs.Protocol.Changes.{encoded}
use Rattle.mon_msg.specs.Protocol.Chunks.{hear_chunk}
use Rattle.mon_msg.specs.Protocol.Copying.{ask_chunk}
use Rattle.mon_msg.specs.Protocol.Course.{Course, ◌>>=◌, requester_is}
use Rattle.mon_msg.specs.Protocol.Played.{played}
use Rattle.mon_msg.specs.Protocol.Readings.{epoch_of, readings_of}
use Rattle.mon_msg.specs.declared.plan.Next.TheVariants as next
use Rattle.mon_msg.specs.declared.plan.Plan.{Plan}
use Rattle.mon_msg.specs.declared.plan.RoleStop.{RoleStop}
use Rattle.mon_msg.specs.declared.synchronization.Requester.{Requester}
use Rattle.mon_stored.proofs.Standing.{readings-after}
use Rattle.mon_plan.proofs.Planning.{does_as}
use Rattle.mon_plan.specs.Plans.{PlansRow}
use Rattle.mon_tx.specs.Map.{apply}
use Rattle.mon_tx.specs.declared.op.Op.{Op}
use Rattle.mon_types.specs.declared.names.Which.{Which}
use Rattle.sync_requester.specs.Copied.{copied}
use Rattle.sync_requester.specs.Rows.{IsHeard}
use Rattle.sync_requester.proofs.ChunkLaws.{chunk-asks, chunk-is, take-stops}
use Rattle.sync_requester.proofs.Planned.{asks_chunk, remains}
use Rattle.sync_requester.proofs.chunks.hear_chunk.Goals as goal

pub returns-then-not-is_awaited-clause-plans : goal.returns-then-not-is_awaited-clause-plans
returns-then-not-is_awaited-clause-plans c =
    λ f.
    let me = c.args.here.now.me.now in
    let s = c.args.state.now in
    let w = readings_of c.args.here.now.kv.now in
    let p = c.args.chunk.now.place.now in
    let values = c.args.chunk.now.values.now in
    let entries = c.args.chunk.now.entries.now in
    remains me c.args.here.now.time (IsHeard w s f) (hear_chunk me c.args.here.now.time f c.args.cookie p values entries c.args.done) s (λ x b. b.role) next.Stay (λ x. refl)
    (λ x b. chunk-is w s f x b me c.args.here.now.time p values entries c.args.cookie c.args.done false (sym c.is_awaited.ensures ∙ c.if-not-is_awaited.true))
    c.stay.result c.in_ok-copy.field-0 c.in_ok-copy.ensures c.stay.ensures

pub returns-clause-plans : goal.returns-clause-plans
returns-clause-plans c =
    λ f.
    let me = c.args.here.now.me.now in
    let s = c.args.state.now in
    let m = c.args.here.now.kv.now in
    let w = readings_of m in
    let p = c.args.chunk.now.place.now in
    let values = c.args.chunk.now.values.now in
    let entries = c.args.chunk.now.entries.now in
    let taken = c.in_ok-tx.field-0 in
    let h = c.in_ok-tx.ensures in
    let cs = copied s.full (suc p.version) values entries in
    let epoch : c.in_ok-epoch.epoch ≡ epoch_of (played cs w) =
    c.in_ok-epoch.ensures ∙ ap (λ (ops : List Op). epoch_of (readings_of (apply ops m))) h.encoded ∙ ap epoch_of (readings-after cs h.fit m) in
    does_as me c.args.here.now.time requester_is (IsHeard w s f) (λ x. x) (hear_chunk me c.args.here.now.time f c.args.cookie p values entries c.args.done)
    cs h.fit (asks_chunk me c.args.here.now.time (encoded cs) c.args.cookie (record s { place = taken.place }) (epoch_of (played cs w))) refl
    (λ x b.
    chunk-is w s f x b me c.args.here.now.time p values entries c.args.cookie c.args.done true (sym c.is_awaited.ensures ∙ c.if-not-is_awaited.false)
    ∙ chunk-asks w s f x b me c.args.here.now.time p values entries c.args.done taken h c.args.cookie)
    c.in_ok-ask_chunk.field-0
    (c.in_ok-ask_chunk.ensures ∙ (λ i. asks_chunk me c.args.here.now.time (h.encoded i) c.args.cookie (c.at_place.ensures i) (epoch i)))

pub returns-in_err-tx-clause-plans : goal.returns-in_err-tx-clause-plans
returns-in_err-tx-clause-plans c =
    λ f.
    let me = c.args.here.now.me.now in
    let s = c.args.state.now in
    let w = readings_of c.args.here.now.kv.now in
    let p = c.args.chunk.now.place.now in
    let values = c.args.chunk.now.values.now in
    let entries = c.args.chunk.now.entries.now in
    let failed = err_from_is_err_and c.from_residual-in_err-tx.result c.from_residual-in_err-tx.ensures.1 in
    let row = hear_chunk me c.args.here.now.time f c.args.cookie p values entries c.args.done in
    subst (λ (r : Result (Plan Requester) RoleStop). PlansRow me c.args.here.now.time requester_is (IsHeard w s f) row r) (sym (failed.1 ∙ ap Err failed.2))
    (take-stops s p values entries c.args.done me c.args.here.now.time (IsHeard w s f) row c.in_err-tx.field-0.0 c.in_err-tx.ensures (λ x b. b.role)
    (λ x b which e.
    chunk-is w s f x b me c.args.here.now.time p values entries c.args.cookie c.args.done true (sym c.is_awaited.ensures ∙ c.if-not-is_awaited.false)
    ∙ ap (λ (r : Result Course Which). r >>= (λ y. Ok (ask_chunk me c.args.here.now.time c.args.cookie y.state.requester.place y))) e))
