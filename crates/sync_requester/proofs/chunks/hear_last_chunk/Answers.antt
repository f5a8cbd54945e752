use Rattle.std.proofs.Common.{true, false, refl, sym, ◌∙◌}
use Rattle.mon_msg.specs.Protocol.Chunks.{hear_last_chunk, take_last}
use Rattle.mon_msg.specs.Protocol.Course.{requester_is}
use Rattle.mon_msg.specs.Protocol.Readings.{readings_of}
use Rattle.mon_msg.specs.declared.plan.Next.TheVariants as next
use Rattle.mon_plan.proofs.Planning.{instead}
use Rattle.sync_requester.specs.Rows.{IsHeard}
use Rattle.sync_requester.proofs.ChunkLaws.{last_chunk-is}
use Rattle.sync_requester.proofs.Planned.{remains}
use Rattle.sync_requester.proofs.chunks.hear_last_chunk.Goals as goal

pub returns-then-not-is_awaited-clause-plans : goal.returns-then-not-is_awaited-clause-plans
returns-then-not-is_awaited-clause-plans c =
    λ f.
    let me = c.args.here.now.me.now in
    let w = readings_of c.args.here.now.kv.now in
    let s = c.args.state.now in
    let p = c.args.chunk.now.place.now in
    let values = c.args.chunk.now.values.now in
    let entries = c.args.chunk.now.entries.now in
    remains me c.args.here.now.time (IsHeard w s f) (hear_last_chunk me c.args.here.now.time f c.args.cookie p values entries c.args.last) s (λ x b. b.role) next.Stay (λ x. refl)
    (λ x b. last_chunk-is w s f x b me c.args.here.now.time p values entries c.args.cookie c.args.last false (sym c.is_awaited.ensures ∙ c.if-not-is_awaited.true))
    c.stay.result c.in_ok-copy.field-0 c.in_ok-copy.ensures c.stay.ensures

pub returns-then-state-clause-plans : goal.returns-then-state-clause-plans
returns-then-state-clause-plans c =
    λ f.
    let me = c.args.here.now.me.now in
    let w = readings_of c.args.here.now.kv.now in
    let s = c.args.state.now in
    let p = c.args.chunk.now.place.now in
    let values = c.args.chunk.now.values.now in
    let entries = c.args.chunk.now.entries.now in
    instead me c.args.here.now.time requester_is (IsHeard w s f) (λ x. x) (take_last me c.args.here.now.time p values entries c.args.last) (hear_last_chunk me c.args.here.now.time f c.args.cookie p values entries c.args.last) c.end_copy.result
    (λ x b. last_chunk-is w s f x b me c.args.here.now.time p values entries c.args.cookie c.args.last true (sym c.is_awaited.ensures ∙ c.if-not-is_awaited.false))
    (c.end_copy.ensures.plans f)

pub returns-clause-plans : goal.returns-clause-plans
returns-clause-plans c =
    λ f.
    let me = c.args.here.now.me.now in
    let w = readings_of c.args.here.now.kv.now in
    let s = c.args.state.now in
    let p = c.args.chunk.now.place.now in
    let values = c.args.chunk.now.values.now in
    let entries = c.args.chunk.now.entries.now in
    instead me c.args.here.now.time requester_is (IsHeard w s f) (λ x. x) (take_last me c.args.here.now.time p values entries c.args.last) (hear_last_chunk me c.args.here.now.time f c.args.cookie p values entries c.args.last) c.end_recent.result
    (λ x b. last_chunk-is w s f x b me c.args.here.now.time p values entries c.args.cookie c.args.last true (sym c.is_awaited.ensures ∙ c.if-not-is_awaited.false))
    (c.end_recent.ensures.plans f c.args.last)
