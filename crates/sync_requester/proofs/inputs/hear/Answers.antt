use Rattle.std.proofs.Common.{◌≤◌, List, length, IsTrue, false, refl, sym, subst, ◌∙◌}
use Rattle.std.specs.List.{AllByRecursion}
use Rattle.mon_bytes.specs.declared.entry.Entry.{Entry}
use Rattle.mon_msg.specs.Protocol.Chunks.{hear_chunk, hear_last_chunk}
use Rattle.mon_msg.specs.Protocol.Copying.{hear_cookie, hear_no_cookie}
use Rattle.mon_msg.specs.Protocol.Course.{requester_is}
use Rattle.mon_msg.specs.Protocol.Hearing.{hear}
use Rattle.mon_msg.specs.Protocol.Length.{fits}
use Rattle.mon_msg.specs.Protocol.Readings.{readings_of}
use Rattle.mon_msg.specs.declared.plan.Next.TheVariants as next
use Rattle.mon_plan.specs.Plans.{PlansRow}
use Rattle.mon_plan.specs.Seen.{IsMet}
use Rattle.mon_tx.specs.Text.{most, text}
use Rattle.mon_tx.specs.declared.op.Op.{Op}
use Rattle.mon_wire.specs.declared.body.Body.{Body}
use Rattle.sync_requester.specs.Rows.{IsHeard}
use Rattle.sync_requester.proofs.HearLaws.{chunk-short, hear-dropped, heard-row, last-short, provider-is}
use Rattle.sync_requester.proofs.Planned.{remains}
use Rattle.sync_requester.proofs.inputs.hear.Goals as goal

pub returns-then-not-is_of_provider-clause-plans : goal.returns-then-not-is_of_provider-clause-plans
returns-then-not-is_of_provider-clause-plans c =
    λ shared.
    let me = c.args.here.now.me.now in
    let s = c.args.state.now in
    let w = readings_of c.args.here.now.kv.now in
    let m = c.args.message.now in
    remains me c.args.here.now.time (IsMet me c.args.here.now.time w c.args.view.now (λ st. st.requester) s) (hear me shared c.args.here.now.time m.from m.epoch m.body) s (λ x b. b.role) next.Stay (λ x. refl)
    (λ x b.
    hear-dropped me shared c.args.here.now.time m.from m.epoch m.body c.requires.input x
    (provider-is me c.args.here.now.time w c.args.view.now s m.from false (sym c.is_of_provider.ensures ∙ c.if-not-is_of_provider.true) x b))
    c.stay.result c.in_ok-copy.field-0 c.in_ok-copy.ensures c.stay.ensures

pub returns-in-Cookie-clause-plans : goal.returns-in-Cookie-clause-plans
returns-in-Cookie-clause-plans c =
    λ shared.
    let me = c.args.here.now.me.now in
    let s = c.args.state.now in
    let w = readings_of c.args.here.now.kv.now in
    let m = c.args.message.now in
    let row = hear_cookie me c.args.here.now.time m.from c.in-Cookie.full c.in-Cookie.cookie c.in-Cookie.last in
    subst (λ (b : Body). PlansRow me c.args.here.now.time requester_is (IsMet me c.args.here.now.time w c.args.view.now (λ st. st.requester) s) (hear me shared c.args.here.now.time m.from m.epoch b) c.hear_cookie.result) (sym c.in-Cookie.is)
    (heard-row me c.args.here.now.time w c.args.view.now s m.from (sym c.is_of_provider.ensures ∙ c.if-not-is_of_provider.false) row c.hear_cookie.result
    (c.hear_cookie.ensures.plans m.from))

pub returns-in-Chunk-clause-plans : goal.returns-in-Chunk-clause-plans
returns-in-Chunk-clause-plans c =
    λ shared.
    let me = c.args.here.now.me.now in
    let s = c.args.state.now in
    let w = readings_of c.args.here.now.kv.now in
    let m = c.args.message.now in
    let row = λ (vs : List (List Op)) (es : List Entry). hear_chunk me c.args.here.now.time m.from c.in-Chunk.cookie c.in-Chunk.place vs es c.in-Chunk.done in
    subst (λ (b : Body). PlansRow me c.args.here.now.time requester_is (IsMet me c.args.here.now.time w c.args.view.now (λ st. st.requester) s) (hear me shared c.args.here.now.time m.from m.epoch b) c.hear_chunk.result) (sym c.in-Chunk.is)
    (heard-row me c.args.here.now.time w c.args.view.now s m.from (sym c.is_of_provider.ensures ∙ c.if-not-is_of_provider.false) (row c.in-Chunk.values c.in-Chunk.entries) c.hear_chunk.result
    (subst (λ (es : List Entry). PlansRow me c.args.here.now.time requester_is (IsHeard w s m.from) (row c.in-Chunk.values es) c.hear_chunk.result) c.as_slice-in-Chunk.ensures
    (subst (λ (vs : List (List Op)). PlansRow me c.args.here.now.time requester_is (IsHeard w s m.from) (row vs c.as_slice-in-Chunk.result.now) c.hear_chunk.result) c.as_slice.ensures (c.hear_chunk.ensures.plans m.from))))

pub returns-in-LastChunk-clause-plans : goal.returns-in-LastChunk-clause-plans
returns-in-LastChunk-clause-plans c =
    λ shared.
    let me = c.args.here.now.me.now in
    let s = c.args.state.now in
    let w = readings_of c.args.here.now.kv.now in
    let m = c.args.message.now in
    let row = λ (vs : List (List Op)) (es : List Entry). hear_last_chunk me c.args.here.now.time m.from c.in-LastChunk.cookie c.in-LastChunk.place vs es c.in-LastChunk.last in
    subst (λ (b : Body). PlansRow me c.args.here.now.time requester_is (IsMet me c.args.here.now.time w c.args.view.now (λ st. st.requester) s) (hear me shared c.args.here.now.time m.from m.epoch b) c.hear_last_chunk.result) (sym c.in-LastChunk.is)
    (heard-row me c.args.here.now.time w c.args.view.now s m.from (sym c.is_of_provider.ensures ∙ c.if-not-is_of_provider.false) (row c.in-LastChunk.values c.in-LastChunk.entries) c.hear_last_chunk.result
    (subst (λ (es : List Entry). PlansRow me c.args.here.now.time requester_is (IsHeard w s m.from) (row c.in-LastChunk.values es) c.hear_last_chunk.result) c.as_slice-in-LastChunk-2.ensures
    (subst (λ (vs : List (List Op)). PlansRow me c.args.here.now.time requester_is (IsHeard w s m.from) (row vs c.as_slice-in-LastChunk-2.result.now) c.hear_last_chunk.result) c.as_slice-in-LastChunk.ensures (c.hear_last_chunk.ensures.plans m.from))))

pub returns-in-NoCookie-clause-plans : goal.returns-in-NoCookie-clause-plans
returns-in-NoCookie-clause-plans c =
    λ shared.
    let me = c.args.here.now.me.now in
    let s = c.args.state.now in
    let w = readings_of c.args.here.now.kv.now in
    let m = c.args.message.now in
    subst (λ (b : Body). PlansRow me c.args.here.now.time requester_is (IsMet me c.args.here.now.time w c.args.view.now (λ st. st.requester) s) (hear me shared c.args.here.now.time m.from m.epoch b) c.hear_no_cookie.result) (sym c.in-NoCookie.is)
    (heard-row me c.args.here.now.time w c.args.view.now s m.from (sym c.is_of_provider.ensures ∙ c.if-not-is_of_provider.false) (hear_no_cookie me c.args.here.now.time m.from c.in-NoCookie.cookie) c.hear_no_cookie.result
    (c.hear_no_cookie.ensures.plans m.from))

pub hear_chunk-requires-clause-short : goal.hear_chunk-requires-clause-short
hear_chunk-requires-clause-short c =
    subst (AllByRecursion (λ (ops : List Op). length (text ops) ≤ most)) (sym c.as_slice.ensures)
    (chunk-short c.args.here.now.me.now.member.monitors c.in-Chunk.cookie c.in-Chunk.place c.in-Chunk.values c.in-Chunk.entries c.in-Chunk.done
    (subst (λ (b : Body). IsTrue (fits c.args.here.now.me.now.member.monitors b)) c.in-Chunk.is c.requires.fits))

pub hear_last_chunk-requires-clause-short : goal.hear_last_chunk-requires-clause-short
hear_last_chunk-requires-clause-short c =
    subst (AllByRecursion (λ (ops : List Op). length (text ops) ≤ most)) (sym c.as_slice-in-LastChunk.ensures)
    (last-short c.args.here.now.me.now.member.monitors c.in-LastChunk.cookie c.in-LastChunk.place c.in-LastChunk.values c.in-LastChunk.entries c.in-LastChunk.last
    (subst (λ (b : Body). IsTrue (fits c.args.here.now.me.now.member.monitors b)) c.in-LastChunk.is c.requires.fits))
