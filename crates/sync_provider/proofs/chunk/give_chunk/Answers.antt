use Rattle.std.proofs.Common.{Ok, ap, sym, ◌∙◌}
use Rattle.mon_msg.specs.Protocol.Course.{Course, provider_is}
use Rattle.mon_msg.specs.Protocol.Providing.{hear_get_chunk}
use Rattle.mon_msg.specs.Protocol.Readings.{readings_of, shared_entries}
use Rattle.mon_msg.specs.Protocol.Sending.{send}
use Rattle.mon_tx.specs.Map.{Store}
use Rattle.mon_wire.specs.declared.body.Body.TheVariants as body
use Rattle.mon_wire.specs.declared.body.Body.{Body}
use Rattle.mon_plan.proofs.Planning.{instead}
use Rattle.sync_provider.specs.Rows.{Holds}
use Rattle.sync_provider.proofs.RowLaws.{refused_by, chunk-refused, chunk-sent}
use Rattle.sync_provider.proofs.chunk.give_chunk.Goals as goal

pub returns-then-is_refused-clause-plans : goal.returns-then-is_refused-clause-plans
returns-then-is_refused-clause-plans c =
    λ now.
    let here = c.args.here.now in
    let me = here.me.now in
    let s = here.state.now in
    let m = here.kv.now in
    let w = readings_of m in
    let p = c.args.place.now in
    let test = ap (λ (m : Store). refused_by c.args.to c.args.cookie p (readings_of m) s) (sym c.of-stored.ensures) ∙ sym c.is_refused.ensures ∙ c.if-is_refused.true in
    instead me now provider_is (Holds w s) (λ x. x) (λ (x : Course). Ok (send me c.args.to (body.NoCookie c.args.cookie) x)) (hear_get_chunk me (shared_entries m) c.args.to c.args.cookie p) c.answer.result
    (λ x b. chunk-refused w s x b me c.args.to c.requires (shared_entries m) c.args.cookie p test)
    (c.answer.ensures.plans now)

pub returns-clause-plans : goal.returns-clause-plans
returns-clause-plans c =
    λ now.
    let here = c.args.here.now in
    let me = here.me.now in
    let s = here.state.now in
    let m = here.kv.now in
    let w = readings_of m in
    let p = c.args.place.now in
    let given = c.in_ok-body.body in
    let test = ap (λ (m : Store). refused_by c.args.to c.args.cookie p (readings_of m) s) (sym c.of-stored.ensures) ∙ sym c.is_refused.ensures ∙ c.if-is_refused.false in
    instead me now provider_is (Holds w s) (λ x. x) (λ (x : Course). Ok (send me c.args.to given x)) (hear_get_chunk me (shared_entries m) c.args.to c.args.cookie p) c.answer-2.result
    (λ x b. chunk-sent w s x b me c.args.to c.requires (shared_entries m) c.args.cookie p test ∙ ap (λ (a : Body). Ok (send me c.args.to a x)) (sym (c.in_ok-body.ensures me.member.monitors)))
    (c.answer-2.ensures.plans now)
