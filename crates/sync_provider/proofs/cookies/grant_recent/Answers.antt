use Rattle.std.proofs.Common.{suc, ltb, false, Ok, ap, sym, ◌∙◌}
use Rattle.mon_msg.specs.Protocol.Course.{Course, provider_is}
use Rattle.mon_msg.specs.Protocol.Places.{no_cookie}
use Rattle.mon_msg.specs.Protocol.Providing.{grant, hear_get_cookie_recent}
use Rattle.mon_msg.specs.Protocol.Readings.{readings_of}
use Rattle.mon_msg.specs.Protocol.Sending.{send}
use Rattle.mon_tx.specs.Map.{Store}
use Rattle.mon_wire.specs.declared.body.Body.TheVariants as body
use Rattle.mon_plan.proofs.Planning.{instead}
use Rattle.sync_provider.specs.Rows.{Holds}
use Rattle.sync_provider.proofs.RowLaws.{recent-refused, recent-grants}
use Rattle.sync_provider.proofs.cookies.grant_recent.Goals as goal

pub returns-then-lacks-clause-plans : goal.returns-then-lacks-clause-plans
returns-then-lacks-clause-plans c =
    λ now.
    let here = c.args.here.now in
    let me = here.me.now in
    let s = here.state.now in
    let w = readings_of here.kv.now in
    let kept = ap (λ (m : Store). ltb (suc c.args.last) (readings_of m).first) (sym c.of-stored.ensures) in
    instead me now provider_is (Holds w s) (λ x. x) (λ (x : Course). Ok (send me c.args.to (body.NoCookie no_cookie) x)) (hear_get_cookie_recent me c.args.to c.args.last) c.answer.result
    (λ x b. recent-refused w s x b me c.args.to c.requires c.args.last (kept ∙ sym c.lacks.ensures ∙ c.if-lacks.true)) (c.answer.ensures.plans now)

pub returns-clause-plans : goal.returns-clause-plans
returns-clause-plans c =
    λ now.
    let here = c.args.here.now in
    let me = here.me.now in
    let s = here.state.now in
    let w = readings_of here.kv.now in
    let kept = ap (λ (m : Store). ltb (suc c.args.last) (readings_of m).first) (sym c.of-stored.ensures) in
    instead me now provider_is (Holds w s) (λ x. x) (grant me false c.args.to) (hear_get_cookie_recent me c.args.to c.args.last) c.grant.result
    (λ x b. recent-grants w s x b me c.args.to c.requires c.args.last (kept ∙ sym c.lacks.ensures ∙ c.if-lacks.false)) (c.grant.ensures.plans now)
