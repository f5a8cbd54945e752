use Rattle.std.proofs.Common.{◌≡◌, [], ◌∷◌, refl, ap, ◌∙◌, arith}
use Rattle.mon_msg.specs.Protocol.Course.{provider_is}
use Rattle.mon_msg.specs.Protocol.Providing.{grant}
use Rattle.mon_msg.specs.Protocol.Readings.{Readings, readings_of, epoch_of}
use Rattle.mon_msg.specs.Protocol.Sending.{message_to}
use Rattle.mon_msg.specs.declared.plan.Sent.{Sent}
use Rattle.mon_wire.specs.declared.body.Body.TheVariants as body
use Rattle.mon_plan.proofs.Planning.{does_as}
use Rattle.sync_provider.specs.Rows.{Holds}
use Rattle.sync_provider.proofs.RowLaws.{plan_of, says, cookie_of, with_cookie, grant-spent, grant-given}
use Rattle.sync_provider.proofs.cookies.grant.Goals as goal

pub returns-then-here-gt-GREATEST-clause-plans : goal.returns-then-here-gt-GREATEST-clause-plans
returns-then-here-gt-GREATEST-clause-plans c =
    λ now x b. grant-spent (readings_of c.args.here.now.kv.now) c.args.here.now.state.now x b c.args.here.now.me.now c.args.to c.args.full (omega arith)

pub returns-clause-plans : goal.returns-clause-plans
returns-clause-plans c =
    λ now.
    let here = c.args.here.now in
    let me = here.me.now in
    let s = here.state.now in
    let w = readings_of here.kv.now in
    let read : readings_of c.of-stored.result ≡ w = ap readings_of c.of-stored.ensures in
    let epoch : c.epoch.result ≡ epoch_of w = c.epoch.ensures ∙ ap epoch_of read in
    let boot : c.boot.result ≡ w.boot = c.boot.ensures.value ∙ ap (λ (r : Readings). r.boot) read in
    let last : c.last.result ≡ w.last = c.last.ensures.value ∙ ap (λ (r : Readings). r.last) read in
    let sent = c.message.ensures ∙ (λ i. message_to me (epoch i) (body.Cookie c.args.full (record { boot = boot i; seq = s.next_cookie }) (last i)) c.args.to) in
    let out = c.in_ok-out.ensures ∙ ap (λ (m : Sent). m ∷ []) sent in
    let state = c.with_cookie.ensures ∙ (λ i. with_cookie c.args.to (record { boot = boot i; seq = s.next_cookie }) s) in
    does_as me now provider_is (Holds w s) (λ x. x) (grant me c.args.full c.args.to)
    [] tt (says (message_to me (epoch_of w) (body.Cookie c.args.full (cookie_of w s) w.last) c.args.to) (with_cookie c.args.to (cookie_of w s) s)) refl
    (λ x b. grant-given w s x b me c.args.to c.args.full (omega arith))
    c.sending.result (c.sending.ensures ∙ (λ i. plan_of (out i) (state i)))
