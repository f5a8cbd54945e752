use Rattle.std.proofs.Common.{ℕ, true, false, refl, sym, ◌∙◌}
use Rattle.mon_msg.specs.Protocol.Copying.{hear_no_cookie}
use Rattle.mon_msg.specs.Protocol.Readings.{readings_of}
use Rattle.mon_msg.specs.declared.plan.Next.TheVariants as next
use Rattle.sync_requester.specs.Rows.{IsHeard}
use Rattle.sync_requester.proofs.CookieLaws.{no_cookie-is}
use Rattle.sync_requester.proofs.Planned.{remains}
use Rattle.sync_requester.proofs.cookies.hear_no_cookie.Goals as goal

pub returns-then-is_lost-clause-plans : goal.returns-then-is_lost-clause-plans
returns-then-is_lost-clause-plans c =
    λ f.
    let me = c.args.here.now.me.now in
    let now : ℕ = c.args.here.now.time in
    let w = readings_of c.args.here.now.kv.now in
    let s = c.args.state.now in
    remains me now (IsHeard w s f) (hear_no_cookie me now f c.args.cookie) s (λ x b. b.role) next.Bootstrap (λ x. refl)
    (λ x b. no_cookie-is w s f x b me now c.args.cookie true (sym c.is_lost.ensures ∙ c.if-is_lost.true))
    c.planned.result c.in_ok-kept.kept c.in_ok-kept.ensures c.planned.ensures

pub returns-clause-plans : goal.returns-clause-plans
returns-clause-plans c =
    λ f.
    let me = c.args.here.now.me.now in
    let now : ℕ = c.args.here.now.time in
    let w = readings_of c.args.here.now.kv.now in
    let s = c.args.state.now in
    remains me now (IsHeard w s f) (hear_no_cookie me now f c.args.cookie) s (λ x b. b.role) next.Stay (λ x. refl)
    (λ x b. no_cookie-is w s f x b me now c.args.cookie false (sym c.is_lost.ensures ∙ c.if-is_lost.false))
    c.stay.result c.in_ok-kept.kept c.in_ok-kept.ensures c.stay.ensures
