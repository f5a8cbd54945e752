use Rattle.std.proofs.Common.{◌≡◌, ℕ, [], Ok, refl, sym, ap, subst, ◌∙◌}
use Rattle.mon_msg.specs.Protocol.Copying.{first_place, hear_cookie}
use Rattle.mon_msg.specs.Protocol.Course.{requester_is}
use Rattle.mon_msg.specs.Protocol.Readings.{epoch_of, readings_of}
use Rattle.mon_msg.specs.declared.plan.Next.TheVariants as next
use Rattle.mon_plan.proofs.Planning.{does_as}
use Rattle.mon_plan.specs.Plans.{PlansRow}
use Rattle.mon_tx.specs.Map.{Store}
use Rattle.mon_wire.specs.declared.parts.Place.{Place}
use Rattle.sync_requester.specs.Rows.{IsHeard}
use Rattle.sync_requester.proofs.CookieLaws.{cookie-refused, cookie-taken, started}
use Rattle.sync_requester.proofs.Planned.{asks_chunk, remains}
use Rattle.sync_requester.proofs.cookies.hear_cookie.Goals as goal

pub returns-then-is_refused-clause-plans : goal.returns-then-is_refused-clause-plans
returns-then-is_refused-clause-plans c =
    λ f.
    let me = c.args.here.now.me.now in
    let s = c.args.state.now in
    let w = readings_of c.of-stored.result in
    let row = hear_cookie me c.args.here.now.time f c.args.full c.args.cookie c.args.last in
    subst (λ (m : Store). PlansRow me c.args.here.now.time requester_is (IsHeard (readings_of m) s f) row (Ok c.stay.result)) c.of-stored.ensures
    (remains me c.args.here.now.time (IsHeard w s f) row s (λ x b. b.role) next.Stay (λ x. refl)
    (λ x b. cookie-refused w s f x b me c.args.here.now.time c.args.full c.args.cookie c.args.last (sym c.is_refused.ensures ∙ c.if-is_refused.true))
    c.stay.result c.in_ok-copy.field-0 c.in_ok-copy.ensures c.stay.ensures)

pub returns-clause-plans : goal.returns-clause-plans
returns-clause-plans c =
    λ f.
    let me = c.args.here.now.me.now in
    let s = c.args.state.now in
    let w = readings_of c.of-stored.result in
    let place = first_place c.args.full c.args.last w.last in
    let taking : c.with_cookie-taking.result ≡ started c.args.cookie place s =
    c.with_cookie-taking.ensures ∙ ap (λ (p : Place). started c.args.cookie p s) (c.first_place-place.ensures ∙ ap (λ (n : ℕ). first_place c.args.full c.args.last n) c.last.ensures.value) in
    let row = hear_cookie me c.args.here.now.time f c.args.full c.args.cookie c.args.last in
    subst (λ (m : Store). PlansRow me c.args.here.now.time requester_is (IsHeard (readings_of m) s f) row (Ok c.in_ok-ask_chunk.field-0)) c.of-stored.ensures
    (does_as me c.args.here.now.time requester_is (IsHeard w s f) (λ x. x) row
    [] tt (asks_chunk me c.args.here.now.time [] c.args.cookie (started c.args.cookie place s) (epoch_of w)) refl
    (λ x b. cookie-taken w s f x b me c.args.here.now.time c.args.full c.args.cookie c.args.last (sym c.is_refused.ensures ∙ c.if-is_refused.false))
    c.in_ok-ask_chunk.field-0
    (c.in_ok-ask_chunk.ensures ∙ (λ i. asks_chunk me c.args.here.now.time (c.new-tx.ensures i) c.args.cookie (taking i) (c.epoch.ensures i))))
