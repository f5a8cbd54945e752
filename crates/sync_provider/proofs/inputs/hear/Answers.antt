use Rattle.std.proofs.Common.{true, [], refl, ap, sym, subst, ◌∙◌}
use Rattle.mon_msg.specs.Protocol.Course.{provider_is}
use Rattle.mon_msg.specs.Protocol.Hearing.{hear}
use Rattle.mon_msg.specs.Protocol.Providing.{grant, hear_get_cookie_full}
use Rattle.mon_msg.specs.Protocol.Readings.{readings_of, shared_entries}
use Rattle.mon_msg.specs.declared.plan.Next.TheVariants as next
use Rattle.mon_tx.specs.Map.{Store}
use Rattle.mon_wire.specs.declared.body.Body.{Body}
use Rattle.mon_plan.proofs.Kept.{kept-provider}
use Rattle.mon_plan.proofs.Planning.{instead, only_acts}
use Rattle.sync_provider.specs.Rows.{ByRow, Holds}
use Rattle.sync_provider.proofs.RowLaws.{full-grants, hear-dropped}
use Rattle.sync_provider.proofs.inputs.hear.Goals as goal

pub grant_recent-requires : goal.grant_recent-requires
grant_recent-requires c = ap (λ (m : Store). (readings_of m).marked) (sym c.of-stored.ensures) ∙ sym c.is_marked.ensures ∙ c.if-is_marked.false

pub give_chunk-requires : goal.give_chunk-requires
give_chunk-requires c = ap (λ (m : Store). (readings_of m).marked) (sym c.of-stored.ensures) ∙ sym c.is_marked.ensures ∙ c.if-is_marked.false

pub returns-then-is_marked-clause-plans : goal.returns-then-is_marked-clause-plans
returns-then-is_marked-clause-plans c =
    λ now.
    let here = c.args.here.now in
    let me = here.me.now in
    let s = here.state.now in
    let w = readings_of here.kv.now in
    let m = c.args.message.now in
    let shared = shared_entries here.kv.now in
    only_acts me now provider_is (Holds w s) (λ x. x) (hear me shared now m.from m.epoch m.body)
    [] tt s (λ x b. kept-provider s x b.role) next.Stay (λ x. refl)
    (λ x b.
    hear-dropped w s x b me m.from (ap (λ (m : Store). (readings_of m).marked) (sym c.of-stored.ensures) ∙ sym c.is_marked.ensures ∙ c.if-is_marked.true)
    shared now m.epoch m.body c.requires)
    c.stay.result c.stay.ensures

pub returns-in-GetCookieFull-clause-plans : goal.returns-in-GetCookieFull-clause-plans
returns-in-GetCookieFull-clause-plans c =
    λ now.
    let here = c.args.here.now in
    let me = here.me.now in
    let s = here.state.now in
    let w = readings_of here.kv.now in
    let m = c.args.message.now in
    let unmarked = ap (λ (m : Store). (readings_of m).marked) (sym c.of-stored.ensures) ∙ sym c.is_marked.ensures ∙ c.if-is_marked.false in
    subst (λ (b : Body). ByRow here now (hear me (shared_entries here.kv.now) now m.from m.epoch b) c.grant.result) (sym c.in-GetCookieFull.is)
    (instead me now provider_is (Holds w s) (λ x. x) (grant me true m.from) (hear_get_cookie_full me m.from) c.grant.result
    (λ x b. full-grants w s x b me m.from unmarked)
    (c.grant.ensures.plans now))

pub returns-in-GetCookieRecent-clause-plans : goal.returns-in-GetCookieRecent-clause-plans
returns-in-GetCookieRecent-clause-plans c =
    λ now.
    let here = c.args.here.now in
    let m = c.args.message.now in
    subst (λ (b : Body). ByRow here now (hear here.me.now (shared_entries here.kv.now) now m.from m.epoch b) c.grant_recent.result) (sym c.in-GetCookieRecent.is)
    (c.grant_recent.ensures.plans now)

pub returns-in-GetChunk-clause-plans : goal.returns-in-GetChunk-clause-plans
returns-in-GetChunk-clause-plans c =
    λ now.
    let here = c.args.here.now in
    let m = c.args.message.now in
    subst (λ (b : Body). ByRow here now (hear here.me.now (shared_entries here.kv.now) now m.from m.epoch b) c.give_chunk.result) (sym c.in-GetChunk.is) (c.give_chunk.ensures.plans now)
