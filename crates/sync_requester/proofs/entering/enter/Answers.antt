use Rattle.std.proofs.Common.{◌≡◌, Bool, true, false, cond, [], ◌∷◌, ◌++◌, Ok, refl, sym, ap, subst, ◌∙◌, append-nil}
use Rattle.mon_msg.specs.Protocol.Changes.{Mark, ops_of, encoded}
use Rattle.mon_msg.specs.Protocol.Course.{requester_is}
use Rattle.mon_msg.specs.Protocol.Played.{Fits}
use Rattle.mon_msg.specs.Protocol.Readings.{readings_of}
use Rattle.mon_msg.specs.Protocol.State.{start_requester}
use Rattle.mon_msg.specs.declared.plan.Next.TheVariants as next
use Rattle.mon_plan.proofs.Planning.{does_as}
use Rattle.mon_plan.specs.Plans.{PlansAct, act, entered}
use Rattle.mon_tx.specs.Map.{Store}
use Rattle.mon_wire.specs.declared.body.Body.TheVariants as body
use Rattle.sync_requester.specs.Rows.{IsEntering}
use Rattle.sync_requester.proofs.EnterLaws.{full-begins, mark, recent-begins}
use Rattle.sync_requester.proofs.Planned.{asks}
use Rattle.sync_requester.proofs.entering.enter.Goals as goal

pub returns-then-not-full-clause-plans : goal.returns-then-not-full-clause-plans
returns-then-not-full-clause-plans c =
    let me = c.args.me.now in
    let w = readings_of c.args.kv.now in
    let last = c.last-last.ensures.value ∙ ap (λ (m : Store). (readings_of m).last) c.of-stored.ensures in
    subst (λ (t : Bool). PlansAct me c.args.now requester_is (IsEntering c.args.epoch w) (cond t (next.FullSync c.args.from) (next.RecentSync c.args.from)) (Ok c.in_ok-ask.field-0)) (sym c.if-not-full.true)
    (does_as me c.args.now requester_is (IsEntering c.args.epoch w) (entered (next.RecentSync c.args.from)) (act me c.args.now (next.RecentSync c.args.from))
    [] tt (asks me c.args.now [] (body.GetCookieRecent w.last) (start_requester c.args.from false) c.args.epoch) refl
    (λ x b. recent-begins me c.args.now c.args.epoch w x b c.args.from)
    c.in_ok-ask.field-0
    (c.in_ok-ask.ensures ∙ (λ i. asks me c.args.now (c.new-tx.ensures i) (body.GetCookieRecent (last i)) (c.awaiting.ensures i) c.args.epoch)))

pub returns-clause-plans : goal.returns-clause-plans
returns-clause-plans c =
    let me = c.args.me.now in
    let w = readings_of c.args.kv.now in
    let marked : Mark c.floor_of-floor.result c.last_pn-last_pn.result c.promised-promised.result ≡ mark w =
    (λ i. Mark (c.floor_of-floor.ensures i) (c.last_pn-last_pn.ensures i) (c.promised-promised.ensures i)) ∙ ap (λ (m : Store). mark (readings_of m)) c.of-stored.ensures in
    let tx : c.put_mark.new.tx ≡ encoded (mark w ∷ []) =
    c.in_ok-put_mark.ensures.changes ∙ (λ i. c.new-tx.ensures i ++ ops_of (marked i)) ∙ sym (append-nil (ops_of (mark w))) in
    subst (λ (t : Bool). PlansAct me c.args.now requester_is (IsEntering c.args.epoch w) (cond t (next.FullSync c.args.from) (next.RecentSync c.args.from)) (Ok c.in_ok-ask-2.field-0)) (sym c.if-not-full.false)
    (does_as me c.args.now requester_is (IsEntering c.args.epoch w) (entered (next.FullSync c.args.from)) (act me c.args.now (next.FullSync c.args.from))
    (mark w ∷ []) (subst Fits marked c.in_ok-put_mark.ensures.fit, tt) (asks me c.args.now (encoded (mark w ∷ [])) body.GetCookieFull (start_requester c.args.from true) c.args.epoch) refl
    (λ x b. full-begins me c.args.now c.args.epoch w x b c.args.from)
    c.in_ok-ask-2.field-0
    (c.in_ok-ask-2.ensures ∙ (λ i. asks me c.args.now (tx i) body.GetCookieFull (c.awaiting-2.ensures i) c.args.epoch)))
