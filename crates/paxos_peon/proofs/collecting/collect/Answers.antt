use Rattle.std.proofs.Common.{◌≡◌, ℕ, suc, ◌^◌, ◌++◌, cond, ltb, List, [], ◌∷◌, None, refl, ap, subst, ◌∙◌, arith}
use Rattle.std.specs.List.{AllByRecursion}
use Rattle.mon_msg.specs.Protocol.Answers.{answer_of}
use Rattle.mon_msg.specs.Protocol.Changes.{encoded}
use Rattle.mon_msg.specs.Protocol.Course.{peon_is}
use Rattle.mon_msg.specs.Protocol.Peon.{hear_collect}
use Rattle.mon_msg.specs.Protocol.Played.{Fits}
use Rattle.mon_msg.specs.Protocol.Readings.{readings_of, epoch_of, promise_of}
use Rattle.mon_msg.specs.Protocol.Records.{pending}
use Rattle.mon_msg.specs.Protocol.Sending.{message_to}
use Rattle.mon_msg.specs.declared.plan.Next.TheVariants as next
use Rattle.mon_msg.specs.declared.plan.Sent.{Sent}
use Rattle.mon_tx.specs.declared.op.Op.{Op}
use Rattle.mon_wire.specs.declared.body.Body.{Body}
use Rattle.mon_plan.proofs.Kept.{kept-peon}
use Rattle.mon_plan.proofs.Learning.{above}
use Rattle.mon_plan.proofs.Planning.{does, only_acts}
use Rattle.paxos_peon.specs.Rows.{IsOurs, promised}
use Rattle.paxos_peon.proofs.CollectLaws.{told_with, collect-behind, collect-spent, collect-told}
use Rattle.paxos_peon.proofs.collecting.collect.Goals as goal

pub returns-then-get-clause-plans : goal.returns-then-get-clause-plans
returns-then-get-clause-plans c =
    λ e.
    let here = c.args.here.now in
    let me = here.me.now in
    let s = here.state.now in
    let w = readings_of here.stored.now in
    only_acts me here.time peon_is (IsOurs w s s.leader e) (λ x. x) (hear_collect me here.time s.leader e c.args.pn c.args.leader_first c.args.leader_last)
    [] tt s (λ x b. kept-peon s x b.role) next.Bootstrap (λ x. refl)
    (λ x b.
    collect-behind w s s.leader e x b me here.time c.args.pn c.args.leader_first c.args.leader_last
    (omega (arith, c.if-get.true, c.get.ensures.value, c.get-2.ensures.value, c.last.ensures.value)))
    c.planned.result c.planned.ensures

pub returns-in_default-clause-plans : goal.returns-in_default-clause-plans
returns-in_default-clause-plans c =
    λ e x b.
    let here = c.args.here.now in
    let s = here.state.now in
    collect-spent (readings_of here.stored.now) s s.leader e x b here.me.now here.time c.args.pn c.args.leader_first c.args.leader_last
    (omega (arith, c.if-get.false, c.get.ensures.value, c.get-2.ensures.value, c.last.ensures.value))
    (let over = above (suc c.args.leader_last) (2 ^ 62) (λ le. c.in_default.ensures.valid.1 (omega (arith, le))) in omega (arith, over))

pub returns-clause-plans : goal.returns-clause-plans
returns-clause-plans c =
    λ e.
    let here = c.args.here.now in
    let me = here.me.now in
    let s = here.state.now in
    let w = readings_of here.stored.now in
    let old = promise_of w in
    let new : c.in_ok-promise.promise ≡ cond (ltb old c.args.pn) c.args.pn old = c.in_ok-promise.ensures.number ∙ ap (λ (k : ℕ). cond (ltb k c.args.pn) c.args.pn k) c.promise.ensures in
    let from : c.in-Some.next ≡ suc c.args.leader_last = omega (arith, c.in-Some.ensures.value) in
    does me here.time peon_is (IsOurs w s s.leader e) (λ x. x) (hear_collect me here.time s.leader e c.args.pn c.args.leader_first c.args.leader_last)
    (promised old c.args.pn) (subst (λ (k : ℕ). AllByRecursion Fits (promised k c.args.pn)) c.promise.ensures c.in_ok-promise.ensures.fit)
    (message_to me (epoch_of w) (told_with me c.args.leader_last (cond (ltb old c.args.pn) c.args.pn old) w) s.leader ∷ []) [] (record s { lease = None }) next.Stay
    (λ x b.
    collect-told w s s.leader e x b me here.time c.args.pn c.args.leader_first c.args.leader_last
    (omega (arith, c.if-get.false, c.get.ensures.value, c.get-2.ensures.value, c.last.ensures.value))
    (let short = c.in-Some.ensures.valid.0 refl in omega (arith, short)))
    (record { tx = c.promised.new.tx; out = c.in_ok-out.out; timers = c.new.result; state = c.without_lease.result; next = next.Stay })
    (c.in_ok-promise.ensures.changes ∙ ap (λ (t : List Op). t ++ encoded (promised c.promise.result c.args.pn)) c.new-tx.ensures ∙ ap (λ (k : ℕ). encoded (promised k c.args.pn)) c.promise.ensures)
    (c.in_ok-out.ensures
    ∙ ap (λ (m : Sent). m ∷ [])
    (c.message-sent.ensures ∙ ap (λ (k : ℕ). message_to me k c.in_ok-answer.answer s.leader) c.epoch.ensures
    ∙ ap (λ (b : Body). message_to me (epoch_of w) b s.leader)
    (c.in_ok-answer.ensures me.member.monitors ∙ (λ i. answer_of me.member.monitors (new i) w.first w.last w.record_of (pending w) (from i)))))
    c.new.ensures c.without_lease.ensures refl
