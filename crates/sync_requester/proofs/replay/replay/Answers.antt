use Rattle.std.proofs.Common.{◌≡◌, ◌+◌, ◌-◌, ◌≤◌, ◌++◌, ℕ, suc, List, length, Ok, refl, sym, ap, subst, ◌∙◌, arith}
use Rattle.std.specs.List.{AllByRecursion}
use Rattle.mon_msg.specs.Protocol.Changes.{Last, Unmark, ops_of, encoded}
use Rattle.mon_msg.specs.Protocol.Course.{requester_is}
use Rattle.mon_msg.specs.Protocol.Learning.{learn_changes}
use Rattle.mon_msg.specs.Protocol.Readings.{readings_of}
use Rattle.mon_msg.specs.Protocol.Replay.{step_in}
use Rattle.mon_msg.specs.declared.plan.Next.TheVariants as next
use Rattle.mon_msg.specs.declared.synchronization.SyncStage.TheVariants as sync
use Rattle.mon_plan.proofs.Learning.{learned-fit}
use Rattle.mon_plan.proofs.Planning.{does_as}
use Rattle.mon_plan.specs.Plans.{PlansRow}
use Rattle.mon_tx.specs.Map.{Store}
use Rattle.mon_tx.specs.Text.{most, text}
use Rattle.mon_tx.specs.declared.op.Op.{Op}
use Rattle.sync_requester.specs.Rows.{Holds}
use Rattle.sync_requester.proofs.Planned.{remains, then_acts}
use Rattle.sync_requester.proofs.ReplayLaws.{end-fits, end-encoded, end_changes, few-of, replay-ends, replay-lost, replay-steps, steps_on}
use Rattle.sync_requester.proofs.replay.replay.Goals as goal

pub returns-in_default-clause-plans : goal.returns-in_default-clause-plans
returns-in_default-clause-plans c =
    let me = c.args.here.now.me.now in
    let s = c.args.state.now in
    let w = readings_of c.of-stored.result in
    let row = step_in me c.args.here.now.time (sync.Replay c.args.next c.args.end) in
    subst (λ (m : Store). PlansRow me c.args.here.now.time requester_is (Holds (readings_of m) s) row (Ok c.planned.result)) c.of-stored.ensures
    (remains me c.args.here.now.time (Holds w s) row s (λ x b. b.role) next.Bootstrap (λ x. refl)
    (λ x b. replay-lost w s x b me c.args.here.now.time c.args.next c.args.end (sym c.in_default.is ∙ c.in_ok-values.ensures))
    c.planned.result c.in_ok-kept.kept c.in_ok-kept.ensures c.planned.ensures)

pub to_learn-requires : goal.to_learn-requires
to_learn-requires c =
    let records = (readings_of c.of-stored.result).record_of in
    let few = few-of records (suc c.args.end - c.args.next) c.args.next c.in-Some.values (sym c.in-Some.is ∙ c.in_ok-values.ensures) in
    subst (AllByRecursion (λ (ops : List Op). length (text ops) ≤ most)) (sym c.as_slice.ensures) few.0

pub returns-then-after-get-clause-plans : goal.returns-then-after-get-clause-plans
returns-then-after-get-clause-plans c =
    let me = c.args.here.now.me.now in
    let s = c.args.state.now in
    let w = readings_of c.of-stored.result in
    let values = c.in-Some.values in
    let first : ℕ = c.args.next in
    let end : ℕ = c.args.end in
    let there = sym c.in-Some.is ∙ c.in_ok-values.ensures in
    let learned : c.in_ok-tx.tx ≡ encoded (learn_changes first values) = c.in_ok-tx.ensures ∙ (λ i. encoded (learn_changes first (c.as_slice.ensures i))) in
    let tx : (c.in_ok-tx.tx ++ ops_of (Last end)) ++ ops_of Unmark ≡ encoded (end_changes first end values) =
    ap (λ (ops : List Op). (ops ++ ops_of (Last end)) ++ ops_of Unmark) learned ∙ end-encoded first end values in
    let row = step_in me c.args.here.now.time (sync.Replay first end) in
    subst (λ (m : Store). PlansRow me c.args.here.now.time requester_is (Holds (readings_of m) s) row (Ok c.in_ok-end_with.field-0)) c.of-stored.ensures
    (does_as me c.args.here.now.time requester_is (Holds w s) (λ x. x) row
    (end_changes first end values) (end-fits first end values c.in_ok-end_with.ensures.fit) (then_acts (encoded (end_changes first end values)) s next.Bootstrap) refl
    (λ x b. replay-ends w s x b me c.args.here.now.time first end values there (omega (arith, c.if-after-get.true, c.get.ensures.value, c.get-2.ensures.value, c.len.ensures)))
    c.in_ok-end_with.field-0
    (c.in_ok-end_with.ensures.plan ∙ (λ i. then_acts (tx i) (c.in_ok-kept.ensures i) next.Bootstrap)))

pub returns-clause-plans : goal.returns-clause-plans
returns-clause-plans c =
    let me = c.args.here.now.me.now in
    let s = c.args.state.now in
    let w = readings_of c.of-stored.result in
    let values = c.in-Some.values in
    let first : ℕ = c.args.next in
    let end : ℕ = c.args.end in
    let there = sym c.in-Some.is ∙ c.in_ok-values.ensures in
    let cs = learn_changes first values in
    let learned : c.in_ok-tx.tx ≡ encoded cs = c.in_ok-tx.ensures ∙ (λ i. encoded (learn_changes first (c.as_slice.ensures i))) in
    let after : c.known.result ≡ first + length values = omega (arith, c.known.ensures, c.get.ensures.value, c.len.ensures) in
    let row = step_in me c.args.here.now.time (sync.Replay first end) in
    subst (λ (m : Store). PlansRow me c.args.here.now.time requester_is (Holds (readings_of m) s) row (Ok c.in_ok-go_on.field-0)) c.of-stored.ensures
    (does_as me c.args.here.now.time requester_is (Holds w s) (λ x. x) row
    cs (learned-fit first values) (steps_on c.args.here.now.time (encoded cs) (record s { stage = sync.Replay (first + length values) end })) refl
    (λ x b. replay-steps w s x b me c.args.here.now.time first end values there (omega (arith, c.if-after-get.false, c.get.ensures.value, c.get-2.ensures.value, c.len.ensures)))
    c.in_ok-go_on.field-0
    (c.in_ok-go_on.ensures ∙ (λ i. steps_on c.args.here.now.time (learned i) (record (c.in_ok-kept.ensures i) { stage = sync.Replay (after i) end }))))
