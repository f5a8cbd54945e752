use Rattle.std.proofs.Common.{◌≡◌, ℕ, suc, ◌+◌, ◌≤◌, ◌^◌, [], ◌∷◌, min, sym, ap, ◌∙◌, arith}
use Rattle.mon_msg.specs.Protocol.Changes.{Epoch, encoded}
use Rattle.mon_msg.specs.Protocol.Course.{elector_is}
use Rattle.mon_msg.specs.declared.election.Elector.{Elector}
use Rattle.mon_msg.specs.declared.plan.Arming.TheVariants as arming
use Rattle.mon_msg.specs.declared.plan.Next.TheVariants as next
use Rattle.mon_msg.specs.declared.plan.Plan.{Plan}
use Rattle.mon_plan.specs.Plans.{entered, act}
use Rattle.mon_plan.proofs.Learning.{above}
use Rattle.mon_plan.proofs.Planning.{does}
use Rattle.mon_wire.specs.declared.phase.Timer.TheVariants as timer
use Rattle.mon_elector.specs.Rows.{IsCalled}
use Rattle.mon_elector.proofs.CallLaws as laws
use Rattle.mon_elector.proofs.calls.enter.Goals as goal

pub returns-then-not-is_even-clause-plans : goal.returns-then-not-is_even-clause-plans
returns-then-not-is_even-clause-plans c =
    let me = c.args.me.now in
    let s = c.args.state.now in
    let e = c.args.epoch in
    let is = c.in_ok-call.ensures in
    does me c.args.now elector_is (IsCalled e s) (entered next.Elect) (act me c.args.now next.Elect)
    [] tt (laws.asks me c.args.now e s) (arming.Arm timer.Election (min (c.args.now + 5000) (2 ^ 62)) ∷ []) (laws.stands me c.args.now s) next.Stay
    (λ x b. laws.call-odd me c.args.now e s x b (sym c.is_even.ensures ∙ c.if-not-is_even.true))
    c.in_ok-call.field-0 (ap (λ (p : Plan Elector). p.tx) is ∙ c.new.ensures) (ap (λ (p : Plan Elector). p.out) is) (ap (λ (p : Plan Elector). p.timers) is) (ap (λ (p : Plan Elector). p.state) is) (ap (λ (p : Plan Elector). p.next) is)

pub returns-in_default-clause-plans : goal.returns-in_default-clause-plans
returns-in_default-clause-plans c =
    λ x b. laws.call-spent c.args.me.now c.args.now c.args.epoch c.args.state.now x b (sym c.is_even.ensures ∙ c.if-not-is_even.false) (above (suc c.args.epoch) (2 ^ 62) c.in_default.ensures.valid.1)

pub returns-clause-plans : goal.returns-clause-plans
returns-clause-plans c =
    let me = c.args.me.now in
    let s = c.args.state.now in
    let e = c.args.epoch in
    let is = c.in_ok-call-2.ensures in
    let odd : c.in-Some.odd ≡ suc e = omega (arith, c.in-Some.ensures.value) in
    let short : suc e ≤ 2 ^ 62 = omega (arith, odd, c.in_ok-to_epoch.ensures.fit) in
    does me c.args.now elector_is (IsCalled e s) (entered next.Elect) (act me c.args.now next.Elect)
    (Epoch (suc e) ∷ []) (short, tt) (laws.asks me c.args.now (suc e) s) (arming.Arm timer.Election (min (c.args.now + 5000) (2 ^ 62)) ∷ []) (laws.stands me c.args.now s) next.Stay
    (λ x b. laws.call-even me c.args.now e s x b (sym c.is_even.ensures ∙ c.if-not-is_even.false) short)
    c.in_ok-call-2.field-0
    (ap (λ (p : Plan Elector). p.tx) is ∙ c.in_ok-to_epoch.ensures.changes ∙ ap (λ (k : ℕ). encoded (Epoch k ∷ [])) odd)
    (ap (λ (p : Plan Elector). p.out) is ∙ ap (λ (k : ℕ). laws.asks me c.args.now k s) odd)
    (ap (λ (p : Plan Elector). p.timers) is) (ap (λ (p : Plan Elector). p.state) is) (ap (λ (p : Plan Elector). p.next) is)
