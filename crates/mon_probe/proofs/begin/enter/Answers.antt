use Rattle.std.proofs.Common.{◌≡◌, ℕ, ◌+◌, ◌≤◌, ◌^◌, [], ◌∷◌, min, refl, sym, ap, ◌∙◌}
use Rattle.mon_msg.specs.Protocol.Changes.{Epoch, encoded}
use Rattle.mon_msg.specs.Protocol.Course.{prober_is}
use Rattle.mon_msg.specs.Protocol.Entering.{next_even}
use Rattle.mon_msg.specs.Protocol.Readings.{readings_of}
use Rattle.mon_msg.specs.Protocol.Sets.{only}
use Rattle.mon_msg.specs.declared.election.Prober.{Prober}
use Rattle.mon_msg.specs.declared.plan.Arming.TheVariants as arming
use Rattle.mon_msg.specs.declared.plan.Next.TheVariants as next
use Rattle.mon_msg.specs.declared.plan.Plan.{Plan}
use Rattle.mon_plan.specs.Plans.{entered, act}
use Rattle.mon_plan.proofs.Learning.{above}
use Rattle.mon_plan.proofs.Planning.{does}
use Rattle.mon_wire.specs.declared.phase.Timer.TheVariants as timer
use Rattle.mon_probe.specs.Rows.{IsBegun}
use Rattle.mon_probe.proofs.BeginLaws as laws
use Rattle.mon_probe.proofs.begin.enter.Goals as goal

pub returns-then-has_others-clause-plans : goal.returns-then-has_others-clause-plans
returns-then-has_others-clause-plans c =
    let me = c.args.me.now in
    let w = readings_of c.args.kv.now in
    let e = c.args.epoch in
    let is = c.in_ok-ask.ensures in
    does me c.args.now prober_is (IsBegun me w e) (entered next.Bootstrap) (act me c.args.now next.Bootstrap)
    [] tt (laws.probes me c.args.now e) (arming.Arm timer.Probe (min (c.args.now + 2000) (2 ^ 62)) ∷ []) (laws.alone me c.args.now) next.Stay
    (λ x b. laws.begin-asks me c.args.now w e x b (sym c.has_others.ensures ∙ c.if-has_others.true))
    c.in_ok-ask.field-0 (ap (λ (p : Plan Prober). p.tx) is) (ap (λ (p : Plan Prober). p.out) is) (ap (λ (p : Plan Prober). p.timers) is) (ap (λ (p : Plan Prober). p.state) is) (ap (λ (p : Plan Prober). p.next) is)

pub returns-then-not-may_lead-clause-plans : goal.returns-then-not-may_lead-clause-plans
returns-then-not-may_lead-clause-plans c =
    let me = c.args.me.now in
    let w = readings_of c.args.kv.now in
    let e = c.args.epoch in
    let is = c.stay.ensures in
    does me c.args.now prober_is (IsBegun me w e) (entered next.Bootstrap) (act me c.args.now next.Bootstrap)
    [] tt [] [] (laws.alone me c.args.now) next.Stay
    (λ x b. laws.begin-waits me c.args.now w e x b (sym c.has_others.ensures ∙ c.if-has_others.false) (sym c.may_lead.ensures ∙ c.if-not-may_lead.true))
    c.stay.result (ap (λ (p : Plan Prober). p.tx) is) (ap (λ (p : Plan Prober). p.out) is) (ap (λ (p : Plan Prober). p.timers) is) (ap (λ (p : Plan Prober). p.state) is ∙ c.alone.ensures) (ap (λ (p : Plan Prober). p.next) is)

pub returns-in_default-clause-plans : goal.returns-in_default-clause-plans
returns-in_default-clause-plans c =
    λ x b.
    laws.begin-spends c.args.me.now c.args.now (readings_of c.args.kv.now) c.args.epoch x b (sym c.has_others.ensures ∙ c.if-has_others.false) (sym c.may_lead.ensures ∙ c.if-not-may_lead.false)
    (above (next_even c.args.epoch) (2 ^ 62) c.in_default.ensures.valid.1)

pub returns-clause-plans : goal.returns-clause-plans
returns-clause-plans c =
    let me = c.args.me.now in
    let w = readings_of c.args.kv.now in
    let e = c.args.epoch in
    let is = c.in_ok-lead.ensures.plan in
    let even : c.in-Some.even ≡ next_even e = c.in-Some.ensures.value in
    let short : next_even e ≤ 2 ^ 62 = c.in-Some.ensures.valid.0 refl in
    does me c.args.now prober_is (IsBegun me w e) (entered next.Bootstrap) (act me c.args.now next.Bootstrap)
    (Epoch (next_even e) ∷ []) (short, tt) [] [] (laws.alone me c.args.now) (next.Win (only me.member.rank))
    (λ x b. laws.begin-leads me c.args.now w e x b (sym c.has_others.ensures ∙ c.if-has_others.false) (sym c.may_lead.ensures ∙ c.if-not-may_lead.false) short)
    c.in_ok-lead.field-0
    (ap (λ (p : Plan Prober). p.tx) is ∙ ap (λ (k : ℕ). encoded (Epoch k ∷ [])) even)
    (ap (λ (p : Plan Prober). p.out) is) (ap (λ (p : Plan Prober). p.timers) is) (ap (λ (p : Plan Prober). p.state) is) (ap (λ (p : Plan Prober). p.next) is)
