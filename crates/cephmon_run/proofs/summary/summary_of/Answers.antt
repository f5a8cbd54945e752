use Rattle.std.proofs.Common.{◌≡◌, length, refl, ap, sym, subst, ◌∙◌, arith}
use Rattle.std.proofs.lemmas.Result.{err_from_is_err_and}
use Rattle.cephmon_run.specs.declared.summary.Counts.{Counts}
use Rattle.cephmon_run.specs.Summary.{last_versions, line_text}
use Rattle.cephmon_run.proofs.Counting.{Counted, counts_all, counts_more, counts_none, counts_stopped, is_world, next_fits}
use Rattle.cephmon_run.proofs.Schedules.{all_fit, monitors_of}
use Rattle.cephmon_run.proofs.Writing.{event_of, none_of}
use Rattle.cephmon_run.proofs.summary.summary_of.Goals as goal

pub loop-event-init : goal.loop-event-init
loop-event-init c = λ ms count rule.
    subst (λ (k : Counts). Counted ms c.in_ok-world.world k c.args.schedule.now.events 0) (sym c.of_none-counts.ensures)
    (counts_none ms c.in_ok-world.world c.args.schedule.now.events (c.in_ok-world.ensures ms count rule).stands (all_fit c.args.schedule.now ms c.requires count))

pub step-requires-clause-world : goal.step-requires-clause-world
step-requires-clause-world c =
    let l = c.loop-event in
    let s = c.args.schedule.now in
    is_world (monitors_of s c.requires) l.world l.counts s.events l.event-index (l.invariant (monitors_of s c.requires) refl refl)

pub step-requires-clause-fits : goal.step-requires-clause-fits
step-requires-clause-fits c =
    let l = c.loop-event in
    let s = c.args.schedule.now in
    let here = event_of s.events c.as_slice-event-items.result.now l.event-index c.event-item.result c.as_slice-event-items.ensures (omega (arith, c.loop-event-test.true)) c.event-item.is in
    next_fits (monitors_of s c.requires) l.world l.counts s.events l.event-index c.event-item.result here (l.invariant (monitors_of s c.requires) refl refl)

pub returns-in_err-step-clause-stops : goal.returns-in_err-step-clause-stops
returns-in_err-step-clause-stops c =
    let l = c.loop-event in
    let es = c.args.schedule.now.events in
    let e = c.event-item.result in
    let p = err_from_is_err_and c.from_residual-in_err-step.result c.from_residual-in_err-step.ensures.1 in
    let here = event_of es c.as_slice-event-items.result.now l.event-index e c.as_slice-event-items.ensures (omega (arith, c.loop-event-test.true)) c.event-item.is in
    λ ms count rule. rw (p.1, p.2) (counts_stopped ms c.in_err-step.field-0.0 l.world c.step.new.self l.counts es l.event-index e here (l.invariant ms count rule) (c.in_err-step.ensures.does ms))

pub loop-event-preserved : goal.loop-event-preserved
loop-event-preserved c =
    let l = c.loop-event in
    let es = c.args.schedule.now.events in
    let e = c.event-item.result in
    let here = event_of es c.as_slice-event-items.result.now l.event-index e c.as_slice-event-items.ensures (omega (arith, c.loop-event-test.true)) c.event-item.is in
    λ ms count rule. counts_more ms l.world c.step.new.self l.counts c.in_ok-counts.counts c.in_ok-step.field-0 es l.event-index e here (l.invariant ms count rule)
    (c.in_ok-step.ensures.does ms) c.in_ok-counts.ensures

pub last_versions-requires-clause-there : goal.last_versions-requires-clause-there
last_versions-requires-clause-there c =
    let s = c.args.schedule.now in
    let counted = c.loop-event.invariant (monitors_of s c.requires) refl refl in
    omega (arith, counted.stands.count)

pub returns-clause-line : goal.returns-clause-line
returns-clause-line c =
    let l = c.loop-event in
    let s = c.args.schedule.now in
    let line = c.in_ok-line_of.field-0.items in
    let none = none_of s.events c.as_slice-event-items.result.now l.event-index c.as_slice-event-items.ensures (omega (arith, c.loop-event-test.false)) in
    let events : length c.as_slice.result.now ≡ length s.events = ap length c.as_slice.ensures in
    λ ms count rule. counts_all ms l.world l.counts s.events l.event-index line none (l.invariant ms count rule) (λ k stands.
    let log : c.log_len.result ≡ length k.world.log = c.log_len.ensures ∙ stands.log in
    c.in_ok-line_of.ensures (last_versions k s.monitors) (c.in_ok-last.ensures ms k stands)
    ∙ (λ i. line_text (events i) (last_versions k (sym count i)) (log i) l.counts))
