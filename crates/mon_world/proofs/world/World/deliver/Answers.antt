use Rattle.std.proofs.Common.{Option, Ok, Err, Result, sym, ap, subst, refl, ◌∙◌}
use Rattle.std.proofs.lemmas.Result.{err_from_is_err_and}
use Rattle.schedule_text.specs.declared.event.Event.TheVariants as events
use Rattle.trace_text.specs.declared.step.StepLine.{StepLine}
use Rattle.mon_world.specs.declared.meeting.Handled.{Handled}
use Rattle.mon_world.specs.declared.stop.WorldStop.{WorldStop}
use Rattle.mon_world.specs.Represented.{Does, arrival_of}
use Rattle.mon_world.specs.Step.{step}
use Rattle.mon_world.proofs.Arriving.{reaches, standing_at}
use Rattle.mon_world.proofs.Stepping.{MeetsAt, met_down, met_short, met_stop, met_handled}
use Rattle.mon_world.proofs.Passing.{down_passes, handled_passes}
use Rattle.mon_world.proofs.world.World.deliver.Goals as goal

pub meet_at-requires-clause-stands : goal.meet_at-requires-clause-stands
meet_at-requires-clause-stands c =
    let w = c.requires.world in
    standing_at w.0 c.args.self.now w.1 c.args.arrival.now.rank w.2 c.requires.within

pub returns-in_err-handled-clause-does : goal.returns-in_err-handled-clause-does
returns-in_err-handled-clause-does c = λ ms d p s comes.
    let a = arrival_of c.args.arrival.now in
    let old = c.args.self.now in
    let mid = record old { monitors = c.meet_at.new.monitors } in
    let e = err_from_is_err_and c.from_residual.result c.from_residual.ensures.1 in
    subst (λ (r : Result StepLine WorldStop). Does ms r mid (step ms d (events.Plain p))) (sym (e.1 ∙ ap Err e.2))
    (met_stop ms old mid d p a s (reaches ms old d a s c.requires.within) comes c.in_err-handled.ensures.count c.in_err-handled.field-0.0 c.in_err-handled.ensures.meets)

pub returns-in_default-clause-does : goal.returns-in_default-clause-does
returns-in_default-clause-does c = λ ms d p s comes.
    let a = arrival_of c.args.arrival.now in
    let old = c.args.self.now in
    let mid = record old { monitors = c.meet_at.new.monitors } in
    let met = subst (λ (o : Option Handled). MeetsAt old.monitors.items mid.monitors.items a (Ok o)) c.in_default.is c.in_ok-handled.ensures.meets in
    subst (λ (line : StepLine). Does ms (Ok line) mid (step ms d (events.Plain p))) (sym c.still.ensures)
    (met_down ms old mid d p a s (reaches ms old d a s c.requires.within) comes c.in_ok-handled.ensures.count c.in_ok-handled.ensures.others refl refl met)

pub report-requires : goal.report-requires
report-requires c =
    let w = c.requires.world in
    let a = arrival_of c.args.arrival.now in
    let old = c.args.self.now in
    let mid = record old { monitors = c.meet_at.new.monitors } in
    let met = subst (λ (o : Option Handled). MeetsAt old.monitors.items mid.monitors.items a (Ok o)) c.in-Some.is c.in_ok-handled.ensures.meets in
    met_short w.0 old mid w.1 a (reaches w.0 old w.1 a w.2 c.requires.within) c.in_ok-handled.ensures.count c.in-Some.handled met

pub returns-clause-does : goal.returns-clause-does
returns-clause-does c = λ ms d p s comes.
    let a = arrival_of c.args.arrival.now in
    let old = c.args.self.now in
    let mid = record old { monitors = c.meet_at.new.monitors } in
    let met = subst (λ (o : Option Handled). MeetsAt old.monitors.items mid.monitors.items a (Ok o)) c.in-Some.is c.in_ok-handled.ensures.meets in
    met_handled ms old mid d p a s (reaches ms old d a s c.requires.within) comes c.in_ok-handled.ensures.count c.in_ok-handled.ensures.others refl refl c.report.new.self c.in-Some.handled c.in_ok-report.field-0 met
    c.in_ok-report.ensures

pub returns-in_default-clause-any_time : goal.returns-in_default-clause-any_time
returns-in_default-clause-any_time c = λ ms d next s t.
    let old = c.args.self.now in
    let mid = record old { monitors = c.meet_at.new.monitors } in
    let e = c.in_ok-handled.ensures in
    down_passes ms old mid d next s t mid.monitors.items refl c.args.arrival.now.rank c.args.arrival.now.at c.args.arrival.now.input _ e.others e.meets e.passes (ap Ok c.in_default.is)

pub returns-clause-any_time : goal.returns-clause-any_time
returns-clause-any_time c = λ ms d next s t.
    let old = c.args.self.now in
    let mid = record old { monitors = c.meet_at.new.monitors } in
    let e = c.in_ok-handled.ensures in
    handled_passes ms old c.report.new.self d next s t mid.monitors.items c.in_ok-report.ensures.monitors c.args.arrival.now.rank c.args.arrival.now.at c.args.arrival.now.input _ e.others e.meets e.passes c.in-Some.handled (ap Ok c.in-Some.is)
