use Rattle.std.proofs.Common.{◌≡◌, Ok, Err, Result, sym, ap, subst, ◌∙◌}
use Rattle.std.proofs.lemmas.Result.{err_from_is_err_and}
use Rattle.trace_text.specs.declared.step.StepLine.{StepLine}
use Rattle.mon_world.specs.declared.stop.WorldStop.{WorldStop}
use Rattle.mon_world.specs.Represented.{Does}
use Rattle.mon_world.specs.Step.{step, still_line}
use Rattle.mon_world.specs.Reporting.{faulty_event, outcome_of, stopped_as}
use Rattle.mon_world.proofs.Crashing.{stops_as, reported_as}
use Rattle.mon_world.proofs.world.World.run_with_fault.Goals as goal

pub returns-in_err-fault_outcome : goal.returns-in_err-fault_outcome
returns-in_err-fault_outcome c = λ ms d s.
    let e = err_from_is_err_and c.from_residual.result c.from_residual.ensures.1 in
    subst (λ (r : Result StepLine WorldStop). Does ms r c.inject.new.self (step ms d (faulty_event c.args.fault c.args.injected c.args.event.now))) (sym (e.1 ∙ ap Err e.2))
    (stops_as c.args.fault d c.args.injected ms c.args.event.now c.in_err-fault_outcome.field-0.0 (c.in_err-fault_outcome.ensures ms d s))

pub returns : goal.returns
returns c = λ ms d s.
    let line : c.still.result ≡ still_line (outcome_of (stopped_as c.args.fault) c.in_ok-fault_outcome.fault_outcome) = c.still.ensures ∙ ap still_line c.outcome.ensures in
    subst (λ (line : StepLine). Does ms (Ok line) c.inject.new.self (step ms d (faulty_event c.args.fault c.args.injected c.args.event.now))) (sym line)
    (reported_as c.args.fault d c.args.injected ms c.inject.new.self c.args.event.now c.in_ok-fault_outcome.fault_outcome (c.in_ok-fault_outcome.ensures ms d s))
