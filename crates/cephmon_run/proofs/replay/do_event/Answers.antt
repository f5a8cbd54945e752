use Rattle.std.proofs.Common.{◌≡◌, ◌∙◌}
use Rattle.std.proofs.lemmas.Result.{err_from_is_err_and}
use Rattle.trace_text.specs.Trace.{step_lines}
use Rattle.mon_world.specs.Step.{step}
use Rattle.cephmon_run.proofs.Writing.{did_memory, did_stop, did_fault, did_write}
use Rattle.cephmon_run.proofs.replay.do_event.Goals as goal

pub returns-in_err-step-clause-writes : goal.returns-in_err-step-clause-writes
returns-in_err-step-clause-writes g c =
    let p = err_from_is_err_and c.from_residual.result c.from_residual.ensures.1 in
    λ ms s stands. rw (p.1, p.2) (did_stop ms c.in_err-step.field-0.0 c.step.new.self (g.K.Sink.held c.args.sink.now) c.args.number c.args.event.now (step ms s c.args.event.now) (c.in_err-step.ensures.does ms s stands))

pub returns-in_err-lines-clause-writes : goal.returns-in_err-lines-clause-writes
returns-in_err-lines-clause-writes g c =
    let p = err_from_is_err_and c.from_residual-in_err-lines.result c.from_residual-in_err-lines.ensures.1 in
    λ ms s stands. rw (p.1, p.2) (did_memory ms c.step.new.self (g.K.Sink.held c.args.sink.now) c.args.number c.args.event.now (step ms s c.args.event.now))

pub returns-in_err-write_all-clause-writes : goal.returns-in_err-write_all-clause-writes
returns-in_err-write_all-clause-writes g c =
    let p = err_from_is_err_and c.from_residual-in_err-write_all.result c.from_residual-in_err-write_all.ensures.1 in
    let lines : c.as_slice.result.now ≡ step_lines c.args.number c.args.event.now c.in_ok-step.step = c.as_slice.ensures.value ∙ c.in_ok-lines.ensures in
    λ ms s stands. rw (p.1, p.2) (did_fault ms c.in_err-write_all.field-0.0 c.in_ok-step.step c.step.new.self (g.K.Sink.held c.args.sink.now) (g.K.Sink.held c.write_all.new.sink)
    c.args.number c.args.event.now (step ms s c.args.event.now) c.as_slice.result.now lines (c.in_ok-step.ensures.does ms s stands) c.in_err-write_all.ensures.part)

pub returns-clause-writes : goal.returns-clause-writes
returns-clause-writes g c =
    let lines : c.as_slice.result.now ≡ step_lines c.args.number c.args.event.now c.in_ok-step.step = c.as_slice.ensures.value ∙ c.in_ok-lines.ensures in
    λ ms s stands. did_write ms c.in_ok-step.step c.step.new.self (g.K.Sink.held c.args.sink.now) (g.K.Sink.held c.write_all.new.sink)
    c.args.number c.args.event.now (step ms s c.args.event.now) c.as_slice.result.now lines (c.in_ok-step.ensures.does ms s stands) c.in_ok-write_all.ensures.whole
