use Rattle.std.proofs.Common.{◌≡◌, suc, ◌+◌, None, Ok, Err, refl, ◌∙◌, subst, arith}
use Rattle.std.proofs.lemmas.Result.{err_from_is_err_and}
use Rattle.std.specs.Io.KnownBytes.{Appends}
use Rattle.mon_link.specs.Whole.{AppendsPrefix}
use Rattle.trace_text.specs.Trace.{end_text}
use Rattle.cephmon_run.specs.Replay.{fault_of, no_memory}
use Rattle.cephmon_run.proofs.Schedules.{all_fit, monitors_of}
use Rattle.cephmon_run.proofs.Writing.{begins, comes_on, ends, event_of, front_none, is_world, next_fits, none_of, stops_at, writes_fault}
use Rattle.cephmon_run.proofs.replay.do_events.Goals as goal

pub loop-event-init : goal.loop-event-init
loop-event-init g c = record {
  so_far = λ ms count rule. begins ms c.in_ok-world.world (g.K.Sink.held c.args.sink.now) c.args.schedule.now.events (c.in_ok-world.ensures ms count rule).stands (all_fit c.args.schedule.now ms c.requires count);
  number = refl;
  later = omega arith;
}

pub do_event-requires-clause-fits : goal.do_event-requires-clause-fits
do_event-requires-clause-fits g c =
    let l = c.loop-event in
    let s = c.args.schedule.now in
    let here = event_of s.events c.as_slice-event-items.result.now l.event-index c.event-item.result c.as_slice-event-items.ensures (omega (arith, c.loop-event-test.true)) c.event-item.is in
    next_fits (monitors_of s c.requires) l.world _ _ s.events l.event-index c.event-item.result here (l.invariant.so_far (monitors_of s c.requires) refl refl)

pub do_event-requires-clause-world : goal.do_event-requires-clause-world
do_event-requires-clause-world g c =
    let l = c.loop-event in
    let s = c.args.schedule.now in
    is_world (monitors_of s c.requires) l.world _ _ s.events l.event-index (l.invariant.so_far (monitors_of s c.requires) refl refl)

pub returns-in_err-do_event-clause-writes : goal.returns-in_err-do_event-clause-writes
returns-in_err-do_event-clause-writes g c =
    let l = c.loop-event in
    let es = c.args.schedule.now.events in
    let e = c.event-item.result in
    let p = err_from_is_err_and c.from_residual-in_err-do_event.result c.from_residual-in_err-do_event.ensures.1 in
    let number : l.number + 1 ≡ suc l.event-index = omega (arith, l.invariant.number) in
    let here = event_of es c.as_slice-event-items.result.now l.event-index e c.as_slice-event-items.ensures (omega (arith, c.loop-event-test.true)) c.event-item.is in
    λ ms count rule. rw (p.1, p.2) (stops_at ms c.in_err-do_event.field-0.0 l.world c.do_event.new.world (g.K.Sink.held c.args.sink.now) (g.K.Sink.held l.sink) (g.K.Sink.held c.do_event.new.sink)
    es l.event-index (l.number + 1) e number here (l.invariant.so_far ms count rule) (c.in_err-do_event.ensures.writes ms))

pub loop-event-preserved : goal.loop-event-preserved
loop-event-preserved g c =
    let l = c.loop-event in
    let es = c.args.schedule.now.events in
    let e = c.event-item.result in
    let number : l.number + 1 ≡ suc l.event-index = omega (arith, l.invariant.number) in
    let here = event_of es c.as_slice-event-items.result.now l.event-index e c.as_slice-event-items.ensures (omega (arith, c.loop-event-test.true)) c.event-item.is in
    record {
      so_far = λ ms count rule. comes_on ms l.world c.do_event.new.world (g.K.Sink.held c.args.sink.now) (g.K.Sink.held l.sink) (g.K.Sink.held c.do_event.new.sink)
          es l.event-index (l.number + 1) e number here (l.invariant.so_far ms count rule) (c.in_ok-do_event.ensures.writes ms);
      number = omega (arith, l.invariant.number);
      later = omega (arith, l.invariant.later, c.in_ok-do_event.ensures.later);
    }

pub returns-in_err-line-clause-writes : goal.returns-in_err-line-clause-writes
returns-in_err-line-clause-writes g c =
    let l = c.loop-event in
    let es = c.args.schedule.now.events in
    let p = err_from_is_err_and c.from_residual-in_err-line.result c.from_residual-in_err-line.ensures.1 in
    let none = none_of es c.as_slice-event-items.result.now l.event-index c.as_slice-event-items.ensures (omega (arith, c.loop-event-test.false)) in
    let here = g.K.Sink.held l.sink in
    λ ms count rule. rw (p.1, p.2) (ends ms (Err no_memory) l.world (g.K.Sink.held c.args.sink.now) here here es l.event-index none (l.invariant.so_far ms count rule) (front_none here (end_text l.event-index l.world.log)))

pub returns-in_err-write_all-clause-writes : goal.returns-in_err-write_all-clause-writes
returns-in_err-write_all-clause-writes g c =
    let l = c.loop-event in
    let es = c.args.schedule.now.events in
    let mid = g.K.Sink.held l.sink in
    let new = g.K.Sink.held c.write_all.new.sink in
    let p = err_from_is_err_and c.from_residual-in_err-write_all.result c.from_residual-in_err-write_all.ensures.1 in
    let none = none_of es c.as_slice-event-items.result.now l.event-index c.as_slice-event-items.ensures (omega (arith, c.loop-event-test.false)) in
    let line : c.as_slice.result.now ≡ end_text l.event-index l.world.log =
    c.as_slice.ensures.value ∙ c.in_ok-line.ensures ∙ (λ i. end_text (l.invariant.number i) (c.log_len.ensures i)) in
    let front = writes_fault c.in_err-write_all.field-0.0 mid new (record { text = end_text l.event-index l.world.log; stop = None }) (subst (AppendsPrefix mid new) line c.in_err-write_all.ensures.part) in
    λ ms count rule. rw (p.1, p.2) (ends ms (Err (fault_of c.in_err-write_all.field-0.0)) l.world (g.K.Sink.held c.args.sink.now) mid new es l.event-index none (l.invariant.so_far ms count rule) front)

pub returns-clause-writes : goal.returns-clause-writes
returns-clause-writes g c =
    let l = c.loop-event in
    let es = c.args.schedule.now.events in
    let mid = g.K.Sink.held l.sink in
    let new = g.K.Sink.held c.write_all.new.sink in
    let none = none_of es c.as_slice-event-items.result.now l.event-index c.as_slice-event-items.ensures (omega (arith, c.loop-event-test.false)) in
    let line : c.as_slice.result.now ≡ end_text l.event-index l.world.log =
    c.as_slice.ensures.value ∙ c.in_ok-line.ensures ∙ (λ i. end_text (l.invariant.number i) (c.log_len.ensures i)) in
    λ ms count rule. ends ms (Ok tt) l.world (g.K.Sink.held c.args.sink.now) mid new es l.event-index none (l.invariant.so_far ms count rule) (refl, subst (Appends mid new) line c.in_ok-write_all.ensures.whole)
