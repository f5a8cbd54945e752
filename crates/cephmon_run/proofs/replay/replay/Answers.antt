use Rattle.std.proofs.Common.{◌≡◌, ◌∙◌, subst}
use Rattle.std.proofs.lemmas.Result.{err_from_is_err_and}
use Rattle.std.specs.Io.KnownBytes.{Appends}
use Rattle.mon_link.specs.Whole.{AppendsPrefix}
use Rattle.quorum_model.specs.Scenes.{first_scene}
use Rattle.schedule_text.specs.Encoding.{ended_line, header}
use Rattle.cephmon_run.specs.Trace.{trace_from, trace}
use Rattle.cephmon_run.proofs.Schedules.{first_line}
use Rattle.cephmon_run.proofs.Writing.{front_first, writes_behind, writes_fault}
use Rattle.cephmon_run.proofs.replay.replay.Goals as goal

pub returns-in_err-write_all-clause-writes : goal.returns-in_err-write_all-clause-writes
returns-in_err-write_all-clause-writes g c =
    let p = err_from_is_err_and c.from_residual-in_err-write_all.result c.from_residual-in_err-write_all.ensures.1 in
    let old = g.K.Sink.held c.args.sink.now in
    let new = g.K.Sink.held c.write_all.new.sink in
    let s = c.args.schedule.now in
    λ ms count rule.
    let line : c.as_slice.result.now ≡ ended_line (header ms.count ms.rule) = c.as_slice.ensures.value ∙ c.in_ok-line.ensures ∙ first_line s ms count rule in
    let front = front_first old new (ended_line (header ms.count ms.rule)) (trace_from ms 0 first_scene s.events).text (subst (AppendsPrefix old new) line c.in_err-write_all.ensures.part) in
    rw (p.1, p.2) (writes_fault c.in_err-write_all.field-0.0 old new (trace ms s.events) front)

pub returns-clause-writes : goal.returns-clause-writes
returns-clause-writes g c =
    let old = g.K.Sink.held c.args.sink.now in
    let mid = g.K.Sink.held c.write_all.new.sink in
    let new = g.K.Sink.held c.do_events.new.sink in
    let s = c.args.schedule.now in
    λ ms count rule.
    let line : c.as_slice.result.now ≡ ended_line (header ms.count ms.rule) = c.as_slice.ensures.value ∙ c.in_ok-line.ensures ∙ first_line s ms count rule in
    writes_behind c.do_events.result old mid new (ended_line (header ms.count ms.rule)) (trace_from ms 0 first_scene s.events)
    (subst (Appends old mid) line c.in_ok-write_all.ensures.whole) (c.do_events.ensures.writes ms count rule)
