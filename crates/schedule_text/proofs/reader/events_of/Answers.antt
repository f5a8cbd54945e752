use Rattle.std.proofs.Common.{◌≡◌, None, arith, rules, sym, ap, ◌∙◌}
use Rattle.std.specs.Option.{option_copied}
use Rattle.std.proofs.lemmas.Result.{err_from_is_err_and}
use Rattle.schedule_text.specs.Fields.{cut}
use Rattle.schedule_text.specs.Schedule.{lines_of, events_at}
use Rattle.schedule_text.proofs.ScheduleLoop.{goes_on, ends, is_done, is_cut}
use Rattle.schedule_text.proofs.reader.events_of.Goals as goal

pub returns-in_err-event : goal.returns-in_err-event
returns-in_err-event c =
    let p = err_from_is_err_and c.from_residual-in_err-event.result c.from_residual-in_err-event.ensures.1 in
    let total = events_at c.args.monitors 0 (lines_of c.args.body.now).0 (lines_of c.args.body.now).1 in
    rw (p.1, p.2) (ends c.in_err-event.field-0.0 c.loop-after.events c.args.monitors c.loop-after.count c.loop-after.rest.now c.cut.result.0.now c.in-Some.after.now total
    (sym c.cut.ensures.first) (sym c.cut.ensures.rest ∙ ap option_copied c.in-Some.is) c.in_err-event.ensures.value c.loop-after.invariant.so_far)

pub loop-after-preserved : goal.loop-after-preserved
loop-after-preserved c =
    let total = events_at c.args.monitors 0 (lines_of c.args.body.now).0 (lines_of c.args.body.now).1 in
    let next = goes_on c.loop-after.events c.args.monitors c.loop-after.count c.loop-after.rest.now c.cut.result.0.now c.in-Some.after.now c.in_ok-event.event total
    (sym c.cut.ensures.first) (sym c.cut.ensures.rest ∙ ap option_copied c.in-Some.is) c.in_ok-event.ensures.value c.loop-after.invariant.so_far in
    record { so_far = rw c.in_ok-push.ensures.ok next; count = omega (arith, c.in_ok-event.ensures.count) }

pub returns-then-is_empty : goal.returns-then-is_empty
returns-then-is_empty c =
    let total = events_at c.args.monitors 0 (lines_of c.args.body.now).0 (lines_of c.args.body.now).1 in
    let none : (cut 10 c.loop-after.rest.now).1 ≡ None = sym c.cut.ensures.rest ∙ ap option_copied c.in_default.is in
    is_done c.loop-after.events c.args.monitors c.loop-after.count c.loop-after.rest.now total none (search rules) c.loop-after.invariant.so_far

pub returns-else-is_empty : goal.returns-else-is_empty
returns-else-is_empty c =
    let total = events_at c.args.monitors 0 (lines_of c.args.body.now).0 (lines_of c.args.body.now).1 in
    let none : (cut 10 c.loop-after.rest.now).1 ≡ None = sym c.cut.ensures.rest ∙ ap option_copied c.in_default.is in
    let last = is_cut c.loop-after.events c.args.monitors c.loop-after.count c.loop-after.rest.now total none (search rules) c.loop-after.invariant.so_far in
    rw c.at.ensures last
