use Rattle.std.proofs.Common.{length, sym, ap, ◌∙◌}
use Rattle.std.specs.Option.{option_copied}
use Rattle.std.proofs.lemmas.Result.{err_from_is_err_and}
use Rattle.schedule_text.proofs.ScheduleLoop.{empty_whole, no_first_line, whole_first, first_fails, rest_fails, all_read, same_fails, is_none, is_some_length}
use Rattle.schedule_text.proofs.reader.whole.Goals as goal

pub returns-then-is_empty : goal.returns-then-is_empty
returns-then-is_empty c =
    rw c.at.ensures (empty_whole c.args.bytes.now (is_none (length c.args.bytes.now) (sym c.is_empty.ensures ∙ c.if-is_empty.true)))

pub returns-in_default : goal.returns-in_default
returns-in_default c =
    let some = is_some_length (length c.args.bytes.now) (sym c.is_empty.ensures ∙ c.if-is_empty.false) in
    rw c.at-in_default.ensures (no_first_line c.args.bytes.now some (sym c.cut.ensures.rest ∙ ap option_copied c.in_default.is))

pub returns-in_err-monitors : goal.returns-in_err-monitors
returns-in_err-monitors c =
    let p = err_from_is_err_and c.from_residual.result c.from_residual.ensures.1 in
    let first = c.cut.result.0.now in
    let body = c.in-Some.body.now in
    let whole = whole_first c.args.bytes.now first body (sym c.cut.ensures.first) (sym c.cut.ensures.rest ∙ ap option_copied c.in-Some.is) in
    rw (p.1, p.2) (same_fails c.in_err-monitors.field-0.0 _ _ whole (first_fails c.in_err-monitors.field-0.0 first body c.in_err-monitors.ensures.value))

pub returns-in_err-events : goal.returns-in_err-events
returns-in_err-events c =
    let p = err_from_is_err_and c.from_residual-in_err-events.result c.from_residual-in_err-events.ensures.1 in
    let first = c.cut.result.0.now in
    let body = c.in-Some.body.now in
    let whole = whole_first c.args.bytes.now first body (sym c.cut.ensures.first) (sym c.cut.ensures.rest ∙ ap option_copied c.in-Some.is) in
    rw (p.1, p.2) (same_fails c.in_err-events.field-0.0 _ _ whole
    (rest_fails c.in_err-events.field-0.0 first body (c.in_ok-monitors.monitors, c.in_ok-monitors.rule) c.in_ok-monitors.ensures.value c.in_err-events.ensures))

pub returns : goal.returns
returns c =
    let first = c.cut.result.0.now in
    let body = c.in-Some.body.now in
    let whole = whole_first c.args.bytes.now first body (sym c.cut.ensures.first) (sym c.cut.ensures.rest ∙ ap option_copied c.in-Some.is) in
    whole ∙ all_read first body (c.in_ok-monitors.monitors, c.in_ok-monitors.rule) c.in_ok-events.events c.in_ok-monitors.ensures.value c.in_ok-events.ensures
