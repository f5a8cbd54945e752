use Rattle.std.proofs.Common.{Some, sym, ap, ◌∙◌}
use Rattle.std.proofs.lemmas.Option.{none-some, same_Some}
use Rattle.std.proofs.lemmas.Result.{err_from_is_err_and}
use Rattle.mon_world.specs.Step.{reported}
use Rattle.mon_world.proofs.meeting.handle_input.Goals as goal

pub returns-in_err-reaction-clause-handles : goal.returns-in_err-reaction-clause-handles
returns-in_err-reaction-clause-handles c = λ me m s f h.
    let p = err_from_is_err_and c.from_residual.result c.from_residual.ensures.1 in
    rw (p.1, p.2) (c.in_err-reaction.ensures.stands me m s f h)

pub is_marked-marked-requires : goal.is_marked-marked-requires
is_marked-marked-requires c =
    let up = c.requires.up in
    let after = c.in_ok-reaction.ensures.stands up.0 up.1 up.2 up.3 up.4 in
    (up.0, _, after.0, _, after.2)

pub state-requires : goal.state-requires
state-requires c =
    let up = c.requires.up in
    let after = c.in_ok-reaction.ensures.stands up.0 up.1 up.2 up.3 up.4 in
    (up.0, _, Some after.0, _, after.2)

pub unreachable-requires : goal.unreachable-requires
unreachable-requires c =
    let up = c.requires.up in
    let after = c.in_ok-reaction.ensures.stands up.0 up.1 up.2 up.3 up.4 in
    none-some _ (sym c.in_default.is ∙ c.state.ensures up.0 _ (Some after.0) _ after.2)

pub returns-clause-handles : goal.returns-clause-handles
returns-clause-handles c = λ me m s f h.
    let after = c.in_ok-reaction.ensures.stands me m s f h in
    record {
      state = after.0;
      is_done = after.1;
      stands = after.2;
      reported_is = c.reported.ensures ∙ ap (reported c.args.before) (same_Some _ _ (sym c.in-Some.is ∙ c.state.ensures me _ (Some after.0) _ after.2));
      last = c.last-last.ensures me _ (Some after.0) _ after.2;
      marked = c.is_marked-marked.ensures me _ after.0 _ after.2;
    }

pub returns-clause-passes : goal.returns-clause-passes
returns-clause-passes c = λ me m s f h. c.in_ok-reaction.ensures.passes me m s f h
