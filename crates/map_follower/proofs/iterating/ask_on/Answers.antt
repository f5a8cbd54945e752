use Rattle.std.proofs.Common.{inl, refl, sym, subst}
use Rattle.std.proofs.lemmas.Result.{err_from_is_err_and}
use Rattle.map_follower.specs.Iterations.{SentPrefix, asked, course}
use Rattle.map_follower.proofs.Leading.{not_asked, not_sent, same_written, was_asked}
use Rattle.map_follower.proofs.iterating.ask_on.Goals as goal

pub returns-in_err-ask-clause-talks : goal.returns-in_err-ask-clause-talks
returns-in_err-ask-clause-talks g c parts written =
    let p = err_from_is_err_and c.from_residual.result c.from_residual.ensures.1 in
    rw (p.1, p.2) (not_asked c.args.monitors (course c.args.follower.now parts c.args.asks.now (g.L.Link.state c.args.link.now).observed written) _ _ c.in_err-ask.ensures.talks)

pub returns-clause-talks : goal.returns-clause-talks
returns-clause-talks g c parts written =
    was_asked c.args.monitors (course c.args.follower.now parts c.args.asks.now (g.L.Link.state c.args.link.now).observed written) _ _ c.in_ok-ask.ensures.talks

pub returns-in_err-ask-clause-does : goal.returns-in_err-ask-clause-does
returns-in_err-ask-clause-does g c parts written =
    let observed = (g.L.Link.state c.args.link.now).observed in
    let p = err_from_is_err_and c.from_residual.result c.from_residual.ensures.1 in
    rw (p.1, p.2) (inl refl, (subst (SentPrefix observed (asked c.args.monitors (course c.args.follower.now parts c.args.asks.now observed written)).link) (sym c.in_err-ask.ensures.err) (not_sent _ _ observed), same_written written))
