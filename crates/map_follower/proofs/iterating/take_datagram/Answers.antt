use Rattle.std.proofs.Common.{Some, inl, refl, sym, subst, ◌∙◌}
use Rattle.std.proofs.lemmas.Result.{err_from_is_err_and}
use Rattle.mon_frag.specs.Keeping.{taken as piece_taken}
use Rattle.mon_frag.specs.Whole.{answer_in, kept_in}
use Rattle.map_follower.specs.Iterations.{Does, course, goes_on, reply_in, with_reply}
use Rattle.map_follower.proofs.Leading.{does_reply, none_with, sent_with}
use Rattle.map_follower.proofs.iterating.take_datagram.Goals as goal

pub returns-in_err-reply-clause-does : goal.returns-in_err-reply-clause-does
returns-in_err-reply-clause-does g c asks link =
    let p = err_from_is_err_and c.from_residual.result c.from_residual.ensures.1 in
    let it = piece_taken c.args.assembly.now c.args.from.now c.args.datagram.now in
    let begun = course c.args.follower.now (kept_in c.args.assembly.now it) asks link (g.K.Sink.held c.args.sink.now) in
    let reply = reply_in c.args.monitors c.args.from.now (answer_in it) in
    rw (p.1, p.2) (inl refl, (sent_with begun reply, none_with begun reply))

pub returns-in-Some-clause-does : goal.returns-in-Some-clause-does
returns-in-Some-clause-does g c asks link =
    let it = piece_taken c.args.assembly.now c.args.from.now c.args.datagram.now in
    let begun = course c.args.follower.now (kept_in c.args.assembly.now it) asks link (g.K.Sink.held c.args.sink.now) in
    let t = c.take-done in
    let old = course c.args.follower.now c.args.assembly.now asks link (g.K.Sink.held c.args.sink.now) in
    let done = does_reply t.result c.args.assembly.now begun c.in-Some.reply t.new.follower (g.K.Sink.held t.new.sink) t.ensures.follower t.ensures.copy t.ensures.ok t.ensures.err in
    let is = sym c.in-Some.is ∙ c.in_ok-reply.ensures.reply in
    subst (λ r. Does t.result old (goes_on (with_reply begun r)) (course t.new.follower c.hear.new.assembly asks link (g.K.Sink.held t.new.sink))) is
    (subst (λ parts. Does t.result old (goes_on (with_reply begun (Some c.in-Some.reply))) (course t.new.follower parts asks link (g.K.Sink.held t.new.sink))) (sym c.in_ok-reply.ensures.kept) done)
