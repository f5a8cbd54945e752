use Rattle.std.proofs.Common.{◌+◌, subst, Ok, Err}
use Rattle.std.proofs.lemmas.Result.{err_from_is_err_and}
use Rattle.mon_link.specs.Layers.{Grows}
use Rattle.mon_link.proofs.Layers.{grows_then}
use Rattle.mon_hello.specs.Greets.{SendsAll, round, to_other}
use Rattle.mon_hello.specs.Histories.{AreSent}
use Rattle.mon_hello.proofs.Following.{last_greeted, one_greeted}
use Rattle.mon_hello.proofs.InTurn.{round_then, round_ends}
use Rattle.mon_hello.proofs.sending.greet_all.Goals as goal

pub returns-in_err-greet_one-clause-sends : goal.returns-in_err-greet_one-clause-sends
returns-in_err-greet_one-clause-sends g c =
    let p = err_from_is_err_and c.from_residual.result c.from_residual.ensures.1 in
    rw (p.1, p.2)
    (round_ends c.args.member.rank c.loop-rank.rank c.args.member.monitors _ c.in_err-greet_one.field-0.0 _ _ _ c.loop-rank-test.true c.loop-rank.invariant.sends
    (subst (λ k. SendsAll (to_other c.args.member.rank k c.args.bytes.now) (Err c.in_err-greet_one.field-0.0) (g.L.Link.state c.loop-rank.link) (g.L.Link.state c.greet_one.new.link)) c.known.ensures c.in_err-greet_one.ensures.sends))

pub returns-in_err-greet_one-clause-grows : goal.returns-in_err-greet_one-clause-grows
returns-in_err-greet_one-clause-grows g c =
    let p = err_from_is_err_and c.from_residual.result c.from_residual.ensures.1 in
    let e = c.in_err-greet_one.field-0.0 in
    rw (p.1, p.2)
    (grows_then _ _ _ (AreSent (round c.args.member.rank c.loop-rank.rank c.args.bytes.now) (Ok tt)) (AreSent (to_other c.args.member.rank c.loop-rank.rank c.args.bytes.now) (Err e)) (AreSent (round c.args.member.rank c.args.member.monitors c.args.bytes.now) (Err e))
    (last_greeted c.args.member.rank c.loop-rank.rank c.args.member.monitors c.args.bytes.now e c.loop-rank-test.true) c.loop-rank.invariant.grows
    (subst (λ k. Grows (g.L.Link.history c.loop-rank.link) (AreSent (to_other c.args.member.rank k c.args.bytes.now) (Err e)) (g.L.Link.history c.greet_one.new.link)) c.known.ensures c.in_err-greet_one.ensures.grows))

pub loop-rank-preserved : goal.loop-rank-preserved
loop-rank-preserved g c = record {
  sends = round_then c.args.member.rank c.loop-rank.rank _ _ _ _ _ c.loop-rank.invariant.sends
      (subst (λ k. SendsAll (to_other c.args.member.rank k c.args.bytes.now) (Ok tt) (g.L.Link.state c.loop-rank.link) (g.L.Link.state c.greet_one.new.link)) c.known.ensures c.in_ok-greet_one.ensures.sends);
  grows = grows_then _ _ _ (AreSent (round c.args.member.rank c.loop-rank.rank c.args.bytes.now) (Ok tt)) (AreSent (to_other c.args.member.rank c.loop-rank.rank c.args.bytes.now) (Ok tt)) (AreSent (round c.args.member.rank (c.loop-rank.rank + 1) c.args.bytes.now) (Ok tt))
      (one_greeted c.args.member.rank c.loop-rank.rank c.args.bytes.now (Ok tt)) c.loop-rank.invariant.grows
      (subst (λ k. Grows (g.L.Link.history c.loop-rank.link) (AreSent (to_other c.args.member.rank k c.args.bytes.now) (Ok tt)) (g.L.Link.history c.greet_one.new.link)) c.known.ensures c.in_ok-greet_one.ensures.grows);
}
