use Rattle.std.proofs.Common.{Ok}
use Rattle.mon_link.specs.Layers.{Grows}
use Rattle.mon_hello.specs.Greets.{SendsAll, round}
use Rattle.mon_hello.specs.Histories.{AreSent}
use Rattle.mon_hello.proofs.sending.greet_all.Given as goal

abbrev pub invariant-loop-rank : goal.invariant-loop-rank
invariant-loop-rank g l = record {
  sends : SendsAll (round l.fn.member.rank l.rank l.fn.bytes) (Ok tt) (g.L.Link.state l.fn.link) (g.L.Link.state l.link);
  grows : Grows (g.L.Link.history l.fn.link) (AreSent (round l.fn.member.rank l.rank l.fn.bytes) (Ok tt)) (g.L.Link.history l.link);
}
