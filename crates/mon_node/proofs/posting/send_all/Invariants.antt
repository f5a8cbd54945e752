use Rattle.std.proofs.Common.{length}
use Rattle.mon_node.specs.Sends.{link_now}
use Rattle.mon_node.proofs.Sending.{AreSentSoFar}
use Rattle.mon_node.proofs.posting.send_all.Given as goal

abbrev pub invariant-loop-sent : goal.invariant-loop-sent
invariant-loop-sent g l = AreSentSoFar l.me l.kv l.fn.next l.fn.out (length l.yielded) l.next (link_now g.L.Link.state g.L.Link.history l.fn.link) (link_now g.L.Link.state g.L.Link.history l.link)
