use Rattle.std.proofs.Common.{drop, map}
use Rattle.mon_node.specs.Posting.{to_peer}
use Rattle.mon_node.specs.Sends.{link_now}
use Rattle.mon_node.proofs.Sending.{IsSending}
use Rattle.mon_node.proofs.posting.send_each.Given as goal

abbrev pub invariant-loop-datagram : goal.invariant-loop-datagram
invariant-loop-datagram g l =
    IsSending (map (to_peer l.to) l.datagrams) (map (to_peer l.to) (drop l.datagram-index l.datagrams)) (link_now g.L.Link.state g.L.Link.history l.fn.link) (link_now g.L.Link.state g.L.Link.history l.link)
