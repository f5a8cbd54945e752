use Rattle.std.proofs.Common.{arith}
use Rattle.std.proofs.lemmas.Result.{err_from_is_err_and}
use Rattle.mon_node.proofs.Sending.{each_next, each_stops, each_done}
use Rattle.mon_node.proofs.posting.send_each.Goals as goal

pub loop-datagram-preserved : goal.loop-datagram-preserved
loop-datagram-preserved g c =
    each_next c.args.to.now c.args.datagrams.now c.loop-datagram.datagram-index _ _ _ c.loop-datagram.invariant c.datagram-item.result _ (omega arith) c.datagram-item.is c.as_slice.ensures _ _ c.in_ok-send_one.ensures

pub returns-in_err-send_one : goal.returns-in_err-send_one
returns-in_err-send_one g c =
    let p = err_from_is_err_and c.from_residual.result c.from_residual.ensures.1 in
    rw (p.1, p.2) (each_stops c.args.to.now c.args.datagrams.now c.loop-datagram.datagram-index _ _ _ c.loop-datagram.invariant c.datagram-item.result _ (omega arith) c.datagram-item.is c.as_slice.ensures _ _ _ c.in_err-send_one.ensures)

pub returns : goal.returns
returns g c = each_done c.args.to.now c.args.datagrams.now c.loop-datagram.datagram-index _ _ _ c.loop-datagram.invariant _ (omega arith)
