use Rattle.std.proofs.Common.{◌≤◌, ◌++◌, length, take, arith, length-append, length-take}
use Rattle.mon_link.proofs.Fronts.{consumed_more}
use Rattle.mon_link.proofs.whole.read_all.Goals as goal

pub returns-then-is_err-clause-part : goal.returns-then-is_err-clause-part
returns-then-is_err-clause-part g c =
    let first = c.loop-buffer.bytes.items in
    let piece = c.read.new.into in
    let next = take c.in_ok-count.count piece in
    let room = length-take c.min-room.result c.loop-buffer.buffer in
    let most : length (first ++ next) ≤ c.args.most =
    omega (arith, length-append first next, length-take c.in_ok-count.count piece, room, c.read.auto.into, c.loop-buffer.invariant.most, c.len-in-loop-buffer.ensures, c.min-room.ensures) in
    (first ++ next, consumed_more _ _ _ _ _ c.loop-buffer.invariant.taken c.in_ok-count.ensures.bytes.0, most)
