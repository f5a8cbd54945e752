use Rattle.std.proofs.lemmas.Result.{err_from_is_err_and}
use Rattle.mon_wire.specs.Message.Format.{no_memory, items}
use Rattle.mon_bytes.proofs.ItemsLoop.{goes_on, ends, is_done}
use Rattle.mon_decode.proofs.read_lists.read_items.Goals as goal

pub returns-in_err-item : goal.returns-in_err-item
returns-in_err-item g c =
    let p = err_from_is_err_and c.from_residual.result c.from_residual.ensures.1 in
    rw (p.1, p.2) (ends no_memory g.T.Listed.format.read c.in_err-item.field-0.0 c.loop.read c.args.count c.loop.counter c.loop.cursor (items g.T.Listed.format.read c.args.count c.args.cursor.now) c.loop-test.true c.in_err-item.ensures c.loop.invariant)

pub loop-preserved : goal.loop-preserved
loop-preserved g c =
    rw c.in_ok-push.ensures.ok
    (goes_on g.T.Listed.format.read c.loop.read c.args.count c.loop.counter c.loop.cursor c.read.new.cursor c.in_ok-item.item (items g.T.Listed.format.read c.args.count c.args.cursor.now) c.loop-test.true c.in_ok-item.ensures c.loop.invariant)

pub returns : goal.returns
returns g c = is_done g.T.Listed.format.read c.loop.read c.args.count c.loop.counter c.loop.cursor (items g.T.Listed.format.read c.args.count c.args.cursor.now) c.loop-test.false c.loop.invariant
