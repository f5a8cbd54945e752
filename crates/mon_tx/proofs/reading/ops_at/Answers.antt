use Rattle.std.proofs.lemmas.Result.{err_from_is_err_and}
use Rattle.mon_tx.specs.Decode.{ops_at}
use Rattle.mon_tx.proofs.Loop.{goes_on, ends, is_done}
use Rattle.mon_tx.proofs.reading.ops_at.Goals as goal

pub returns-in_err-op : goal.returns-in_err-op
returns-in_err-op c =
    let p = err_from_is_err_and c.from_residual.result c.from_residual.ensures.1 in
    rw (p.1, p.2) (ends c.in_err-op.field-0.0 c.loop.tx c.args.format c.args.count c.loop.counter c.loop.cursor (ops_at c.args.format c.args.count c.args.cursor.now) c.loop-test.true c.in_err-op.ensures.op c.loop.invariant)

pub loop-preserved : goal.loop-preserved
loop-preserved c =
    rw c.in_ok-push.ensures.ok (goes_on c.loop.tx c.args.format c.args.count c.loop.counter c.loop.cursor c.copied_at.new.cursor c.in_ok-op.op (ops_at c.args.format c.args.count c.args.cursor.now) c.loop-test.true c.in_ok-op.ensures.op c.loop.invariant)

pub returns : goal.returns
returns c = is_done c.loop.tx c.args.format c.args.count c.loop.counter c.loop.cursor (ops_at c.args.format c.args.count c.args.cursor.now) c.loop-test.false c.loop.invariant
