use Rattle.std.proofs.Common.{◌∙◌, arith}
use Rattle.std.proofs.lemmas.Result.{err_from_is_err_and}
use Rattle.map_follower.proofs.Stepped.{goes_on, next_of, stops}
use Rattle.map_follower.proofs.stepping.applied_from.Goals as goal

pub returns-in_err-step : goal.returns-in_err-step
returns-in_err-step c =
    let l = c.loop-bytes in
    let there = next_of c.args.updates.now l.bytes-index c.bytes-item.result c.as_slice.result.now (omega (arith, c.loop-bytes-test.true)) c.bytes-item.is c.as_slice.ensures in
    let p = err_from_is_err_and c.from_residual-in_err-step.result c.from_residual-in_err-step.ensures.1 in
    rw (p.1, p.2) (stops c.args.updates.now l.bytes-index l.place l.next c.as_slice.result.now there c.in_err-step.field-0.0 c.step.new.map c.in_err-step.ensures _ l.invariant.so_far)

pub loop-bytes-preserved : goal.loop-bytes-preserved
loop-bytes-preserved c =
    let l = c.loop-bytes in
    let there = next_of c.args.updates.now l.bytes-index c.bytes-item.result c.as_slice.result.now (omega (arith, c.loop-bytes-test.true)) c.bytes-item.is c.as_slice.ensures in
    record {
      so_far = goes_on c.args.updates.now l.bytes-index l.place l.next c.as_slice.result.now there c.step.new.map c.in_ok-step.ensures ∙ l.invariant.so_far;
      counted = omega (arith, l.invariant.counted);
    }
