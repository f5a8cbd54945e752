use Rattle.std.proofs.Common.{◌≡◌, Bool, ◌||◌, sym, ap, ◌∙◌}
use Rattle.std.proofs.lemmas.Result.{err_from_is_err_and}
use Rattle.mon_tx.specs.EncodedOp.{ranges_at}
use Rattle.mon_tx.proofs.Over.{goes_over, stops, is_over}
use Rattle.mon_tx.proofs.scan.ranges_at.Goals.{then-found, else-found}
use Rattle.mon_tx.proofs.scan.ranges_at.Goals as goal

pub returns-in_err-range : goal.returns-in_err-range
returns-in_err-range c =
    let p = err_from_is_err_and c.from_residual.result c.from_residual.ensures.1 in
    rw (p.1, p.2) (stops c.loop.found c.args.format c.args.count c.loop.counter c.loop.cursor (ranges_at c.args.format c.args.count c.args.cursor.now) c.in_err-range.field-0.0 c.loop-test.true c.in_err-range.ensures c.loop.invariant)

pub loop-preserved : goal.loop-preserved
loop-preserved c =
    let over = goes_over c.loop.found c.in_ok-range.range c.args.format c.args.count c.loop.counter c.loop.cursor c.range_at.new.cursor (ranges_at c.args.format c.args.count c.args.cursor.now) c.loop-test.true c.in_ok-range.ensures c.loop.invariant in
    let either : c.if-found.found ≡ (c.loop.found || c.in_ok-range.range) =
    elim c.if-found.branch [
      | then-found w ↦ w.found-is ∙ w.if-found.true ∙ sym (ap (λ (b : Bool). b || c.in_ok-range.range) w.if-found.true)
      | else-found w ↦ w.found-is ∙ sym (ap (λ (b : Bool). b || c.in_ok-range.range) w.if-found.false)
    ] in
    rw either over

pub returns : goal.returns
returns c = is_over c.loop.found c.args.format c.args.count c.loop.counter c.loop.cursor (ranges_at c.args.format c.args.count c.args.cursor.now) c.loop-test.false c.loop.invariant
