use Rattle.election_rules.specs.Table.{start_row}
use Rattle.mon_wire.specs.Message.Scores.{row}
use Rattle.std.proofs.Common.{◌≡◌, ap, replicate, arith}
use Rattle.std.proofs.lemmas.Result.{err_from_is_err_and}
use Rattle.mon_wire.specs.Message.Format.{items}
use Rattle.mon_decode.proofs.PaddedLoop.{so_far_first, so_far_next, so_far_ends, so_far_done}
use Rattle.mon_decode.proofs.read_scores.read_rows.Goals as goal

pub loop-y-init : goal.loop-y-init
loop-y-init c = so_far_first (row c.args.n).read c.args.n (start_row 0) c.args.cursor.now _ (ap (λ r. replicate 15 r) c.start-rows.ensures)

pub returns-in_err-row : goal.returns-in_err-row
returns-in_err-row c =
    let p = err_from_is_err_and c.from_residual.result c.from_residual.ensures.1 in
    rw (p.1, p.2) (so_far_ends (row c.args.n).read c.in_err-row.field-0.0 c.args.n c.loop-y.y (start_row 0) c.loop-y.cursor c.args.cursor.now c.loop-y.rows c.loop-y-test.true c.loop-y.invariant c.in_err-row.ensures)

pub loop-y-preserved : goal.loop-y-preserved
loop-y-preserved c =
    let at : c.from.result ≡ c.loop-y.y = omega arith in
    rw at (so_far_next (row c.args.n).read c.args.n c.loop-y.y (start_row 0) c.loop-y.cursor c.read_row.new.cursor c.in_ok-row.row c.loop-y.rows (items (row c.args.n).read c.args.n c.args.cursor.now) c.requires c.loop-y-test.true c.loop-y.invariant c.in_ok-row.ensures)

pub returns : goal.returns
returns c = so_far_done (row c.args.n).read c.args.n c.loop-y.y (start_row 0) c.loop-y.cursor c.args.cursor.now c.loop-y.rows c.loop-y-test.false c.loop-y.auto.y-end c.loop-y.invariant
