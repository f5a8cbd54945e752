use Rattle.election_rules.specs.Table.{full}
use Rattle.mon_wire.specs.Message.Scores.{score_at}
use Rattle.std.proofs.Common.{◌≡◌, refl, arith}
use Rattle.std.proofs.lemmas.Result.{err_from_is_err_and}
use Rattle.mon_wire.specs.Message.Format.{items}
use Rattle.mon_decode.proofs.PaddedLoop.{so_far_first, so_far_next, so_far_ends, so_far_done}
use Rattle.mon_decode.proofs.read_scores.read_row_scores.Goals as goal

pub loop-x-init : goal.loop-x-init
loop-x-init c = so_far_first score_at c.args.n full c.args.cursor.now _ refl

pub returns-in_err-score : goal.returns-in_err-score
returns-in_err-score c =
    let p = err_from_is_err_and c.from_residual.result c.from_residual.ensures.1 in
    rw (p.1, p.2) (so_far_ends score_at c.in_err-score.field-0.0 c.args.n c.loop-x.x full c.loop-x.cursor c.args.cursor.now c.loop-x.scores c.loop-x-test.true c.loop-x.invariant c.in_err-score.ensures)

pub loop-x-preserved : goal.loop-x-preserved
loop-x-preserved c =
    let at : c.from.result ≡ c.loop-x.x = omega arith in
    rw at (so_far_next score_at c.args.n c.loop-x.x full c.loop-x.cursor c.read_score.new.cursor c.in_ok-score.score c.loop-x.scores (items score_at c.args.n c.args.cursor.now) c.requires c.loop-x-test.true c.loop-x.invariant c.in_ok-score.ensures)

pub returns : goal.returns
returns c = so_far_done score_at c.args.n c.loop-x.x full c.loop-x.cursor c.args.cursor.now c.loop-x.scores c.loop-x-test.false c.loop-x.auto.x-end c.loop-x.invariant
