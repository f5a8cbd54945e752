use Rattle.std.proofs.Common.{◌∙◌}
use Rattle.std.proofs.lemmas.Result.{err_from_is_err_and}
use Rattle.mon_bytes.specs.Format.{items}
use Rattle.mon_bytes.specs.Forms.{no_memory}
use Rattle.mon_bytes.proofs.ItemsLoop.{goes_on, ends, is_done}
use Rattle.map_log.specs.Decode.{inc_at}
use Rattle.map_log.proofs.Laws.{entries_are_items}
use Rattle.map_log.proofs.reading.entries_at.Goals as goal

pub returns-in_err-inc : goal.returns-in_err-inc
returns-in_err-inc c =
    let p = err_from_is_err_and c.from_residual.result c.from_residual.ensures.1 in
    let all = items inc_at c.args.count c.args.cursor.now in
    rw (p.1, p.2, entries_are_items c.args.count c.args.cursor.now)
    (ends no_memory inc_at c.in_err-inc.field-0.0 c.loop.map c.args.count c.loop.counter c.loop.cursor all c.loop-test.true c.in_err-inc.ensures.value c.loop.invariant)

pub loop-preserved : goal.loop-preserved
loop-preserved c =
    let all = items inc_at c.args.count c.args.cursor.now in
    rw c.in_ok-push.ensures.ok (goes_on inc_at c.loop.map c.args.count c.loop.counter c.loop.cursor c.read.new.cursor c.in_ok-inc.inc all c.loop-test.true c.in_ok-inc.ensures.value c.loop.invariant)

pub returns : goal.returns
returns c =
    let all = items inc_at c.args.count c.args.cursor.now in
    entries_are_items c.args.count c.args.cursor.now ∙ is_done inc_at c.loop.map c.args.count c.loop.counter c.loop.cursor all c.loop-test.false c.loop.invariant
