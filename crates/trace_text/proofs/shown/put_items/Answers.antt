use Rattle.std.proofs.Common.{◌+◌, drop}
use Rattle.trace_text.specs.Shown.{item_events, items_events}
use Rattle.trace_text.proofs.Printed.{all_done, begun, next_item, no_item, one_done}
use Rattle.trace_text.proofs.shown.put_items.Goals as goal

pub loop-inc-init : goal.loop-inc-init
loop-inc-init g c = begun _ _

pub loop-inc-preserved : goal.loop-inc-preserved
loop-inc-preserved g c =
    let incs = c.args.incs.now in
    let n = c.loop-inc.inc-index in
    let inc = c.inc-item.result in
    one_done _ _ _ (item_events inc) (items_events (drop n incs)) (items_events (drop (n + 1) incs)) (items_events incs) (next_item incs n inc c.loop-inc-test.true c.inc-item.is)
    c.in_ok-put_item.ensures c.loop-inc.invariant

pub returns : goal.returns
returns g c =
    let incs = c.args.incs.now in
    all_done c.end_seq.result _ _ _ _ (items_events (drop c.loop-inc.inc-index incs)) (items_events incs) (no_item incs c.loop-inc.inc-index c.loop-inc-test.false) c.end_seq.ensures c.loop-inc.invariant
