use Rattle.std.proofs.Common.{[], ap, ◌∙◌}
use Rattle.std.proofs.lemmas.Result.{err_from_is_err_and}
use Rattle.std.specs.FinMap.{entries}
use Rattle.mon_tx.specs.Map.{Place}
use Rattle.mon_kv.specs.Readers.{entry_of}
use Rattle.mon_store.specs.Decode.{entries_at}
use Rattle.mon_store.proofs.Order.{above_none, stays_above, entries-inserted}
use Rattle.mon_store.proofs.Loop.{begins, goes_on, ends, is_done, rises}
use Rattle.mon_store.proofs.reading.entries_at.Goals as goal

pub loop-init : goal.loop-init
loop-init c = record {
  read = begins c.empty-kv.result c.args.count ([], []) c.args.cursor.now c.empty-kv.ensures;
  above = above_none c.empty-kv.result ([], []) c.empty-kv.ensures;
}

pub returns-in_err-entry : goal.returns-in_err-entry
returns-in_err-entry c =
    let p = err_from_is_err_and c.from_residual.result c.from_residual.ensures.1 in
    rw (p.1, p.2) (ends c.in_err-entry.field-0.0 (entries c.loop.kv) c.args.count c.loop.counter (c.loop.prefix.now, c.loop.key.now) c.loop.cursor (entries_at c.args.count ([], []) c.args.cursor.now) c.loop-test.true c.in_err-entry.ensures.entry c.loop.invariant.read)

pub loop-preserved : goal.loop-preserved
loop-preserved c =
    let e = entry_of c.in_ok-entry.entry in
    let before : Place = (c.loop.prefix.now, c.loop.key.now) in
    let up = rises before c.loop.cursor (e, c.entry_at.new.cursor) c.in_ok-entry.ensures.entry in
    let after = ap entries c.in_ok-put.ensures ∙ entries-inserted c.loop.kv before e up c.loop.invariant.above in
    rw after (record {
      read = goes_on (entries c.loop.kv) c.args.count c.loop.counter before e c.loop.cursor c.entry_at.new.cursor (entries_at c.args.count ([], []) c.args.cursor.now) c.loop-test.true c.in_ok-entry.ensures.entry c.loop.invariant.read;
      above = stays_above before e (entries c.loop.kv) up c.loop.invariant.above;
    })

pub returns : goal.returns
returns c = is_done (entries c.loop.kv) c.args.count c.loop.counter (c.loop.prefix.now, c.loop.key.now) c.loop.cursor (entries_at c.args.count ([], []) c.args.cursor.now) c.loop-test.false c.loop.invariant.read
