use Rattle.std.proofs.Common.{◌≡◌, ◌-◌, []}
use Rattle.std.specs.FinMap.{entries}
use Rattle.mon_store.specs.Decode.{entries_at}
use Rattle.mon_store.proofs.Loop.{with_front}
use Rattle.mon_store.proofs.Order.{IsAbove}
use Rattle.mon_store.proofs.reading.entries_at.Given as goal

abbrev pub invariant-loop : goal.invariant-loop
invariant-loop l = record {
  read : with_front (entries l.kv) (entries_at (l.count - l.counter) (l.prefix, l.key) l.cursor) ≡ entries_at l.count ([], []) l.fn.cursor;
  above : IsAbove (l.prefix, l.key) (entries l.kv);
}
