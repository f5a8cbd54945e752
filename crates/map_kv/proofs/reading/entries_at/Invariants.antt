use Rattle.std.proofs.Common.{◌≡◌, ◌-◌, []}
use Rattle.std.specs.FinMap.{entries}
use Rattle.map_kv.specs.Decode.{entries_at}
use Rattle.map_kv.proofs.Loop.{with_front, IsAbove}
use Rattle.map_kv.proofs.reading.entries_at.Given as goal

abbrev pub invariant-loop : goal.invariant-loop
invariant-loop l = (with_front (entries l.map) (entries_at (l.count - l.counter) l.before l.cursor) ≡ entries_at l.count [] l.fn.cursor) × IsAbove l.before (entries l.map)
