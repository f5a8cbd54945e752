use Rattle.std.proofs.Common.{◌≡◌, ◌-◌}
use Rattle.mon_bytes.specs.Format.{items}
use Rattle.mon_bytes.proofs.ItemsLoop.{with_front}
use Rattle.map_log.specs.Decode.{inc_at}
use Rattle.map_log.proofs.reading.entries_at.Given as goal

abbrev pub invariant-loop : goal.invariant-loop
invariant-loop l = with_front l.map (items inc_at (l.count - l.counter) l.cursor) ≡ items inc_at l.count l.fn.cursor
