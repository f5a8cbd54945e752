use Rattle.std.proofs.Common.{◌≡◌, ◌-◌}
use Rattle.mon_wire.specs.Message.Format.{items}
use Rattle.mon_bytes.proofs.ItemsLoop.{with_front}
use Rattle.mon_decode.proofs.read_lists.read_items.Given as goal

abbrev pub invariant-loop : goal.invariant-loop
invariant-loop g l = with_front l.read (items g.T.Listed.format.read (l.count - l.counter) l.cursor) ≡ items g.T.Listed.format.read l.count l.fn.cursor
