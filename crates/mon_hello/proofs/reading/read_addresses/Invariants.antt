use Rattle.std.proofs.Common.{◌≡◌, ◌-◌}
use Rattle.mon_bytes.specs.Format.{items}
use Rattle.mon_bytes.proofs.ItemsLoop.{with_front}
use Rattle.mon_hello.specs.Formats.{address_at}
use Rattle.mon_hello.proofs.reading.read_addresses.Given as goal

abbrev pub invariant-loop : goal.invariant-loop
invariant-loop l = with_front l.read (items address_at (l.count - l.counter) l.cursor) ≡ items address_at l.count l.fn.cursor
