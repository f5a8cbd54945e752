use Rattle.std.proofs.Common.{◌≡◌, ◌-◌}
use Rattle.mon_tx.specs.Decode.{ops_at}
use Rattle.mon_tx.specs.EncodedOp.{ranges_at}
use Rattle.mon_tx.proofs.Over.{with_range}
use Rattle.mon_tx.proofs.scan.ranges_at.Given as goal

abbrev pub invariant-loop : goal.invariant-loop
invariant-loop l = with_range l.found (ops_at l.format (l.count - l.counter) l.cursor) ≡ ranges_at l.format l.count l.fn.cursor
