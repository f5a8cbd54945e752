use Rattle.std.proofs.Common.{◌≡◌, ◌-◌}
use Rattle.mon_tx.specs.Decode.{ops_at}
use Rattle.mon_tx.proofs.Loop.{with_front}
use Rattle.mon_tx.proofs.reading.ops_at.Given as goal

abbrev pub invariant-loop : goal.invariant-loop
invariant-loop l = with_front l.tx (ops_at l.format (l.count - l.counter) l.cursor) ≡ ops_at l.format l.count l.fn.cursor
