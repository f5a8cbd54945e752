use Rattle.std.proofs.Common.{◌≡◌, ◌-◌, ◌++◌}
use Rattle.schedule_made.specs.Made.{deliveries}
use Rattle.schedule_made.proofs.events.put_deliveries.Given as goal

abbrev pub invariant-loop-message : goal.invariant-loop-message
invariant-loop-message l = l.events.items ≡ l.fn.events.items ++ deliveries l.first (l.message - l.first) l.at
