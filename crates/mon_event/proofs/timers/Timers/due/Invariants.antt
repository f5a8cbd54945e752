use Rattle.std.proofs.Common.{◌≡◌, ◌≤◌, drop}
use Rattle.mon_msg.specs.Protocol.Timers.{soonest}
use Rattle.mon_wire.specs.declared.phase.TheConstants.Timer.{ALL, COUNT}
use Rattle.mon_event.proofs.timers.Timers.due.Given as goal

abbrev pub invariant-loop-i : goal.invariant-loop-i
invariant-loop-i l = record { within : l.i ≤ COUNT; next : l.next ≡ soonest (drop l.i ALL) l.self }
