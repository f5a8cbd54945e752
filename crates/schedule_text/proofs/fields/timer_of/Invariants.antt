use Rattle.std.proofs.Common.{◌≡◌, drop}
use Rattle.mon_wire.specs.declared.phase.TheConstants.Timer.{ALL}
use Rattle.schedule_text.specs.Fields.{timer_among}
use Rattle.schedule_text.proofs.fields.timer_of.Given as goal

abbrev pub invariant-loop-timer : goal.invariant-loop-timer
invariant-loop-timer l = timer_among (drop l.timer-index ALL) l.field ≡ timer_among ALL l.field
