use Rattle.std.proofs.Common.{sym, ◌∙◌}
use Rattle.mon_wire.specs.declared.phase.TheConstants.Timer.{ALL}
use Rattle.mon_wire.specs.declared.phase.Timer.TheVariants.{Probe}
use Rattle.schedule_text.proofs.TimerLoop.{timer_next}
use Rattle.schedule_text.proofs.fields.timer_of.Goals as goal

pub loop-timer-preserved : goal.loop-timer-preserved
loop-timer-preserved c =
    timer_next ALL c.args.field.now c.loop-timer.timer-index Probe c.loop-timer-test.true (sym c.is_timer.ensures ∙ c.if-is_timer.false)
    ∙ c.loop-timer.invariant
