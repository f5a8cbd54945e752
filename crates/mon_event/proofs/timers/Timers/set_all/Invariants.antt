use Rattle.std.proofs.Common.{◌≡◌, drop}
use Rattle.mon_plan.specs.Plans.{all_armed}
use Rattle.mon_event.proofs.timers.Timers.set_all.Given as goal

abbrev pub invariant-loop-arming : goal.invariant-loop-arming
invariant-loop-arming l = all_armed l.waits (drop l.arming-index l.armings) l.self ≡ all_armed l.waits l.armings l.fn.self
