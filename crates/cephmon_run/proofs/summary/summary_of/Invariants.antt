use Rattle.std.proofs.Common.{◌≡◌}
use Rattle.quorum_model.specs.Monitors.{Monitors}
use Rattle.cephmon_run.proofs.Counting.{Counted}
use Rattle.cephmon_run.proofs.summary.summary_of.Given as goal

abbrev pub invariant-loop-event : goal.invariant-loop-event
invariant-loop-event l =
    (ms : Monitors) → ms.count ≡ l.schedule.monitors → ms.rule ≡ l.schedule.rule → Counted ms l.world l.counts l.schedule.events l.event-index
