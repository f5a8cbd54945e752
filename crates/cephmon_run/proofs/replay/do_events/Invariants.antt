use Rattle.std.proofs.Common.{◌≡◌, ◌≤◌}
use Rattle.quorum_model.specs.Monitors.{Monitors}
use Rattle.cephmon_run.proofs.Writing.{ComesTo}
use Rattle.cephmon_run.proofs.replay.do_events.Given as goal

abbrev pub invariant-loop-event : goal.invariant-loop-event
invariant-loop-event g l = record {
  so_far : (ms : Monitors) → ms.count ≡ l.schedule.monitors → ms.rule ≡ l.schedule.rule
      → ComesTo ms l.world (g.K.Sink.held l.fn.sink) (g.K.Sink.held l.sink) l.schedule.events l.event-index;
  number : l.number ≡ l.event-index;
  later : g.K.Sink.faults l.fn.sink ≤ g.K.Sink.faults l.sink;
}
