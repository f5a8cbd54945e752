use Rattle.std.proofs.Common.{◌≤◌, ◌-◌, ◌^◌}
use Rattle.cephmon_run.specs.Lives.{Lived, scene}
use Rattle.cephmon_run.proofs.living.run_lives.Given as goal

abbrev pub invariant-loop : goal.invariant-loop
invariant-loop g l = record {
  lived : Lived g.D.Disk.state g.L.Link.state g.L.Link.history g.L.Lives.stood l.fn.words l.counter
      (scene (record { left = g.S.Source.left l.fn.source; held = g.K.Sink.held l.fn.sink; read_faults = g.S.Source.faults l.fn.source; write_faults = g.K.Sink.faults l.fn.sink }) l.fn.disks l.fn.link (g.C.Clock.left l.fn.clock))
      (scene (record { left = g.S.Source.left l.source; held = g.K.Sink.held l.sink; read_faults = g.S.Source.faults l.source; write_faults = g.K.Sink.faults l.sink }) l.ended.disks l.link (g.C.Clock.left l.clock))
      l.ended.status;
  most : l.counter ≤ 2 ^ 64 - 1;
}
