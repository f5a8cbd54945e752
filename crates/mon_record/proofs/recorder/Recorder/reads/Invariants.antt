use Rattle.std.proofs.Common.{◌≡◌, drop}
use Rattle.mon_record.specs.Recorders.{listed}
use Rattle.mon_record.specs.Tapes.{read}
use Rattle.mon_record.proofs.recorder.Recorder.reads.Given as goal

-- the readings that are left lead to the same tape
abbrev pub invariant-loop-time : goal.invariant-loop-time
invariant-loop-time g l = record {
  left : read (drop l.time-index l.time-items) l.self.tape ≡ read l.time-items l.fn.self.tape;
  sink : l.self.sink ≡ l.fn.self.sink;
}
