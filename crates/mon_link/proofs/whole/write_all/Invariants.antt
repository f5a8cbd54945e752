use Rattle.std.proofs.Common.{◌≡◌, ◌≤◌, ◌-◌, length, take, is_some}
use Rattle.std.specs.Io.KnownBytes.{Appends}
use Rattle.mon_link.proofs.whole.write_all.Given as goal

abbrev pub invariant-loop-done : goal.invariant-loop-done
invariant-loop-done g l = record {
  later : g.K.Sink.faults l.fn.sink ≤ g.K.Sink.faults l.sink;
  most : l.done ≤ length l.bytes;
  put : Appends (g.K.Sink.held l.fn.sink) (g.K.Sink.held l.sink) (take l.done l.bytes);
  visible : is_some (g.K.Sink.held l.sink) ≡ is_some (g.K.Sink.held l.fn.sink);
}

abbrev pub decreases-loop-done : goal.decreases-loop-done
decreases-loop-done g l = length l.bytes - l.done
