use Rattle.std.proofs.Common.{◌≡◌, ◌≤◌, ◌-◌, length, is_some}
use Rattle.std.specs.Io.KnownBytes.{Consumes}
use Rattle.mon_link.proofs.whole.read_all.Given as goal

abbrev pub invariant-loop-buffer : goal.invariant-loop-buffer
invariant-loop-buffer g l = record {
  later : g.S.Source.faults l.fn.source ≤ g.S.Source.faults l.source;
  most : length l.bytes.items ≤ l.most;
  taken : Consumes (g.S.Source.left l.fn.source) (g.S.Source.left l.source) l.bytes.items;
  visible : is_some (g.S.Source.left l.source) ≡ is_some (g.S.Source.left l.fn.source);
}

abbrev pub decreases-loop-buffer : goal.decreases-loop-buffer
decreases-loop-buffer g l = l.most - length l.bytes.items
