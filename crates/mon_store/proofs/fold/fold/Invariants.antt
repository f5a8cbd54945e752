use Rattle.std.proofs.Common.{◌≤◌, ◌<◌, ◌-◌, None}
use Rattle.mon_kv.specs.Readers.{size_of}
use Rattle.mon_journal.specs.Pieces.{IsPieceOf, OnlyReads}
use Rattle.mon_store.specs.Checkpoint.{most_size}
use Rattle.mon_store.proofs.Folds.{IsFoldedOn}
use Rattle.mon_store.proofs.fold.fold.Given as goal

abbrev pub invariant-loop-kv : goal.invariant-loop-kv
invariant-loop-kv g l = record {
  map : IsFoldedOn (g.D.Disk.state l.fn.disk).content.seen l.reader.gate l.at l.kv;
  size : size_of l.kv ≤ most_size;
  disk : OnlyReads None (g.D.Disk.state l.fn.disk) (g.D.Disk.state l.disk);
  on : IsPieceOf (g.D.Disk.state l.disk) l.reader.piece;
  reach : l.journal.next_gate < l.reader.piece.end;
}

abbrev pub decreases-loop-kv : goal.decreases-loop-kv
decreases-loop-kv g l = l.reader.piece.end - l.reader.gate
