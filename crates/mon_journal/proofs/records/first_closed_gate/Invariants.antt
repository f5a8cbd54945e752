use Rattle.std.proofs.Common.{◌≡◌, ◌-◌, None}
use Rattle.mon_journal.specs.Pieces.{IsPieceOf, OnlyReads}
use Rattle.mon_journal.proofs.Gathering.{SoFar}
use Rattle.mon_journal.proofs.records.first_closed_gate.Given as goal

abbrev pub invariant-loop-length : goal.invariant-loop-length
invariant-loop-length g l = record {
  disk : OnlyReads None (g.D.Disk.state l.fn.disk) (g.D.Disk.state l.disk);
  on : IsPieceOf (g.D.Disk.state l.disk) l.piece;
  end : l.piece.end ≡ l.fn.piece.end;
  records : SoFar (g.D.Disk.state l.fn.disk).content.seen l.at;
}

abbrev pub decreases-loop-length : goal.decreases-loop-length
decreases-loop-length g l = l.piece.end - l.at
