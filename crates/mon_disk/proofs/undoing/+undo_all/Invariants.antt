use Rattle.std.proofs.Common.{length}
use Rattle.mon_disk.proofs.undoing.+undo_all.Given as goal

abbrev pub decreases-undo_all : goal.decreases-undo_all
decreases-undo_all l = length l.writes.now
