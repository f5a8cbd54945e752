use Rattle.std.proofs.Common.{length}
use Rattle.mon_disk.proofs.undoing.+keep_parts.Given as goal

abbrev pub decreases-keep_parts : goal.decreases-keep_parts
decreases-keep_parts l = length l.writes.now
