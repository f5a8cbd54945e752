use Rattle.std.proofs.Common.{◌-◌}
use Rattle.schedule_text.proofs.RankLaws.{Keeping}
use Rattle.schedule_text.proofs.ranks.below.Given as goal

abbrev pub invariant-loop-n : goal.invariant-loop-n
invariant-loop-n l = Keeping l.monitors l.n (15 - l.n) l.kept l.set
