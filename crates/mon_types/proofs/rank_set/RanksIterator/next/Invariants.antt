use Rattle.std.proofs.Common.{◌≡◌, ◌-◌}
use Rattle.mon_types.specs.Ranks.{ranks_from}
use Rattle.mon_types.proofs.rank_set.RanksIterator.next.Given as goal

abbrev pub invariant-loop-self : goal.invariant-loop-self
invariant-loop-self l = ranks_from l.self-inside.next l.self-inside.set ≡ l.fn.self

abbrev pub decreases-loop-self : goal.decreases-loop-self
decreases-loop-self l = 15 - l.self-inside.next
