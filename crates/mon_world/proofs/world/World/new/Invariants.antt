use Rattle.mon_world.proofs.Making.{Made}
use Rattle.mon_world.proofs.world.World.new.Given as goal

abbrev pub invariant-loop-rank : goal.invariant-loop-rank
invariant-loop-rank l = Made l.monitors l.rule l.list.items l.rank
