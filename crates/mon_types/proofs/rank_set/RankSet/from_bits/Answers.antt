use Rattle.mon_types.specs.Ranks.{low_bits}
use Rattle.mon_types.proofs.Bits.{filled_next}
use Rattle.mon_types.proofs.rank_set.RankSet.from_bits.Goals as goal

pub loop-r-preserved : goal.loop-r-preserved
loop-r-preserved c = filled_next c.loop-r.r c.loop-r.rest c.loop-r.flags (low_bits 15 c.args.bits) c.loop-r.invariant c.loop-r-test.true
