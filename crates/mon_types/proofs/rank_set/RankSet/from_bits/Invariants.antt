use Rattle.mon_types.specs.Ranks.{low_bits}
use Rattle.mon_types.proofs.Bits.{Filled}
use Rattle.mon_types.proofs.rank_set.RankSet.from_bits.Given as goal

abbrev pub invariant-loop-r : goal.invariant-loop-r
invariant-loop-r l = Filled l.r l.rest l.flags (low_bits 15 l.fn.bits)
