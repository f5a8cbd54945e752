use Rattle.std.proofs.Common.{◌≡◌, ◌-◌, ◌^◌, ◌<◌, drop}
use Rattle.mon_types.specs.Ranks.{to_bits}
use Rattle.mon_types.proofs.rank_set.RankSet.to_bits.Given as goal

abbrev pub invariant-loop-i : goal.invariant-loop-i
invariant-loop-i l = record { value : l.bits ≡ to_bits (drop (15 - l.i) l.self-inside.flags); below : l.bits < 2 ^ l.i }
