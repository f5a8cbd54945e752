use Rattle.std.proofs.Common.{◌≡◌, ◌≤◌, take}
use Rattle.mon_types.specs.Ranks.{count_of}
use Rattle.mon_types.proofs.rank_set.RankSet.count.Given as goal

abbrev pub invariant-loop-flag : goal.invariant-loop-flag
invariant-loop-flag l = record {
  counted : l.count ≡ count_of (take l.flag-index l.flag-items);
  most : l.count ≤ l.flag-index;
}
