use Rattle.std.proofs.Common.{◌≡◌, ◌+◌, length}
use Rattle.schedule_text.specs.Ranks.{separated, ranks_text}
use Rattle.schedule_text.proofs.RankLaws.{named}
use Rattle.schedule_text.proofs.length.ranks_len.Given as goal

abbrev pub invariant-loop-rank : goal.invariant-loop-rank
invariant-loop-rank l = l.len + length (separated 44 (named l.rank-iterator)) ≡ length (separated 61 (ranks_text l.fn.set))
