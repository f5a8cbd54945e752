use Rattle.std.proofs.Common.{◌≡◌, ◌++◌, string_bytes}
use Rattle.schedule_text.specs.Ranks.{separated, separator, ranks_text}
use Rattle.schedule_text.proofs.RankLaws.{named}
use Rattle.schedule_text.proofs.ranks.put_ranks.Given as goal

abbrev pub invariant-loop-rank : goal.invariant-loop-rank
invariant-loop-rank l =
    string_bytes l.out ++ separated (separator l.first) (named l.rank-iterator) ≡ string_bytes l.fn.out ++ separated 61 (ranks_text l.fn.set)
