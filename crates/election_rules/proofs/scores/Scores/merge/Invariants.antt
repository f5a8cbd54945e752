use Rattle.election_rules.proofs.MergeLemmas.{IsMergedBelow}
use Rattle.election_rules.proofs.scores.Scores.merge.Given as goal

abbrev pub invariant-loop-y : goal.invariant-loop-y
invariant-loop-y l = IsMergedBelow l.y l.initial.self l.other l.self
