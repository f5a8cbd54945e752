use Rattle.election_rules.specs.Table.{raised, lowered}
use Rattle.election_rules.proofs.FormLaws.{start_scores_is, scored_is, merged_is, raised_le, lowered_le}
use Rattle.election_rules.proofs.law.law_table_stays.Goals as goal

pub returns-clause-begins : goal.returns-clause-begins
returns-clause-begins c = start_scores_is

pub returns-clause-alive : goal.returns-clause-alive
returns-clause-alive c n own x seconds table h t = scored_is n own (raised seconds) x table t h (raised_le seconds)

pub returns-clause-dead : goal.returns-clause-dead
returns-clause-dead c n own x seconds table h t = scored_is n own (lowered seconds) x table t h (lowered_le seconds)

pub returns-clause-merged : goal.returns-clause-merged
returns-clause-merged c = merged_is
