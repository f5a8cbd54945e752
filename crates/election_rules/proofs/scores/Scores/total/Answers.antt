use Rattle.std.proofs.Common.{take, arith}
use Rattle.std.proofs.lemmas.Grind.{common_steps}
use Rattle.election_rules.specs.Table.{no_row}
use Rattle.election_rules.proofs.TotalLemmas.{sum_for-more}
use Rattle.election_rules.proofs.scores.Scores.total.Goals.{then-y-x, else-y-x}
use Rattle.election_rules.proofs.scores.Scores.total.Goals as goal

pub loop-y-preserved : goal.loop-y-preserved
loop-y-preserved c =
    let more = sum_for-more c.from-x.result (take c.min.result c.args.self.now.rows) c.loop-y.y no_row c.loop-y-test.true in
    elim c.if-y-x.branch [ then-y-x w ↦ grind (arith, common_steps, w.from-sum.ensures) | else-y-x w ↦ grind (arith, common_steps) ]
