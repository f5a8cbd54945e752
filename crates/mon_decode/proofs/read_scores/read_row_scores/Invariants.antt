use Rattle.election_rules.specs.Table.{full}
use Rattle.mon_wire.specs.Message.Scores.{score_at}
use Rattle.mon_wire.specs.Message.Format.{items}
use Rattle.mon_decode.proofs.PaddedLoop.{SoFar}
use Rattle.mon_decode.proofs.read_scores.read_row_scores.Given as goal

abbrev pub invariant-loop-x : goal.invariant-loop-x
invariant-loop-x l = SoFar score_at l.n l.x full l.cursor l.scores (items score_at l.n l.fn.cursor)
