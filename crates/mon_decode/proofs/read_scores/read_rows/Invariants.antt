use Rattle.election_rules.specs.Table.{start_row}
use Rattle.mon_wire.specs.Message.Scores.{row}
use Rattle.mon_wire.specs.Message.Format.{items}
use Rattle.mon_decode.proofs.PaddedLoop.{SoFar}
use Rattle.mon_decode.proofs.read_scores.read_rows.Given as goal

abbrev pub invariant-loop-y : goal.invariant-loop-y
invariant-loop-y l = SoFar (row l.n).read l.n l.y (start_row 0) l.cursor l.rows (items (row l.n).read l.n l.fn.cursor)
