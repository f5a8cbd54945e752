use Rattle.std.proofs.Common.{◌≡◌, ◌++◌, take}
use Rattle.std.specs.List.{flat_map}
use Rattle.mon_wire.specs.Message.Scores.{row}
use Rattle.mon_wire.proofs.write_lists.write_rows.Given as goal

abbrev pub invariant-loop-told : goal.invariant-loop-told
invariant-loop-told l = l.out ≡ l.fn.out ++ flat_map (row l.n).text (take l.told-index l.rows)
