use Rattle.std.proofs.Common.{◌≡◌, ◌++◌, take}
use Rattle.std.specs.List.{flat_map}
use Rattle.mon_bytes.specs.Forms.{u32_bytes}
use Rattle.mon_wire.proofs.write_lists.write_scores.Given as goal

abbrev pub invariant-loop-score : goal.invariant-loop-score
invariant-loop-score l = l.out ≡ l.fn.out ++ flat_map u32_bytes (take l.score-index l.scores)
