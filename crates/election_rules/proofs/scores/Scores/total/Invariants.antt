use Rattle.std.proofs.Common.{◌≡◌, ◌*◌, ◌^◌, ◌≤◌, take}
use Rattle.election_rules.specs.Table.{sum_for}
use Rattle.election_rules.proofs.scores.Scores.total.Given as goal

abbrev pub invariant-loop-y : goal.invariant-loop-y
invariant-loop-y l = record {
  so_far : l.sum ≡ sum_for l.x (take l.y l.rows);
  within : l.sum ≤ l.y * 2 ^ 32;
}
