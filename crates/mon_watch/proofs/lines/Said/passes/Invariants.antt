use Rattle.std.proofs.Common.{◌≡◌}
use Rattle.mon_watch.proofs.lines.Said.passes.Given as goal

abbrev pub invariant-loop-rank : goal.invariant-loop-rank
invariant-loop-rank g l = (l.watch.member ≡ l.fn.watch.member) × (l.watch.answered ≡ l.fn.watch.answered)
