use Rattle.std.proofs.Common.{◌≡◌}
use Rattle.mon_hello.proofs.heard.Heard.compares.Given as goal

abbrev pub invariant-loop-reason : goal.invariant-loop-reason
invariant-loop-reason g l = l.self.answered ≡ l.fn.self.answered
