use Rattle.std.proofs.Common.{◌≡◌, ◌-◌, ◌++◌}
use Rattle.svc_core.proofs.Fulls.{erasures}
use Rattle.svc_core.proofs.rules.push_full_erased.Given as goal

abbrev pub invariant-loop-v : goal.invariant-loop-v
invariant-loop-v l = l.tx ++ erasures l.area l.v (l.to - l.v) ≡ l.fn.tx ++ erasures l.area l.from (l.to - l.from)
