use Rattle.std.proofs.Common.{◌≡◌, drop}
use Rattle.mon_core.specs.Joining.{are_put_once}
use Rattle.mon_core.proofs.joining.are_put_once.Given as goal

abbrev pub invariant-loop-i : goal.invariant-loop-i
invariant-loop-i l = are_put_once l.ops ≡ are_put_once (drop l.i l.ops)
