use Rattle.std.proofs.Common.{◌≡◌, take}
use Rattle.mon_stored.specs.Joining.{picked}
use Rattle.mon_stored.proofs.join.joined.Given as goal

abbrev pub invariant-loop-i : goal.invariant-loop-i
invariant-loop-i l = l.joined ≡ picked l.ops (take l.i-index l.i-items)
