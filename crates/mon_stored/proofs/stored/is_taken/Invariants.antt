use Rattle.std.proofs.Common.{◌≡◌, false, take}
use Rattle.std.specs.List.{list_any}
use Rattle.mon_msg.specs.Joined.{takes_away}
use Rattle.mon_stored.proofs.stored.is_taken.Given as goal

abbrev pub invariant-loop-op : goal.invariant-loop-op
invariant-loop-op l = list_any (takes_away (l.at.prefix.now, l.at.text.now)) (take l.op-index l.ops) ≡ false
