use Rattle.std.proofs.Common.{◌≡◌, ◌++◌, take, map}
use Rattle.mon_msg.specs.Protocol.Sending.{message_to}
use Rattle.mon_plan.proofs.sends.send_each.Given as goal

abbrev pub invariant-loop-rank : goal.invariant-loop-rank
invariant-loop-rank l = l.out ≡ l.fn.out ++ map (message_to l.me l.epoch l.body) (take l.rank-index l.ranks)
