use Rattle.std.proofs.Common.{◌≡◌, ◌++◌, take}
use Rattle.std.specs.Prelude.{flat_map}
use Rattle.mon_msg.specs.Protocol.Collecting.{commits_to}
use Rattle.mon_msg.specs.Protocol.Readings.{readings_of}
use Rattle.paxos_leader.specs.Drafts.{at_epoch}
use Rattle.paxos_leader.proofs.catch_up.catch_up.Given as goal

abbrev pub invariant-loop-member : goal.invariant-loop-member
invariant-loop-member l = l.out ≡ l.fn.out ++ flat_map (commits_to l.act.me.now (at_epoch l.act.epoch (readings_of l.stored)) l.lasts) (take l.member-index l.members)
