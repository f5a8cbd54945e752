use Rattle.std.proofs.Common.{ap, ◌∙◌, arith}
use Rattle.mon_msg.specs.Protocol.Sets.{are_within}
use Rattle.paxos_leader.proofs.Within.{are-none}
use Rattle.paxos_leader.proofs.sets.is_alone.Goals as goal

pub returns : goal.returns
returns c =
    let m = c.args.me.now.member in
    c.are_within.ensures ∙ ap (are_within m.monitors c.args.quorum) c.only.ensures ∙ are-none m.rank m.monitors c.args.quorum (omega (arith, m.most, m.in_map)) m.most
