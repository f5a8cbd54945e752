use Rattle.std.proofs.Common.{ℕ, List, ◌++◌, ap, ◌∙◌}
use Rattle.std.specs.Prelude.{flat_map}
use Rattle.mon_msg.specs.Protocol.Collecting.{commits_to}
use Rattle.mon_msg.specs.Protocol.Readings.{readings_of}
use Rattle.paxos_leader.specs.Drafts.{at_epoch}
use Rattle.paxos_leader.proofs.catch_up.send_missed.Goals as goal

pub returns : goal.returns
returns c =
    c.in_ok-catch_up.ensures
    ∙ ap (λ (ks : List ℕ). c.args.out ++ flat_map (commits_to c.args.act.now.me.now (at_epoch c.args.act.now.epoch (readings_of c.args.stored.now)) c.args.state.now.lasts) ks) (c.as_slice.ensures.value ∙ c.in_ok-peons.ensures)
