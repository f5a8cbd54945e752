use Rattle.std.proofs.Common.{ap, ◌∙◌}
use Rattle.mon_msg.specs.Protocol.Readings.{readings_of, epoch_of}
use Rattle.mon_tx.specs.Map.{Store}
use Rattle.paxos_leader.proofs.values.epoch_and_last.Goals as goal

pub returns : goal.returns
returns c =
    let epoch = c.epoch.ensures ∙ ap (λ (m : Store). epoch_of (readings_of m)) c.in_ok-stored.ensures in
    let last = c.last.ensures.value ∙ ap (λ (m : Store). (readings_of m).last) c.in_ok-stored.ensures in
    λ i. (epoch i, last i)
