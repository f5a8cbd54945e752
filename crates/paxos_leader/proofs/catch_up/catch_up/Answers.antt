use Rattle.std.proofs.Common.{ℕ, ◌++◌, List, take, sym, ap, ◌∙◌, append_assoc}
use Rattle.std.specs.Prelude.{flat_map}
use Rattle.mon_msg.specs.Protocol.Collecting.{commits_to}
use Rattle.mon_msg.specs.Protocol.Readings.{readings_of}
use Rattle.mon_msg.specs.declared.plan.Sent.{Sent}
use Rattle.paxos_leader.specs.Drafts.{at_epoch}
use Rattle.paxos_leader.proofs.Settling.{flat_map-next}
use Rattle.paxos_leader.proofs.catch_up.catch_up.Goals as goal

pub loop-member-preserved : goal.loop-member-preserved
loop-member-preserved c =
    let f : ℕ → List Sent = commits_to c.args.act.now.me.now (at_epoch c.args.act.now.epoch (readings_of c.args.stored.now)) c.args.lasts.now in
    let i = c.loop-member.member-index in
    c.in_ok-commit_to.ensures
    ∙ ap (λ o. o ++ f c.member-item.result) c.loop-member.invariant
    ∙ append_assoc c.args.out.now (flat_map f (take i c.args.members.now)) (f c.member-item.result)
    ∙ ap (λ l. c.args.out.now ++ l) (sym (flat_map-next f c.args.members.now i c.member-item.result c.loop-member-test.true c.member-item.is))
