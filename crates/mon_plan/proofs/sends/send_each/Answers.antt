use Rattle.std.proofs.Common.{[], ◌∷◌, ◌++◌, map, take, sym, ap, ◌∙◌, append_assoc}
use Rattle.mon_msg.specs.Protocol.Sending.{message_to}
use Rattle.mon_plan.proofs.Loops.{map-next}
use Rattle.mon_plan.proofs.sends.send_each.Goals as goal

pub loop-rank-preserved : goal.loop-rank-preserved
loop-rank-preserved c =
    let told = message_to c.args.me.now c.args.epoch c.args.body.now in
    c.in_ok-push.ensures.ok
    ∙ (λ i. c.loop-rank.invariant i ++ c.message.ensures i ∷ [])
    ∙ (λ i. (c.args.out.now ++ map told (take c.loop-rank.rank-index c.args.ranks.now)) ++ message_to c.args.me.now c.args.epoch (c.in_ok-copy.ensures i) c.rank-item.result ∷ [])
    ∙ append_assoc c.args.out.now (map told (take c.loop-rank.rank-index c.args.ranks.now)) (told c.rank-item.result ∷ [])
    ∙ ap (λ l. c.args.out.now ++ l) (sym (map-next c.args.ranks.now c.loop-rank.rank-index c.rank-item.result c.loop-rank-test.true c.rank-item.is told))
