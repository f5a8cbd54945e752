use Rattle.std.proofs.Common.{Bool, ◌==◌, List, map, ap, ◌∙◌}
use Rattle.std.proofs.lemmas.Bool.{eq-eqb, ne_eqb}
use Rattle.mon_msg.specs.declared.clients.Asked.{Asked}
use Rattle.mon_msg.specs.declared.plan.Sent.TheVariants as sent
use Rattle.mon_client.proofs.HandedOnLaws.{replies_one, skips_one}
use Rattle.mon_client.proofs.handed_on.replies.Goals as goal

pub loop-asked-preserved-then-asked-seq : goal.loop-asked-preserved-then-asked-seq
loop-asked-preserved-then-asked-seq c =
    let p : Asked → Bool = λ a. a.seq == c.args.seq in
    c.loop-asked.invariant
    ∙ ap (λ (l : List Asked). map (λ a. sent.Reply a.session c.args.reply.now) l) (skips_one p c.args.sessions.now c.loop-asked.asked-index _ c.loop-asked-test.true (ne_eqb _ c.args.seq c.if-asked-seq.true))

pub loop-asked-preserved : goal.loop-asked-preserved
loop-asked-preserved c =
    replies_one c.args.seq c.args.reply.now c.args.sessions.now c.loop-asked.asked-index c.loop-asked.out c.loop-asked.invariant _ c.loop-asked-test.true (eq-eqb _ c.args.seq c.if-asked-seq.false)
    c.in_ok-copy.field-0 c.in_ok-copy.ensures c.push.new.self c.in_ok-push.ensures.ok
