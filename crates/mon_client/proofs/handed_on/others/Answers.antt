use Rattle.std.proofs.Common.{Bool, not, ◌==◌, ap, ◌∙◌}
use Rattle.std.proofs.lemmas.Bool.{eq-eqb, ne_eqb}
use Rattle.mon_msg.specs.declared.clients.Asked.{Asked}
use Rattle.mon_client.proofs.HandedOnLaws.{keeps_one, skips_one}
use Rattle.mon_client.proofs.handed_on.others.Goals as goal

pub loop-asked-preserved-then-asked-seq : goal.loop-asked-preserved-then-asked-seq
loop-asked-preserved-then-asked-seq c =
    let p : Asked → Bool = λ a. not (a.seq == c.args.seq) in
    c.loop-asked.invariant ∙ skips_one p c.args.sessions.now c.loop-asked.asked-index _ c.loop-asked-test.true (ap not (eq-eqb _ c.args.seq c.if-asked-seq.true))

pub loop-asked-preserved : goal.loop-asked-preserved
loop-asked-preserved c =
    let p : Asked → Bool = λ a. not (a.seq == c.args.seq) in
    c.in_ok-push.ensures.ok ∙ keeps_one p c.args.sessions.now c.loop-asked.asked-index c.loop-asked.kept c.loop-asked.invariant _ c.loop-asked-test.true (ap not (ne_eqb _ c.args.seq c.if-asked-seq.false))
