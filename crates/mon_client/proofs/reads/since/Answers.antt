use Rattle.std.proofs.Common.{[], ◌∷◌, Ok, ap, ◌∙◌}
use Rattle.mon_msg.specs.Protocol.Course.{Course, say}
use Rattle.mon_msg.specs.Protocol.Readings.{readings_of}
use Rattle.mon_msg.specs.Protocol.Reads.{since, read}
use Rattle.mon_msg.specs.declared.plan.Next.TheVariants as next
use Rattle.mon_msg.specs.declared.plan.Sent.TheVariants as sent
use Rattle.mon_client.proofs.Planned.{plan_of, answers}
use Rattle.mon_client.proofs.CommandLaws.{Met, same, under_way}
use Rattle.mon_client.proofs.HandedOnLaws.{told_by, read-is}
use Rattle.mon_client.proofs.reads.since.Goals as goal

pub returns-clause-plans : goal.returns-clause-plans
returns-clause-plans c =
    let here = c.args.here.now in
    let me = here.me.now in
    let now = here.time in
    let w = readings_of here.kv.now in
    let v = here.view.now in
    let s = c.args.clients in
    let changes_reply = told_by w v c.args.service c.args.version in
    answers me now (Met me now w v s) (read me now c.args.session (λ r. since r c.args.service c.args.version))
    (sent.Reply c.args.session changes_reply) s
    (λ x b.
    read-is me now w v x (under_way me now w v s x b) c.args.session c.args.service c.args.version
    ∙ ap (λ (y : Course). Ok (say (sent.Reply c.args.session changes_reply ∷ []) y)) (same me now w v s x b))
    c.in_ok-answered.field-0
    (c.in_ok-answered.ensures ∙ (λ i. plan_of (sent.Reply c.args.session (c.in_ok-reply.ensures i) ∷ []) [] s next.Stay))
