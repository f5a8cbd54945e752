use Rattle.std.proofs.Common.{[], ◌∷◌, refl, sym, ap, ◌∙◌}
use Rattle.mon_msg.specs.Protocol.Probing.{hear_probe}
use Rattle.mon_msg.specs.Protocol.Readings.{readings_of, epoch_of}
use Rattle.mon_msg.specs.Protocol.Sending.{message_to}
use Rattle.mon_msg.specs.declared.plan.Next.TheVariants as next
use Rattle.mon_msg.specs.declared.plan.Sent.{Sent}
use Rattle.mon_wire.specs.declared.body.Body.TheVariants as body
use Rattle.mon_probe.proofs.Known.{acts, plan_of, plans}
use Rattle.mon_probe.proofs.ProbeLaws as laws
use Rattle.mon_probe.proofs.probes.hear_probe.Goals as goal

pub returns-then-is_marked-clause-plans : goal.returns-then-is_marked-clause-plans
returns-then-is_marked-clause-plans c =
    λ now.
    let here = c.args.here.now in
    let me = here.me.now in
    let v = here.view.now in
    let s = here.state.now in
    let w = readings_of here.stored.now in
    acts me now w v s (hear_probe me c.args.from) c.stay.result next.Stay (λ x. refl) c.stay.ensures
    (λ x b. laws.probe-marked me now w v s x b c.args.from (sym c.is_marked.ensures ∙ c.if-is_marked.true))

pub returns-clause-plans : goal.returns-clause-plans
returns-clause-plans c =
    λ now.
    let here = c.args.here.now in
    let me = here.me.now in
    let v = here.view.now in
    let s = here.state.now in
    let w = readings_of here.stored.now in
    let f = c.args.from in
    let sent = c.message-sent.ensures ∙ (λ i. message_to me (c.epoch.ensures i) (body.ProbeReply v.quorum (c.first.ensures i) (c.last.ensures.value i)) f) in
    let out = c.in_ok-out.ensures ∙ ap (λ (m : Sent). m ∷ []) sent in
    plans me now w v s (hear_probe me f) c.sending.result
    [] tt (message_to me (epoch_of w) (body.ProbeReply v.quorum w.first w.last) f ∷ []) [] s next.Stay
    (c.sending.ensures ∙ (λ i. plan_of [] (out i) [] s next.Stay))
    (λ x b. laws.probe-answered me now w v s x b f (sym c.is_marked.ensures ∙ c.if-is_marked.false))
