use Rattle.std.proofs.Common.{Ok, sym, subst}
use Rattle.mon_msg.specs.Protocol.Hearing.{hear}
use Rattle.mon_wire.specs.declared.body.Body.{Body}
use Rattle.mon_probe.specs.Rows.{ByRow}
use Rattle.mon_probe.proofs.inputs.hear.Goals as goal

pub returns-in-Probe-clause-plans : goal.returns-in-Probe-clause-plans
returns-in-Probe-clause-plans c =
    λ shared now.
    let here = c.args.here.now in
    let m = c.args.message.now in
    subst (λ (b : Body). ByRow here now (hear here.me.now shared now m.from m.epoch b) c.hear_probe.result) (sym c.in-Probe.is)
    (c.hear_probe.ensures.plans now)

pub returns-in-ProbeReply-clause-plans : goal.returns-in-ProbeReply-clause-plans
returns-in-ProbeReply-clause-plans c =
    λ shared now.
    let here = c.args.here.now in
    let m = c.args.message.now in
    subst (λ (b : Body). ByRow here now (hear here.me.now shared now m.from m.epoch b) (Ok c.hear_probe_reply.result)) (sym c.in-ProbeReply.is)
    (c.hear_probe_reply.ensures.plans now)
