use Rattle.std.proofs.Common.{sym, subst}
use Rattle.mon_msg.specs.Protocol.Hearing.{hear}
use Rattle.mon_wire.specs.declared.body.Body.{Body}
use Rattle.mon_client.specs.Rows.{ByRow}
use Rattle.mon_client.proofs.inputs.hear.Goals as goal

pub returns-in-Forward-clause-plans : goal.returns-in-Forward-clause-plans
returns-in-Forward-clause-plans c =
    λ shared.
    let here = c.args.here.now in
    let m = c.args.message.now in
    subst (λ (told : Body). ByRow here c.args.clients (hear here.me.now shared here.time m.from m.epoch told) c.forward.result)
    (sym c.in-Forward.is) c.forward.ensures.plans

pub returns-in-Route-clause-plans : goal.returns-in-Route-clause-plans
returns-in-Route-clause-plans c =
    λ shared.
    let here = c.args.here.now in
    let m = c.args.message.now in
    subst (λ (told : Body). ByRow here c.args.clients (hear here.me.now shared here.time m.from m.epoch told) c.route.result)
    (sym c.in-Route.is) c.route.ensures.plans
