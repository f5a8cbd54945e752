use Rattle.std.proofs.Common.{sym, subst}
use Rattle.mon_bytes.specs.declared.command.Command.TheVariants as command
use Rattle.mon_bytes.specs.declared.command.Command.{Command}
use Rattle.mon_msg.specs.Protocol.Commands.{ask}
use Rattle.mon_msg.specs.Protocol.Hearing.{hear_client}
use Rattle.mon_wire.specs.declared.request.Request.{Request}
use Rattle.mon_client.specs.Rows.{ByRow}
use Rattle.mon_client.proofs.inputs.client.Goals as goal

pub returns-in_ok-copy-in-Set-2-clause-plans : goal.returns-in_ok-copy-in-Set-2-clause-plans
unfolding hear_client
returns-in_ok-copy-in-Set-2-clause-plans c =
    let here = c.args.here.now in
    let me = here.me.now in
    subst (λ (r : Request). ByRow here c.args.clients (hear_client me here.time c.args.session r) c.ask.result) (sym c.in-Set.is)
    (subst (λ (k : Command). ByRow here c.args.clients (ask me here.time c.args.session k) c.ask.result)
    (λ i. command.Set (c.in_ok-copy-in-Set.ensures i) (c.in_ok-copy-in-Set-2.ensures i)) c.ask.ensures.plans)

pub returns-in_ok-copy-in-Remove-clause-plans : goal.returns-in_ok-copy-in-Remove-clause-plans
unfolding hear_client
returns-in_ok-copy-in-Remove-clause-plans c =
    let here = c.args.here.now in
    let me = here.me.now in
    subst (λ (r : Request). ByRow here c.args.clients (hear_client me here.time c.args.session r) c.ask-in-Remove.result) (sym c.in-Remove.is)
    (subst (λ (k : Command). ByRow here c.args.clients (ask me here.time c.args.session k) c.ask-in-Remove.result)
    (λ i. command.Remove (c.in_ok-copy-in-Remove.ensures i)) c.ask-in-Remove.ensures.plans)

pub returns-in_ok-copy-in-Log-clause-plans : goal.returns-in_ok-copy-in-Log-clause-plans
unfolding hear_client
returns-in_ok-copy-in-Log-clause-plans c =
    let here = c.args.here.now in
    let me = here.me.now in
    subst (λ (r : Request). ByRow here c.args.clients (hear_client me here.time c.args.session r) c.ask-in-Log.result) (sym c.in-Log.is)
    (subst (λ (k : Command). ByRow here c.args.clients (ask me here.time c.args.session k) c.ask-in-Log.result)
    (λ i. command.Log (c.in_ok-copy-in-Log.ensures i)) c.ask-in-Log.ensures.plans)

pub returns-in-Since-clause-plans : goal.returns-in-Since-clause-plans
unfolding hear_client
returns-in-Since-clause-plans c =
    let here = c.args.here.now in
    let me = here.me.now in
    subst (λ (r : Request). ByRow here c.args.clients (hear_client me here.time c.args.session r) c.since.result) (sym c.in-Since.is)
    c.since.ensures.plans
