use Rattle.std.proofs.Common.{[], ◌∷◌, Ok, ap, sym, ◌∙◌}
use Rattle.mon_msg.specs.Protocol.Commands.{at_leader, at_peon, ask}
use Rattle.mon_msg.specs.Protocol.Course.{Course, say}
use Rattle.mon_msg.specs.Protocol.Readings.{readings_of}
use Rattle.mon_msg.specs.declared.plan.Origin.TheVariants as origin
use Rattle.mon_msg.specs.declared.plan.Sent.TheVariants as sent
use Rattle.mon_wire.specs.declared.reply.Reply.TheVariants as reply
use Rattle.mon_client.proofs.Planned.{answers}
use Rattle.mon_client.proofs.CommandLaws.{Met, same, in_place, under_way, ask-leads, ask-follows, ask-nobody}
use Rattle.mon_client.proofs.commands.ask.Goals as goal

pub returns-then-is_leading-clause-plans : goal.returns-then-is_leading-clause-plans
returns-then-is_leading-clause-plans c =
    let here = c.args.here.now in
    let me = here.me.now in
    let w = readings_of here.kv.now in
    let v = here.view.now in
    let s = c.args.clients in
    in_place me here.time w v s (at_leader me here.time c.args.command (origin.Session c.args.session)) (ask me here.time c.args.session c.args.command) c.at_leader.result
    (λ x b. ask-leads me here.time w v x (under_way me here.time w v s x b) c.args.command c.args.session (sym c.is_leading.ensures ∙ c.if-is_leading.true))
    c.at_leader.ensures.plans

pub at_peon-requires : goal.at_peon-requires
at_peon-requires c = sym c.is_peon.ensures ∙ c.if-is_peon.true

pub returns-then-is_peon-clause-plans : goal.returns-then-is_peon-clause-plans
returns-then-is_peon-clause-plans c =
    let here = c.args.here.now in
    let me = here.me.now in
    let w = readings_of here.kv.now in
    let v = here.view.now in
    let s = c.args.clients in
    in_place me here.time w v s (at_peon me c.args.command c.args.session) (ask me here.time c.args.session c.args.command) c.at_peon.result
    (λ x b.
    ask-follows me here.time w v x (under_way me here.time w v s x b) c.args.command c.args.session (sym c.is_leading.ensures ∙ c.if-is_leading.false) (sym c.is_peon.ensures ∙ c.if-is_peon.true))
    c.at_peon.ensures.plans

pub returns-clause-plans : goal.returns-clause-plans
returns-clause-plans c =
    let here = c.args.here.now in
    let me = here.me.now in
    let w = readings_of here.kv.now in
    let v = here.view.now in
    let s = c.args.clients in
    answers me here.time (Met me here.time w v s) (ask me here.time c.args.session c.args.command)
    (sent.Reply c.args.session reply.Unavailable) s
    (λ x b.
    ask-nobody me here.time w v x (under_way me here.time w v s x b) c.args.command c.args.session (sym c.is_leading.ensures ∙ c.if-is_leading.false) (sym c.is_peon.ensures ∙ c.if-is_peon.false)
    ∙ ap (λ (y : Course). Ok (say (sent.Reply c.args.session reply.Unavailable ∷ []) y)) (same me here.time w v s x b))
    c.in_ok-answered.field-0 c.in_ok-answered.ensures
