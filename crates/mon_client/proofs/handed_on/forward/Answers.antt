use Rattle.std.proofs.Common.{Ok, ap, sym, subst, ◌∙◌}
use Rattle.mon_bytes.specs.declared.command.Command.{Command}
use Rattle.mon_msg.specs.Protocol.Commands.{at_leader, hear_forward}
use Rattle.mon_msg.specs.Protocol.Course.{Course}
use Rattle.mon_msg.specs.Protocol.Readings.{readings_of}
use Rattle.mon_msg.specs.declared.plan.Origin.TheVariants as origin
use Rattle.mon_client.specs.Rows.{ByRowOnce}
use Rattle.mon_client.proofs.Planned.{keeps}
use Rattle.mon_client.proofs.CommandLaws.{Met, same, once}
use Rattle.mon_client.proofs.HandedOnLaws.{forward-of_others, forward-again, forward-new}
use Rattle.mon_client.proofs.handed_on.forward.Goals as goal

pub returns-then-not-is_of_member-clause-plans : goal.returns-then-not-is_of_member-clause-plans
returns-then-not-is_of_member-clause-plans c =
    let here = c.args.here.now in
    let me = here.me.now in
    let w = readings_of here.kv.now in
    let v = here.view.now in
    let s = c.args.clients in
    keeps me here.time (Met me here.time w v s) (hear_forward me here.time c.args.from c.args.epoch c.args.seq c.args.command.now) s
    (λ x b.
    forward-of_others me here.time w v s x b c.args.from c.args.epoch c.args.seq c.args.command.now (sym c.is_of_member.ensures ∙ c.if-not-is_of_member.true)
    ∙ ap (λ (y : Course). Ok y) (same me here.time w v s x b))
    c.stay.result c.stay.ensures

pub returns-then-not-is_new-clause-plans : goal.returns-then-not-is_new-clause-plans
returns-then-not-is_new-clause-plans c =
    let here = c.args.here.now in
    let me = here.me.now in
    let w = readings_of here.kv.now in
    let v = here.view.now in
    let s = c.args.clients in
    keeps me here.time (Met me here.time w v s) (hear_forward me here.time c.args.from c.args.epoch c.args.seq c.args.command.now) s
    (λ x b.
    forward-again me here.time w v s x b c.args.from c.args.epoch c.args.seq c.args.command.now (sym c.is_of_member.ensures ∙ c.if-not-is_of_member.false)
    (sym c.is_new.ensures ∙ c.if-not-is_new.true)
    ∙ ap (λ (y : Course). Ok y) (same me here.time w v s x b))
    c.stay-then-not-is_new.result c.stay-then-not-is_new.ensures

pub returns-clause-plans : goal.returns-clause-plans
returns-clause-plans c =
    let here = c.args.here.now in
    let me = here.me.now in
    let w = readings_of here.kv.now in
    let v = here.view.now in
    let s = c.args.clients in
    let o = origin.Forwarded c.args.from c.args.seq in
    let after = c.mark_taken.result in
    once me here.time w v s after (at_leader me here.time c.args.command.now o) (hear_forward me here.time c.args.from c.args.epoch c.args.seq c.args.command.now) c.at_leader.result
    (λ x b.
    forward-new me here.time w v s x b c.args.from c.args.epoch c.args.seq c.args.command.now (sym c.is_of_member.ensures ∙ c.if-not-is_of_member.false)
    (sym c.is_new.ensures ∙ c.if-not-is_new.false) after c.mark_taken.ensures)
    (subst (λ (k : Command). ByRowOnce here after (at_leader me here.time k o) c.at_leader.result) c.in_ok-command.ensures c.at_leader.ensures.plans)
