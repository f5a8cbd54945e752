use Rattle.std.proofs.Common.{◌≡◌, [], length, Ok, ap, sym, ◌∙◌, arith}
use Rattle.std.proofs.lemmas.Bool.{eqb-true, eqb-false}
use Rattle.std.proofs.lemmas.List.{nil_from_length}
use Rattle.mon_msg.specs.Protocol.Commands.{propose_due}
use Rattle.mon_msg.specs.Protocol.Course.{Course}
use Rattle.mon_msg.specs.Protocol.Proposing.{propose}
use Rattle.mon_msg.specs.Protocol.Readings.{readings_of}
use Rattle.mon_msg.specs.declared.clients.Clients.{Clients}
use Rattle.mon_client.proofs.Planned.{keeps}
use Rattle.mon_client.proofs.CommandLaws.{Met, same, once, under_way, due-not_free, due-free, next-none, next-first}
use Rattle.mon_client.proofs.commands.propose_due.Goals as goal

pub returns-then-not-may_propose-clause-plans : goal.returns-then-not-may_propose-clause-plans
returns-then-not-may_propose-clause-plans c =
    let here = c.args.here.now in
    let me = here.me.now in
    let w = readings_of here.kv.now in
    let v = here.view.now in
    let s = c.args.clients in
    keeps me here.time (Met me here.time w v s) (propose_due me here.time) s
    (λ x b.
    due-not_free me here.time w v x (under_way me here.time w v s x b) (sym c.may_propose.ensures ∙ c.if-not-may_propose.true)
    ∙ ap (λ (y : Course). Ok y) (same me here.time w v s x b))
    c.stay.result c.stay.ensures

pub returns-then-is_empty-clause-plans : goal.returns-then-is_empty-clause-plans
returns-then-is_empty-clause-plans c =
    let here = c.args.here.now in
    let me = here.me.now in
    let w = readings_of here.kv.now in
    let v = here.view.now in
    let s = c.args.clients in
    let none : s.queue ≡ [] = nil_from_length s.queue (eqb-true (length s.queue) 0 (sym c.is_empty.ensures ∙ c.if-is_empty.true)) in
    keeps me here.time (Met me here.time w v s) (propose_due me here.time) s
    (λ x b.
    due-free me here.time w v x (under_way me here.time w v s x b) (sym c.may_propose.ensures ∙ c.if-not-may_propose.false)
    ∙ next-none me here.time x (ap (λ (t : Clients). t.queue) b.role ∙ none)
    ∙ ap (λ (y : Course). Ok y) (same me here.time w v s x b))
    c.stay-then-is_empty.result c.stay-then-is_empty.ensures

pub take_first-first-requires : goal.take_first-first-requires
take_first-first-requires c =
    let some = eqb-false (length c.args.clients.queue) 0 (sym c.is_empty.ensures ∙ c.if-is_empty.false) in
    omega arith

pub returns-clause-plans : goal.returns-clause-plans
returns-clause-plans c =
    let here = c.args.here.now in
    let me = here.me.now in
    let w = readings_of here.kv.now in
    let v = here.view.now in
    let s = c.args.clients in
    let first = c.take_first-first.result.0 in
    let rest = c.take_first-first.result.1 in
    once me here.time w v s rest (propose me here.time first.command first.origin) (propose_due me here.time) c.propose-plan.result
    (λ x b.
    due-free me here.time w v x (under_way me here.time w v s x b) (sym c.may_propose.ensures ∙ c.if-not-may_propose.false)
    ∙ next-first me here.time x first rest (b.role ∙ c.take_first-first.ensures))
    c.propose-plan.ensures.plans
