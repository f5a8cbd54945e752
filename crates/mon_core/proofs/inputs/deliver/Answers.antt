use Rattle.std.proofs.Common.{◌≡◌, true, Result, ap, sym, subst, ◌∙◌}
use Rattle.mon_bounds.specs.Fitting.{IsValidInput}
use Rattle.mon_msg.specs.Protocol.Course.{Course}
use Rattle.mon_msg.specs.Protocol.Readings.{readings_of, shared_entries}
use Rattle.mon_msg.specs.Protocol.Table.{at_rest, running}
use Rattle.mon_msg.specs.declared.input.Input.{Input}
use Rattle.mon_plan.specs.Inputs.{input_is_short, row}
use Rattle.mon_types.specs.declared.names.Which.{Which}
use Rattle.mon_event.specs.Events.{Reaches}
use Rattle.mon_event.specs.Roles.{role_of}
use Rattle.mon_event.specs.State.{state_of}
use Rattle.mon_core.proofs.Coming.{drops, heard, heard_fits, nobodys, not_heard}
use Rattle.mon_core.proofs.inputs.deliver.Goals as goal

pub returns-then-not-heard : goal.returns-then-not-heard
returns-then-not-heard c =
    let me = c.args.here.now.me.now in
    let m = c.args.here.now.kv.now in
    let x = at_rest (readings_of m) (state_of c.args.event.now.state) in
    drops me m c.args.event.now c.requires.ready (running me (shared_entries m) c.args.here.now.time c.args.input.now x)
    (ap (λ (came : Input). running me (shared_entries m) c.args.here.now.time came x) c.requires.is
    ∙ not_heard me (shared_entries m) c.args.here.now.time c.args.message.now x (sym c.is_heard-heard.ensures ∙ c.if-not-heard.true))

pub answer-requires-clause-input : goal.answer-requires-clause-input
answer-requires-clause-input c =
    let me = c.args.here.now.me.now in
    record {
      role = ap role_of c.requires.is ∙ sym c.hearer.ensures ∙ c.in-Some.is;
      comes =
          subst (λ (came : Input). input_is_short me.member.monitors came ≡ true) (sym c.requires.is)
          (heard_fits me c.args.message.now (sym c.is_heard-heard.ensures ∙ c.if-not-heard.false) (subst IsValidInput c.requires.is c.requires.comes));
    }

pub returns-in-Some : goal.returns-in-Some
returns-in-Some c =
    let me = c.args.here.now.me.now in
    let m = c.args.here.now.kv.now in
    let x = at_rest (readings_of m) (state_of c.args.event.now.state) in
    subst (λ (r : Result Course Which). Reaches (readings_of m) r c.answer.new.event c.answer.result)
    (sym
    (ap (λ (came : Input). running me (shared_entries m) c.args.here.now.time came x) c.requires.is
    ∙ heard me (shared_entries m) c.args.here.now.time c.args.message.now x (sym c.is_heard-heard.ensures ∙ c.if-not-heard.false)
    ∙ sym (ap (λ (came : Input). row me (shared_entries m) c.args.here.now.time came x) c.requires.is)))
    c.answer.ensures

pub returns-in-None : goal.returns-in-None
returns-in-None c =
    let me = c.args.here.now.me.now in
    let m = c.args.here.now.kv.now in
    let x = at_rest (readings_of m) (state_of c.args.event.now.state) in
    drops me m c.args.event.now c.requires.ready (running me (shared_entries m) c.args.here.now.time c.args.input.now x)
    (ap (λ (came : Input). running me (shared_entries m) c.args.here.now.time came x) c.requires.is
    ∙ nobodys me (shared_entries m) c.args.here.now.time c.args.message.now x (sym c.is_heard-heard.ensures ∙ c.if-not-heard.false)
    (sym c.hearer.ensures ∙ c.in-None.is))
