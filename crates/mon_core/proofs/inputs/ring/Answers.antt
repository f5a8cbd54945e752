use Rattle.std.proofs.Common.{◌≡◌, ℕ, true, List, Option, Some, Result, refl, ap, sym, subst, ◌∙◌}
use Rattle.mon_msg.specs.Protocol.Course.{Course}
use Rattle.mon_msg.specs.Protocol.Readings.{readings_of, shared_entries}
use Rattle.mon_msg.specs.Protocol.Table.{at_rest, running}
use Rattle.mon_msg.specs.declared.input.Input.TheVariants as input
use Rattle.mon_msg.specs.declared.input.Input.{Input}
use Rattle.mon_plan.specs.Inputs.{input_is_short, row}
use Rattle.mon_types.specs.declared.names.Which.{Which}
use Rattle.mon_event.specs.Events.{Reaches}
use Rattle.mon_event.specs.Roles.{role_of}
use Rattle.mon_event.specs.State.{state_of}
use Rattle.mon_core.proofs.Coming.{armed, drops, not_armed}
use Rattle.mon_core.proofs.inputs.ring.Goals as goal

pub returns-then-not-is_armed : goal.returns-then-not-is_armed
returns-then-not-is_armed c =
    let me = c.args.here.now.me.now in
    let m = c.args.here.now.kv.now in
    let x = at_rest (readings_of m) (state_of c.args.event.now.state) in
    drops me m c.args.event.now c.requires.ready (running me (shared_entries m) c.args.here.now.time c.args.input.now x)
    (ap (λ (came : Input). running me (shared_entries m) c.args.here.now.time came x) c.requires.is
    ∙ not_armed me (shared_entries m) c.args.here.now.time c.args.kind x (sym c.is_armed.ensures ∙ c.if-not-is_armed.true))

pub answer-requires-clause-input : goal.answer-requires-clause-input
answer-requires-clause-input c = record {
  role = ap role_of c.requires.is ∙ ap Some (sym c.woken_by.ensures);
  comes = subst (λ (came : Input). input_is_short c.args.here.now.me.now.member.monitors came ≡ true) (sym c.requires.is) refl;
}

pub answer-requires-clause-ready : goal.answer-requires-clause-ready
answer-requires-clause-ready c =
    let r = c.requires.ready in
    record {
      unwritten = r.unwritten;
      unsent = r.unsent;
      remembers = record {
        placed = r.remembers.placed;
        elector = r.remembers.elector;
        leader = r.remembers.leader;
        peon = r.remembers.peon;
        clients = r.remembers.clients;
        requester = r.remembers.requester;
      };
    }

pub returns : goal.returns
returns c =
    let me = c.args.here.now.me.now in
    let m = c.args.here.now.kv.now in
    let w = readings_of m in
    let s = state_of c.args.event.now.state in
    let x = at_rest w s in
    subst (λ (r : Result Course Which). Reaches w r c.answer.new.event c.answer.result)
    (sym
    (ap (λ (came : Input). running me (shared_entries m) c.args.here.now.time came x) c.requires.is
    ∙ armed me (shared_entries m) c.args.here.now.time c.args.kind x (sym c.is_armed.ensures ∙ c.if-not-is_armed.false)
    ∙ sym
    (ap (λ (came : Input). row me (shared_entries m) c.args.here.now.time came (at_rest w (record s { timers = c.disarm.new.self }))) c.requires.is
    ∙ ap
    (λ (timers : List (Option ℕ)). row me (shared_entries m) c.args.here.now.time (input.Timer c.args.kind) (at_rest w (record s { timers = timers })))
    c.disarm.ensures)))
    c.answer.ensures
