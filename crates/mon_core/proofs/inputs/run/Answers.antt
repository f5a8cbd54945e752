use Rattle.std.proofs.Common.{Result, Ok, ap, sym, subst, ◌∙◌}
use Rattle.mon_msg.specs.Protocol.Course.{Course}
use Rattle.mon_msg.specs.Protocol.Readings.{readings_of, shared_entries}
use Rattle.mon_msg.specs.Protocol.Table.{at_rest, running}
use Rattle.mon_msg.specs.declared.input.Input.{Input}
use Rattle.mon_plan.specs.Inputs.{row}
use Rattle.mon_types.specs.declared.names.Which.{Which}
use Rattle.mon_event.specs.Events.{Reaches}
use Rattle.mon_event.specs.State.{state_of}
use Rattle.mon_core.proofs.Coming.{drops, not_started, started}
use Rattle.mon_core.proofs.inputs.run.Goals as goal

pub returns-then-is_booting : goal.returns-then-is_booting
returns-then-is_booting c =
    not_started c.args.here.now.me.now c.args.here.now.kv.now c.args.here.now.time c.args.event.now c.args.input.now
    c.before_start.new.event c.before_start.result (sym c.is_booting.ensures ∙ c.if-is_booting.true) c.before_start.ensures

pub returns-in-Start : goal.returns-in-Start
returns-in-Start c =
    let me = c.args.here.now.me.now in
    let m = c.args.here.now.kv.now in
    let e = c.args.event.now in
    let runs : Input → Result Course Which = λ came. running me (shared_entries m) c.args.here.now.time came (at_rest (readings_of m) (state_of e.state)) in
    started me m c.args.here.now.time e c.args.input.now e (Ok tt) (sym c.is_booting.ensures ∙ c.if-is_booting.false)
    (drops me m e c.requires.ready (runs c.args.input.now) (ap runs c.in-Start.is))

pub returns-in-Deliver : goal.returns-in-Deliver
returns-in-Deliver c =
    started c.args.here.now.me.now c.args.here.now.kv.now c.args.here.now.time c.args.event.now c.args.input.now
    c.deliver.new.event c.deliver.result (sym c.is_booting.ensures ∙ c.if-is_booting.false) c.deliver.ensures

pub returns-in-Timer : goal.returns-in-Timer
returns-in-Timer c =
    started c.args.here.now.me.now c.args.here.now.kv.now c.args.here.now.time c.args.event.now c.args.input.now
    c.ring.new.event c.ring.result (sym c.is_booting.ensures ∙ c.if-is_booting.false) c.ring.ensures

-- a client's request is one role's row
pub returns-in-Client : goal.returns-in-Client
returns-in-Client c =
    let me = c.args.here.now.me.now in
    let m = c.args.here.now.kv.now in
    let e = c.args.event.now in
    let x = at_rest (readings_of m) (state_of e.state) in
    let runs : Input → Result Course Which = λ came. running me (shared_entries m) c.args.here.now.time came x in
    let rows : Input → Result Course Which = λ came. row me (shared_entries m) c.args.here.now.time came x in
    started me m c.args.here.now.time e c.args.input.now c.answer.new.event c.answer.result (sym c.is_booting.ensures ∙ c.if-is_booting.false)
    (subst (λ (r : Result Course Which). Reaches (readings_of m) r c.answer.new.event c.answer.result)
    (sym (ap runs c.in-Client.is ∙ sym (ap rows c.in-Client.is))) c.answer.ensures)
