use Rattle.std.proofs.Common.{◌++◌, List, is_some, refl, ap, ◌∙◌}
use Rattle.mon_msg.specs.Protocol.Course.{arm_if, elector_is}
use Rattle.mon_msg.specs.Protocol.Entering.{scores_count}
use Rattle.mon_msg.specs.Protocol.Readings.{readings_of}
use Rattle.mon_msg.specs.Protocol.State.{State}
use Rattle.mon_msg.specs.Protocol.Table.{first_elector}
use Rattle.mon_msg.specs.declared.election.Elector.{Elector}
use Rattle.mon_wire.specs.declared.phase.Timer.TheVariants as timer
use Rattle.mon_plan.specs.Plans.{changed}
use Rattle.mon_tx.specs.declared.op.Op.{Op}
use Rattle.mon_event.specs.State.{state_of}
use Rattle.mon_event.specs.declared.event.Event.{Event}
use Rattle.mon_event.proofs.Going.{remembers, then_goes, writes}
use Rattle.mon_core.specs.Rows.{first_changes}
use Rattle.mon_core.proofs.inputs.count_start.Goals as goal

pub returns-clause-goes : goal.returns-clause-goes
returns-clause-goes c =
    let me = c.args.me.now in
    let e = c.args.event.now in
    let cs = first_changes c.args.boot (is_some (readings_of c.args.stored.now).epoch) in
    let elector : Elector = first_elector me c.args.now c.args.boot e.state.elector in
    let written = c.write.new.self in
    let measured : Event = record written { state = record written.state { elector = c.measuring-elector.result } } in
    then_goes e measured c.begin_to_ping.new.event (λ x. elector_is elector (changed cs x)) (arm_if (scores_count me.rule) c.args.now timer.Ping)
    (then_goes e written measured (changed cs) (elector_is elector)
    (writes e written c.in_ok-first.first cs c.in_ok-first.ensures.fit c.in_ok-first.ensures.changes c.in_ok-write.ensures)
    (remembers written measured (λ (s : State). record s { elector = elector }) refl refl
    (ap (λ (elector : Elector). record (state_of written.state) { elector = elector }) c.measuring-elector.ensures)))
    c.begin_to_ping.ensures.goes

pub returns-clause-written : goal.returns-clause-written
returns-clause-written c =
    c.begin_to_ping.ensures.written ∙ ap (λ (e : Event). e.tx) c.in_ok-write.ensures
    ∙ ap (λ (ops : List Op). c.args.event.now.tx ++ ops) c.in_ok-first.ensures.changes
