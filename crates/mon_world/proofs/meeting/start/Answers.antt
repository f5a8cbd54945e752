use Rattle.std.proofs.Common.{None, subst}
use Rattle.mon_msg.specs.Protocol.State.{booting}
use Rattle.mon_msg.specs.declared.input.Input.{Input}
use Rattle.quorum_model.specs.Files.{after_opening}
use Rattle.mon_world.specs.Meeting.{Handles}
use Rattle.mon_world.proofs.Passing.{started_passes}
use Rattle.mon_world.proofs.meeting.start.Goals as goal

pub handle_input-requires-clause-up : goal.handle_input-requires-clause-up
handle_input-requires-clause-up c =
    let stands = c.requires.stands in
    (stands.0, stands.1, booting stands.0.member.rank, after_opening stands.3, c.in_ok-start.ensures.stands stands.0 stands.1 stands.2 stands.3 stands.4)

pub returns-clause-handles : goal.returns-clause-handles
returns-clause-handles c = λ me m s f h.
    let starting = booting me.member.rank in
    subst (λ (came : Input). Handles me c.args.at m starting (after_opening f) None came c.handle_input.new.monitor c.handle_input.result) c.requires.start
    (c.handle_input.ensures.handles me m starting (after_opening f) (c.in_ok-start.ensures.stands me m s f h))

pub returns-clause-passes : goal.returns-clause-passes
returns-clause-passes c = λ me m s f h.
    let starting = booting me.member.rank in
    started_passes me m c.args.monitor.now c.start.new.self c.handle_input.new.monitor c.handle_input.result (c.in_ok-start.ensures.passes me m s f h)
    (c.handle_input.ensures.passes me m starting (after_opening f) (c.in_ok-start.ensures.stands me m s f h))
