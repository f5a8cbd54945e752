use Rattle.std.proofs.Common.{None, refl}
use Rattle.mon_msg.specs.Protocol.Course.{in_phase, peon_is}
use Rattle.mon_msg.specs.Protocol.State.{State}
use Rattle.mon_msg.specs.declared.paxos.Peon.{Peon}
use Rattle.mon_wire.specs.declared.phase.Phase.TheVariants as phase
use Rattle.mon_event.specs.declared.event.Event.{Event}
use Rattle.mon_event.proofs.Going.{remembers, then_goes}
use Rattle.mon_event.proofs.event.Event.follow.Goals as goal

pub returns-clause-goes : goal.returns-clause-goes
returns-clause-goes c =
    let e = c.enter_phase.new.self in
    let after : Event = record e { state = c.follow.new.self } in
    let peon : Peon = record { leader = c.args.leader; quorum = c.args.quorum; lease = None } in
    then_goes c.args.self.now e after (in_phase phase.Peon) (peon_is peon) c.enter_phase.ensures.goes
    (remembers e after (λ (s : State). record s { peon = peon }) refl refl c.follow.ensures)
