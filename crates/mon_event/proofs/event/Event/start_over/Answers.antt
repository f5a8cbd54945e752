use Rattle.std.proofs.Common.{refl}
use Rattle.mon_msg.specs.Protocol.Course.{in_phase, forget_clients}
use Rattle.mon_msg.specs.Protocol.State.{State, no_clients}
use Rattle.mon_event.specs.declared.event.Event.{Event}
use Rattle.mon_event.proofs.Going.{remembers, then_goes}
use Rattle.mon_event.proofs.event.Event.start_over.Goals as goal

pub returns-clause-goes : goal.returns-clause-goes
returns-clause-goes c =
    let e = c.enter_phase.new.self in
    let after : Event = record e { state = c.forget_clients.new.self } in
    then_goes c.args.self.now e after (in_phase c.args.phase) forget_clients c.enter_phase.ensures.goes
    (remembers e after (λ (s : State). record s { clients = no_clients }) refl refl c.forget_clients.ensures)
