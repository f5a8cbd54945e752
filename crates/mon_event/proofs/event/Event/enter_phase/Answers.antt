use Rattle.std.proofs.Common.{refl}
use Rattle.mon_msg.specs.Protocol.Course.{timers_in}
use Rattle.mon_msg.specs.Protocol.State.{State}
use Rattle.mon_event.specs.declared.event.Event.{Event}
use Rattle.mon_event.proofs.Going.{remembers}
use Rattle.mon_event.proofs.event.Event.enter_phase.Goals as goal

pub returns-clause-goes : goal.returns-clause-goes
returns-clause-goes c =
    let e = c.args.self.now in
    let after : Event = record e { state = c.enter_phase.new.self } in
    remembers e after (λ (s : State). record s { phase = c.args.phase; timers = timers_in c.args.phase s }) refl refl c.enter_phase.ensures
