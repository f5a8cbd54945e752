use Rattle.std.proofs.Common.{not, refl, ap}
use Rattle.mon_msg.specs.Protocol.Sets.{is_empty}
use Rattle.mon_msg.specs.Protocol.State.{State}
use Rattle.mon_plan.specs.Plans.{arm_all, all_armed, sending}
use Rattle.mon_event.specs.declared.event.Event.{Event}
use Rattle.mon_event.proofs.Going.{remembers, sends, then_goes}
use Rattle.mon_event.proofs.event.Event.end.Goals as goal

pub returns-clause-goes : goal.returns-clause-goes
returns-clause-goes c =
    let e = c.args.self.now in
    let ts = c.args.timers in
    let set : Event = record e { state = c.set_timers.new.self } in
    then_goes e set c.send.new.self (arm_all ts) (sending c.args.out)
    (remembers e set (λ (s : State). record s { timers = all_armed (not (is_empty s.clients.queue)) ts s.timers }) refl refl
    (rw c.as_slice.ensures at c.set_timers.ensures))
    (sends set c.send.new.self c.args.out c.in_ok-send.ensures)

pub returns-clause-written : goal.returns-clause-written
returns-clause-written c = ap (λ (e : Event). e.tx) c.in_ok-send.ensures
