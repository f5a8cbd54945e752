use Rattle.std.proofs.Common.{refl, ◌∙◌}
use Rattle.mon_event.specs.Events.{remembering}
use Rattle.mon_event.specs.declared.event.Event.{Event}
use Rattle.mon_event.proofs.Going.{carries, remembers}
use Rattle.mon_event.proofs.event.Event.carry_out.Goals as goal

pub returns : goal.returns
returns g c =
    let begun = c.begin.new.self in
    let p = c.args.plan in
    let put = g.S.RoleState.put in
    let set : Event = record begun { state = c.put_in.new.state } in
    carries (remembering put) c.args.self.now begun set c.end.new.self p c.in_ok-begin.ensures.goes
    (remembers begun set (put p.state) refl refl c.put_in.ensures) c.in_ok-end.ensures.goes
    (c.in_ok-end.ensures.written ∙ c.in_ok-begin.ensures.written)
