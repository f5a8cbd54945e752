use Rattle.std.proofs.Common.{map, sym, ap, ◌∙◌}
use Rattle.std.specs.Option.{option_map}
use Rattle.mon_world.specs.Events.{plain_event}
use Rattle.mon_world.specs.Crashes.{injected_of}
use Rattle.mon_world.specs.Represented.{arrival_of, envelope_of}
use Rattle.mon_world.proofs.Arriving.{arrives}
use Rattle.mon_world.proofs.Crashing.{none_crashed}
use Rattle.mon_world.proofs.world.World.inject.Goals as goal

pub returns-in-None : goal.returns-in-None
returns-in-None c = λ ms d s.
    let is = sym (c.in_ok-arriving.ensures d.world (ap (map envelope_of) c.as_slice.ensures.value ∙ s.messages)) ∙ ap (option_map arrival_of) c.in-None.is in
    none_crashed ms c.args.self.now d (injected_of c.args.injected) (plain_event c.args.event.now) s is

pub deliver_with_fault-fault_outcome-requires-clause-within : goal.deliver_with_fault-fault_outcome-requires-clause-within
deliver_with_fault-fault_outcome-requires-clause-within c =
    let w = c.requires.world in
    let is = sym (c.in_ok-arriving.ensures w.1.world (ap (map envelope_of) c.as_slice.ensures.value ∙ w.2.messages)) ∙ ap (option_map arrival_of) c.in-Some.is in
    (arrives w.0 c.args.self.now w.1 c.args.event.now (arrival_of c.in-Some.arrival) w.2 c.requires.fits is).0

pub deliver_with_fault-fault_outcome-requires-clause-comes : goal.deliver_with_fault-fault_outcome-requires-clause-comes
deliver_with_fault-fault_outcome-requires-clause-comes c =
    let w = c.requires.world in
    let is = sym (c.in_ok-arriving.ensures w.1.world (ap (map envelope_of) c.as_slice.ensures.value ∙ w.2.messages)) ∙ ap (option_map arrival_of) c.in-Some.is in
    (arrives w.0 c.args.self.now w.1 c.args.event.now (arrival_of c.in-Some.arrival) w.2 c.requires.fits is).1

pub returns-in-Some : goal.returns-in-Some
returns-in-Some c = λ ms d s.
    let is = sym (c.in_ok-arriving.ensures d.world (ap (map envelope_of) c.as_slice.ensures.value ∙ s.messages)) ∙ ap (option_map arrival_of) c.in-Some.is in
    c.deliver_with_fault-fault_outcome.ensures ms d (plain_event c.args.event.now) s is
