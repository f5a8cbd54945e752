use Rattle.std.proofs.Common.{Ok, map, refl, sym, ap, subst, ◌∙◌}
use Rattle.std.specs.Option.{option_map}
use Rattle.schedule_text.specs.declared.event.Event.TheVariants as events
use Rattle.trace_text.specs.declared.step.StepLine.{StepLine}
use Rattle.mon_world.specs.Represented.{Does, arrival_of, envelope_of}
use Rattle.mon_world.specs.Step.{step}
use Rattle.mon_world.proofs.Arriving.{arrives}
use Rattle.mon_world.proofs.Stepping.{none_met}
use Rattle.mon_world.proofs.Passing.{none_passes}
use Rattle.mon_world.proofs.world.World.plain.Goals as goal

pub returns-in-None-clause-does : goal.returns-in-None-clause-does
returns-in-None-clause-does c = λ ms d s.
    let is = sym (c.in_ok-arriving.ensures d.world (ap (map envelope_of) c.as_slice.ensures.value ∙ s.messages)) ∙ ap (option_map arrival_of) c.in-None.is in
    subst (λ (line : StepLine). Does ms (Ok line) c.args.self.now (step ms d (events.Plain c.args.event.now))) (sym c.still.ensures) (none_met ms c.args.self.now d c.args.event.now s is)

pub deliver-line-requires-clause-within : goal.deliver-line-requires-clause-within
deliver-line-requires-clause-within c =
    let w = c.requires.world in
    let is = sym (c.in_ok-arriving.ensures w.1.world (ap (map envelope_of) c.as_slice.ensures.value ∙ w.2.messages)) ∙ ap (option_map arrival_of) c.in-Some.is in
    (arrives w.0 c.args.self.now w.1 c.args.event.now (arrival_of c.in-Some.arrival) w.2 c.requires.fits is).0

pub deliver-line-requires-clause-comes : goal.deliver-line-requires-clause-comes
deliver-line-requires-clause-comes c =
    let w = c.requires.world in
    let is = sym (c.in_ok-arriving.ensures w.1.world (ap (map envelope_of) c.as_slice.ensures.value ∙ w.2.messages)) ∙ ap (option_map arrival_of) c.in-Some.is in
    (arrives w.0 c.args.self.now w.1 c.args.event.now (arrival_of c.in-Some.arrival) w.2 c.requires.fits is).1

pub returns-in-Some-clause-does : goal.returns-in-Some-clause-does
returns-in-Some-clause-does c = λ ms d s.
    let is = sym (c.in_ok-arriving.ensures d.world (ap (map envelope_of) c.as_slice.ensures.value ∙ s.messages)) ∙ ap (option_map arrival_of) c.in-Some.is in
    c.deliver-line.ensures.does ms d c.args.event.now s is

pub returns-in-None-clause-any_time : goal.returns-in-None-clause-any_time
returns-in-None-clause-any_time c = λ ms d next s t. none_passes ms c.args.self.now c.args.self.now d next s t refl

pub returns-in-Some-clause-any_time : goal.returns-in-Some-clause-any_time
returns-in-Some-clause-any_time c = λ ms d next s t. c.deliver-line.ensures.any_time ms d next s t
