use Rattle.std.proofs.Common.{◌≡◌, length, sym, subst, ◌∙◌}
use Rattle.mon_site.specs.declared.injected.InjectedFault.{InjectedFault}
use Rattle.schedule_text.specs.declared.event.Event.{Event}
use Rattle.schedule_text.specs.declared.event.Event.TheVariants as events
use Rattle.mon_world.specs.declared.world.Fault.TheVariants as fault
use Rattle.mon_world.specs.Crashes.{MayBe}
use Rattle.mon_world.specs.Represented.{Does, Fits}
use Rattle.mon_world.specs.Step.{step}
use Rattle.mon_world.specs.Reporting.{faulty_event}
use Rattle.mon_world.proofs.Coming.{injected_fits}
use Rattle.mon_world.proofs.world.World.happen.Goals as goal

pub plain-requires-clause-fits : goal.plain-requires-clause-fits
plain-requires-clause-fits c =
    let n = length c.args.self.now.monitors.items in
    subst (λ (e : Event). Fits n e) c.in-Plain.is c.requires.fits

pub returns-in-Plain-clause-does : goal.returns-in-Plain-clause-does
returns-in-Plain-clause-does c = λ ms d s.
    subst (λ (e : Event). Does ms c.plain.result c.plain.new.self (step ms d e)) (sym c.in-Plain.is) (c.plain.ensures.does ms d s)

pub run_with_fault-requires-clause-fits : goal.run_with_fault-requires-clause-fits
run_with_fault-requires-clause-fits c =
    let n = length c.args.self.now.monitors.items in
    (injected_fits n c.in-Crash.disk c.in-Crash.call c.in-Crash.image c.in-Crash.event (subst (λ (e : Event). Fits n e) c.in-Crash.is c.requires.fits)).plain_fits_too

pub run_with_fault-requires-clause-may : goal.run_with_fault-requires-clause-may
run_with_fault-requires-clause-may c =
    let n = length c.args.self.now.monitors.items in
    subst MayBe (sym c.injected_at.ensures) (injected_fits n c.in-Crash.disk c.in-Crash.call c.in-Crash.image c.in-Crash.event (subst (λ (e : Event). Fits n e) c.in-Crash.is c.requires.fits)).may

pub returns-in-Crash-clause-does : goal.returns-in-Crash-clause-does
returns-in-Crash-clause-does c = λ ms d s.
    subst (λ (e : Event). Does ms c.run_with_fault.result c.run_with_fault.new.self (step ms d e)) (sym c.in-Crash.is)
    (subst (λ (u : InjectedFault). Does ms c.run_with_fault.result c.run_with_fault.new.self (step ms d (faulty_event fault.Crash u c.in-Crash.event))) c.injected_at.ensures (c.run_with_fault.ensures ms d s))

pub run_with_fault-requires-in-Fail-clause-fits : goal.run_with_fault-requires-in-Fail-clause-fits
run_with_fault-requires-in-Fail-clause-fits c =
    let n = length c.args.self.now.monitors.items in
    (injected_fits n c.in-Fail.disk c.in-Fail.call c.in-Fail.image c.in-Fail.event (subst (λ (e : Event). Fits n e) c.in-Fail.is c.requires.fits)).plain_fits_too

pub run_with_fault-requires-in-Fail-clause-may : goal.run_with_fault-requires-in-Fail-clause-may
run_with_fault-requires-in-Fail-clause-may c =
    let n = length c.args.self.now.monitors.items in
    subst MayBe (sym c.injected_at-in-Fail.ensures) (injected_fits n c.in-Fail.disk c.in-Fail.call c.in-Fail.image c.in-Fail.event (subst (λ (e : Event). Fits n e) c.in-Fail.is c.requires.fits)).may

pub returns-in-Fail-clause-does : goal.returns-in-Fail-clause-does
returns-in-Fail-clause-does c = λ ms d s.
    subst (λ (e : Event). Does ms c.run_with_fault-in-Fail.result c.run_with_fault-in-Fail.new.self (step ms d e)) (sym c.in-Fail.is)
    (subst (λ (u : InjectedFault). Does ms c.run_with_fault-in-Fail.result c.run_with_fault-in-Fail.new.self (step ms d (faulty_event fault.Fail u c.in-Fail.event))) c.injected_at-in-Fail.ensures (c.run_with_fault-in-Fail.ensures ms d s))

pub returns-in-Plain-clause-any_time : goal.returns-in-Plain-clause-any_time
returns-in-Plain-clause-any_time c = λ ms d next p is s t. c.plain.ensures.any_time ms d next s t

pub returns-in-Crash-clause-any_time : goal.returns-in-Crash-clause-any_time
returns-in-Crash-clause-any_time c = λ ms d next p is s t.
    let other : events.Crash c.in-Crash.disk c.in-Crash.call c.in-Crash.image c.in-Crash.event ≡ events.Plain p = sym c.in-Crash.is ∙ is in absurd cc

pub returns-in-Fail-clause-any_time : goal.returns-in-Fail-clause-any_time
returns-in-Fail-clause-any_time c = λ ms d next p is s t.
    let other : events.Fail c.in-Fail.disk c.in-Fail.call c.in-Fail.image c.in-Fail.event ≡ events.Plain p = sym c.in-Fail.is ∙ is in absurd cc
