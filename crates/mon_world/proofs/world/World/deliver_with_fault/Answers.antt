use Rattle.std.proofs.Common.{Option, Ok, Err, Result, sym, ap, subst, refl, ◌∙◌}
use Rattle.std.proofs.lemmas.Result.{err_from_is_err_and}
use Rattle.mon_world.specs.declared.meeting.Crash.{Crash}
use Rattle.mon_world.specs.declared.stop.WorldStop.{WorldStop}
use Rattle.mon_world.specs.declared.world.FaultOutcome.{FaultOutcome}
use Rattle.mon_world.specs.Crashes.{injected_of}
use Rattle.mon_world.specs.Represented.{DoesInjected, arrival_of}
use Rattle.mon_world.proofs.Arriving.{reaches, standing_at}
use Rattle.mon_world.proofs.Crashing.{CrashesAt, crashed_down, crashed_so, crashed_stop}
use Rattle.mon_world.proofs.world.World.deliver_with_fault.Goals as goal

pub fail_disk_at-requires-clause-stands : goal.fail_disk_at-requires-clause-stands
fail_disk_at-requires-clause-stands c =
    let w = c.requires.world in
    standing_at w.0 c.args.self.now w.1 c.args.arrival.now.rank w.2 c.requires.within

pub returns-in_err-crash : goal.returns-in_err-crash
returns-in_err-crash c = λ ms d p s comes.
    let a = arrival_of c.args.arrival.now in
    let old = c.args.self.now in
    let mid = record old { monitors = c.fail_disk_at.new.monitors } in
    let e = err_from_is_err_and c.from_residual.result c.from_residual.ensures.1 in
    subst (λ (r : Result FaultOutcome WorldStop). DoesInjected ms r mid d (injected_of c.args.injected) p) (sym (e.1 ∙ ap Err e.2))
    (crashed_stop ms old mid d c.args.injected p a s (reaches ms old d a s c.requires.within) comes c.in_err-crash.ensures.count c.in_err-crash.field-0.0 c.in_err-crash.ensures.meets)

pub returns-in_default : goal.returns-in_default
returns-in_default c = λ ms d p s comes.
    let a = arrival_of c.args.arrival.now in
    let old = c.args.self.now in
    let mid = record old { monitors = c.fail_disk_at.new.monitors } in
    let crashed = subst (λ (o : Option Crash). CrashesAt c.args.injected old.monitors.items mid.monitors.items a (Ok o)) c.in_default.is c.in_ok-crash.ensures.meets in
    crashed_down ms old mid d c.args.injected p a s (reaches ms old d a s c.requires.within) comes c.in_ok-crash.ensures.count c.in_ok-crash.ensures.others refl crashed refl

pub returns : goal.returns
returns c = λ ms d p s comes.
    let a = arrival_of c.args.arrival.now in
    let old = c.args.self.now in
    let mid = record old { monitors = c.fail_disk_at.new.monitors } in
    let crashed = subst (λ (o : Option Crash). CrashesAt c.args.injected old.monitors.items mid.monitors.items a (Ok o)) c.in-Some.is c.in_ok-crash.ensures.meets in
    crashed_so ms old mid c.note_crash.new.self d c.args.injected p a c.in-Some.crash c.note_crash.result s (reaches ms old d a s c.requires.within) comes c.in_ok-crash.ensures.count c.in_ok-crash.ensures.others
    refl refl crashed c.note_crash.ensures
