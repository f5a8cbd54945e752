use Rattle.std.proofs.Common.{◌≡◌, Err, ap, refl, subst, sym, ◌∙◌}
use Rattle.std.specs.Io.KnownBytes.{Appends}
use Rattle.mon_link.specs.Whole.{AppendsPrefix}
use Rattle.cephmon_run.specs.Run.{MadeCause}
use Rattle.cephmon_run.specs.Outside.{Outside}
use Rattle.cephmon_run.specs.Replay.{fault_of, status_of}
use Rattle.cephmon_run.specs.declared.replay.ReplayStop.TheVariants as stop
use Rattle.cephmon_run.proofs.Runs.{made_done, made_fault, made_stopped}
use Rattle.cephmon_run.proofs.running.run_made.Goals as goal

pub returns-in-Err : goal.returns-in-Err
returns-in-Err g c = λ left read_faults.
    let same : Outside = record { left = left; held = g.K.Sink.held c.args.sink.now; read_faults = read_faults; write_faults = g.K.Sink.faults c.args.sink.now } in
    let is : c.status_of.result ≡ status_of (stop.World c.in-Err.stop) = c.status_of.ensures ∙ ap status_of c.from.ensures in
    subst (MadeCause c.args.number c.args.events same same) (sym is)
    (made_stopped c.in-Err.stop c.args.number c.args.events same same c.requires.most (record { left = refl; faults = refl }) (refl, refl) c.in-Err.ensures.stops)

pub returns-in-Ok-write_all : goal.returns-in-Ok-write_all
returns-in-Ok-write_all g c = λ left read_faults.
    let before : Outside = record { left = left; held = g.K.Sink.held c.args.sink.now; read_faults = read_faults; write_faults = g.K.Sink.faults c.args.sink.now } in
    let after : Outside = record { left = left; held = g.K.Sink.held c.write_all.new.sink; read_faults = read_faults; write_faults = g.K.Sink.faults c.write_all.new.sink } in
    made_done c.args.number c.args.events before after c.in-Ok.line.items c.requires.most (record { left = refl; faults = refl }) c.in-Ok.ensures.line
    (subst (Appends before.held after.held) c.as_slice.ensures.value c.in-Ok-write_all.ensures.whole)

pub returns : goal.returns
returns g c = λ left read_faults.
    let before : Outside = record { left = left; held = g.K.Sink.held c.args.sink.now; read_faults = read_faults; write_faults = g.K.Sink.faults c.args.sink.now } in
    let after : Outside = record { left = left; held = g.K.Sink.held c.write_all.new.sink; read_faults = read_faults; write_faults = g.K.Sink.faults c.write_all.new.sink } in
    let e = c.in-Err-write_all.stop in
    let is : c.status_of-in-Err-write_all.result ≡ status_of (fault_of e) = c.status_of-in-Err-write_all.ensures ∙ ap status_of c.from-in-Err-write_all.ensures in
    subst (MadeCause c.args.number c.args.events before after) (sym is)
    (made_fault e c.args.number c.args.events before after c.in-Ok.line.items c.requires.most (record { left = refl; faults = refl }) c.in-Ok.ensures.line
    (subst (AppendsPrefix before.held after.held) c.as_slice.ensures.value c.in-Err-write_all.ensures.part) (λ failed. c.in-Err-write_all.ensures.cause.failed (ap Err failed)))
