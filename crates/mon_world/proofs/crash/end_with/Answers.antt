use Rattle.std.proofs.Common.{ap, sym, subst, ◌∙◌}
use Rattle.mon_tx.specs.Map.{Store, apply}
use Rattle.mon_world.specs.Crashes.{written}
use Rattle.mon_world.specs.Stops.{IsntKept}
use Rattle.mon_world.specs.declared.stop.WorldStop.{WorldStop}
use Rattle.mon_world.proofs.Ending.{settled}
use Rattle.mon_world.proofs.Stopping.{can_stop, isnt_kept}
use Rattle.mon_world.proofs.crash.end_with.Goals as goal

pub written_by-requires : goal.written_by-requires
written_by-requires c = c.requires.fault.3.unbroken

pub finish-requires-clause-unbroken : goal.finish-requires-clause-unbroken
finish-requires-clause-unbroken c = c.requires.fault.3.unbroken

pub finish-requires-clause-sound : goal.finish-requires-clause-sound
finish-requires-clause-sound c = λ _. c.requires.fault.3.sound

pub stop_of-requires : goal.stop_of-requires
stop_of-requires c =
    let g = c.requires.fault in
    can_stop g.1 c.args.tx.now c.in-Err.stop c.requires.short (c.in-Err.ensures g.0 g.1 g.2 g.3)

pub returns-in_ok-settle_both-in-Ok : goal.returns-in_ok-settle_both-in-Ok
returns-in_ok-settle_both-in-Ok c member m f faulty =
    let ops = c.args.tx.now in
    let ended = c.in-Ok.field-0 in
    let is = c.in_ok-written.ensures ∙ ap (λ (m : Store). written (apply ops m)) faulty.map in
    settled c.args.injected member m f ops ended.disks.a ended.disks.b ended.kept c.in_ok-written.written _ (c.in-Ok.ensures member m f faulty) is c.then_some.ensures (c.in_ok-settle_both-in-Ok.ensures member)

pub returns-in-Err : goal.returns-in-Err
returns-in-Err c member m f faulty =
    let ops = c.args.tx.now in
    let h = c.in-Err.ensures member m f faulty in
    subst (λ (e : WorldStop). IsntKept ops m e) (sym c.stop_of.ensures) (isnt_kept m ops c.in-Err.stop (can_stop m ops c.in-Err.stop c.requires.short h) h)
