use Rattle.std.proofs.Common.{Some, Err, refl, subst}
use Rattle.mon_disk.specs.Memory.{seen_of}
use Rattle.mon_disk.specs.MemoryDisk.{observed_of}
use Rattle.mon_journal.specs.Written.{owner_of}
use Rattle.mon_store.specs.declared.stop.OpenStop.{OpenStop}
use Rattle.mon_store.specs.OpeningCalls.{MakesBoth, opening_calls}
use Rattle.mon_store.specs.StoreView.{StoreView}
use Rattle.mon_site.proofs.Opened.{fails}
use Rattle.mon_site.proofs.Remaining.{well}
use Rattle.mon_site.proofs.opening.open.Goals as goal

pub returns-in-Ok : goal.returns-in-Ok
returns-in-Ok c m f ready =
    let s = c.in-Ok.store in
    let e = c.in-Ok.ensures in
    let a = c.args.disks.a in
    let b = c.args.disks.b in
    let w = well c.args.member m f a b s.side s.live s.other s.journal s.kv s.live.known c.args._injected.call c.args._injected.image (e.sound e.broken) e.answer e.calls (e.any_time refl refl) c.args._injected.disk ready in
    (w.beyond, record { unbroken = e.broken; sound = e.sound e.broken; form = w.form; owner = e.owner; map = w.map; files = w.files; upset = w.upset; calm = w.calm })

pub returns-in-DiskFault : goal.returns-in-DiskFault
returns-in-DiskFault c m f ready =
    let d = c.in-Err.field-0.disks in
    let a = c.args.disks.a in
    let b = c.args.disks.b in
    let w = fails c.args.member m f a b d.a d.b c.args._injected.call c.args._injected.image c.args._injected.disk ready
    (subst (λ (why : OpenStop). MakesBoth {T = StoreView} (opening_calls (owner_of c.args.member) (seen_of a.life) (seen_of b.life)) (Some (observed_of a.life)) (Some (observed_of b.life)) (Some (observed_of d.a.life)) (Some (observed_of d.b.life)) (Err why)) c.in-DiskFault.is c.in-Err.ensures.calls)
    (c.in-Err.ensures.settles refl refl) in
    (w.early, w.settles)
