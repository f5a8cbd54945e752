use Rattle.std.proofs.Common.{Ok, Err, refl}
use Rattle.mon_store.specs.StoreView.{StoreView}
use Rattle.mon_store.specs.Whole.{disk_a, disk_b}
use Rattle.mon_site.proofs.InUse.{opens_whole, only_memory_lacks, begins}
use Rattle.mon_site.proofs.Times.{while_opening}
use Rattle.mon_site.proofs.running.start.Goals as goal

pub unreachable-requires : goal.unreachable-requires
unreachable-requires c =
    let d = c.args.disks in
    let e = c.in-Err.field-0 in
    let rests = c.requires.2 in
    let whole = opens_whole {T = StoreView} (Err e.why) c.args.member c.requires.0 c.requires.1 d.a d.b e.disks.a e.disks.b rests c.in-Err.ensures.calls in
    c.in_default.not-OutOfMemory (only_memory_lacks c.args.member d.a d.b rests.opens.store_view e.why rests.opens.opens c.in-Err.ensures.answer whole.0)

pub returns-in-Ok-clause-starts : goal.returns-in-Ok-clause-starts
returns-in-Ok-clause-starts c m f rests =
    let d = c.args.disks in
    let s = c.in-Ok.store in
    let e = c.in-Ok.ensures in
    let whole = opens_whole {T = StoreView} (Ok (record { side = s.side; journal = s.journal; kv = s.kv })) c.args.member m f d.a d.b (disk_a s) (disk_b s) rests e.calls in
    begins c.args.member m f d.a d.b s rests e.broken (e.sound e.broken) e.owner e.answer (e.any_time refl refl) whole.1 whole.2

pub returns-in-Ok-clause-any_time : goal.returns-in-Ok-clause-any_time
returns-in-Ok-clause-any_time c m f rests =
    let d = c.args.disks in
    let s = c.in-Ok.store in
    while_opening c.args.member m f d.a d.b rests (disk_a s) (disk_b s) (c.in-Ok.ensures.any_time refl refl)
