use Rattle.std.proofs.Common.{refl, sym, subst}
use Rattle.mon_store.specs.Whole.{disk_a, disk_b}
use Rattle.stopped_stores.specs.Texts.{Stream, WritesAll, WritesText, text_of}
use Rattle.stopped_stores.proofs.Works.{ends_refused, ends_written}
use Rattle.stopped_stores.proofs.writing.write.Goals as goal

pub returns-in-Err : goal.returns-in-Err
returns-in-Err g c =
    let it = c.in-Err.ensures in
    let same : Stream = record { bytes = g.K.Sink.held c.args.sink.now; faults = g.K.Sink.faults c.args.sink.now } in
    ends_refused g.D.Disk.state c.args.member.now c.args.disks c.in-Err.refused.disks same same c.args.what c.in-Err.refused.why c.of_opening.result c.of_opening.ensures
    (record { answer = it.answer; alike = it.any_time; safe = tt; calls = it.calls; counts = it.counts }, refl)

pub returns-in-Ok : goal.returns-in-Ok
returns-in-Ok g c =
    let it = c.in-Ok.ensures in
    let store = c.in-Ok.store in
    let w = c.write_map-end in
    let before : Stream = record { bytes = g.K.Sink.held c.args.sink.now; faults = g.K.Sink.faults c.args.sink.now } in
    let after : Stream = record { bytes = g.K.Sink.held w.new.sink; faults = g.K.Sink.faults w.new.sink } in
    let written = subst (λ m. WritesAll (text_of c.args.what c.args.member.now m) before after w.result) c.kv.ensures w.ensures in
    subst (λ a. WritesText g.D.Disk.state c.args.member.now c.args.disks (record { a = a; b = c.close.result.b }) before after c.args.what w.result) (sym c.close.ensures.a)
    (subst (λ b. WritesText g.D.Disk.state c.args.member.now c.args.disks (record { a = disk_a store; b = b }) before after c.args.what w.result) (sym c.close.ensures.b)
    (ends_written g.D.Disk.state c.args.member.now c.args.disks (record { a = disk_a store; b = disk_b store }) before after c.args.what w.result (record {
      store_view = record { side = store.side; journal = store.journal; kv = store.kv };
      opens = record { answer = it.answer; alike = it.any_time; safe = it.safe; calls = it.calls; counts = it.counts };
      holds = written;
    })))
