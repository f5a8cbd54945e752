use Rattle.stopped_stores.specs.Texts.{Stream}
use Rattle.stopped_stores.proofs.Completing.{text_completes}
use Rattle.stopped_stores.proofs.writing.write_text.Goals as goal

pub returns-clause-complete : goal.returns-clause-complete
returns-clause-complete g c = λ calm quiet a b h.
    let before : Stream = record { bytes = g.K.Sink.held c.args.sink.now; faults = g.K.Sink.faults c.args.sink.now } in
    let after : Stream = record { bytes = g.K.Sink.held c.write.new.sink; faults = g.K.Sink.faults c.write.new.sink } in
    text_completes g.D.Disk.state c.args.what c.args.member.now c.args.disks c.write.result.disks before after c.write.result.end c.write.ensures calm quiet a b h
