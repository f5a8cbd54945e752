use Rattle.stopped_stores.specs.Texts.{Stream}
use Rattle.stopped_stores.proofs.Completing.{comparison_completes}
use Rattle.stopped_stores.proofs.comparing.compare_reports.Goals as goal

pub returns-clause-complete : goal.returns-clause-complete
returns-clause-complete g c = λ quiet silent bytes is.
    let before : Stream = record { bytes = g.S.Source.left c.args.source.now; faults = g.S.Source.faults c.args.source.now } in
    let after : Stream = record { bytes = g.S.Source.left c.read_and_compare.new.source; faults = g.S.Source.faults c.read_and_compare.new.source } in
    let old : Stream = record { bytes = g.K.Sink.held c.args.sink.now; faults = g.K.Sink.faults c.args.sink.now } in
    let new : Stream = record { bytes = g.K.Sink.held c.read_and_compare.new.sink; faults = g.K.Sink.faults c.read_and_compare.new.sink } in
    comparison_completes before after old new c.read_and_compare.result c.read_and_compare.ensures quiet silent bytes is
