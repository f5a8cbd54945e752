use Rattle.stopped_stores.specs.Texts.{Stream}
use Rattle.stopped_stores.proofs.Completing.{completes}
use Rattle.stopped_stores.proofs.importing.import_export.Goals as goal

pub returns-clause-complete : goal.returns-clause-complete
returns-clause-complete g c = λ calm quiet bytes a b is h.
    let before : Stream = record { bytes = g.S.Source.left c.args.source.now; faults = g.S.Source.faults c.args.source.now } in
    let after : Stream = record { bytes = g.S.Source.left c.read_and_import.new.source; faults = g.S.Source.faults c.read_and_import.new.source } in
    completes g.D.Disk.state c.args.member.now c.args.disks c.read_and_import.result.disks before after calm quiet bytes a b is h c.read_and_import.result.end c.read_and_import.ensures
