use Rattle.std.proofs.Common.{refl}
use Rattle.stopped_stores.specs.Texts.{Stream}
use Rattle.stopped_stores.proofs.Works.{ends_imported, ends_unread}
use Rattle.stopped_stores.proofs.importing.read_and_import.Goals as goal

pub returns-in-Err : goal.returns-in-Err
returns-in-Err g c =
    let before : Stream = record { bytes = g.S.Source.left c.args.source.now; faults = g.S.Source.faults c.args.source.now } in
    let after : Stream = record { bytes = g.S.Source.left c.read_map.new.source; faults = g.S.Source.faults c.read_map.new.source } in
    ends_unread g.D.Disk.state c.args.member.now c.args.disks c.args.disks before after c.in-Err.end c.in-Err.ensures refl

pub returns-in-Ok : goal.returns-in-Ok
returns-in-Ok g c =
    let before : Stream = record { bytes = g.S.Source.left c.args.source.now; faults = g.S.Source.faults c.args.source.now } in
    let after : Stream = record { bytes = g.S.Source.left c.read_map.new.source; faults = g.S.Source.faults c.read_map.new.source } in
    let read = c.in-Ok.ensures in
    let it = c.import-imported.ensures in
    let e = c.import-imported.result.end in
    ends_imported g.D.Disk.state c.args.member.now c.args.disks c.import-imported.result.disks before after e c.of_import.result c.of_import.ensures (
      read.0,
      (
        read.1.0,
        read.1.1,
        read.1.2,
        record {
          map = c.in-Ok.kv;
          export = read.1.3;
          imports = record {
            answer = it.answer;
            any_time = it.any_time;
            written = it.written;
            untouched = it.untouched;
            safe = it.safe;
            map = it.map;
            calls = it.calls;
            counts = it.counts;
          };
        },
      ),
    )
