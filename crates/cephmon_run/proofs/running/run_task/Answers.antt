use Rattle.std.proofs.Common.{length, refl, ap}
use Rattle.mon_node.proofs.Sends.{no_call}
use Rattle.stopped_stores.specs.declared.writing.StoreText.TheVariants as text
use Rattle.cephmon_run.specs.Node.{Around}
use Rattle.cephmon_run.specs.Outside.{Outside}
use Rattle.cephmon_run.proofs.Exact.{made_caused}
use Rattle.cephmon_run.proofs.Caused.{compare_caused, follow_caused, import_caused, text_caused}
use Rattle.task_words.specs.declared.task.Task.TheVariants as task
use Rattle.cephmon_run.proofs.Talking.{follow_talks, talks_as}
use Rattle.cephmon_run.proofs.running.run_task.Goals as goal

pub returns-in-Made-clause-cause : goal.returns-in-Made-clause-cause
returns-in-Made-clause-cause g c =
    let before : Outside = record { left = g.S.Source.left c.args.source.now; held = g.K.Sink.held c.args.sink.now; read_faults = g.S.Source.faults c.args.source.now; write_faults = g.K.Sink.faults c.args.sink.now } in
    let after : Outside = record { left = g.S.Source.left c.args.source.now; held = g.K.Sink.held c.run_made.new.sink; read_faults = g.S.Source.faults c.args.source.now; write_faults = g.K.Sink.faults c.run_made.new.sink } in
    let around : Around g.row.D.Denot = record { disks = c.args.disks; link = g.L.Link.state c.args.link.now; clock = g.C.Clock.left c.args.clock.now } in
    let left : Around g.row.D.Denot = record { disks = c.args.disks; link = g.L.Link.state c.args.link.now; clock = g.C.Clock.left c.args.clock.now } in
    made_caused g.D.Disk.state before after around c.in-Made.number c.in-Made.events c.args.task.now c.run_made.result c.in-Made.is (c.run_made.ensures before.left before.read_faults)

pub returns-in-Follow-clause-cause : goal.returns-in-Follow-clause-cause
returns-in-Follow-clause-cause g c =
    let before : Outside = record { left = g.S.Source.left c.args.source.now; held = g.K.Sink.held c.args.sink.now; read_faults = g.S.Source.faults c.args.source.now; write_faults = g.K.Sink.faults c.args.sink.now } in
    let after : Outside = record { left = g.S.Source.left c.args.source.now; held = g.K.Sink.held c.run_follow.new.sink; read_faults = g.S.Source.faults c.args.source.now; write_faults = g.K.Sink.faults c.run_follow.new.sink } in
    let around : Around g.row.D.Denot = record { disks = c.args.disks; link = g.L.Link.state c.args.link.now; clock = g.C.Clock.left c.args.clock.now } in
    let left : Around g.row.D.Denot = record { disks = c.args.disks; link = g.L.Link.state c.run_follow.new.link; clock = g.C.Clock.left c.args.clock.now } in
    follow_caused g.D.Disk.state before after around left c.in-Follow.service c.in-Follow.addresses c.in-Follow.turns (length c.as_slice.result.now) c.args.task.now c.run_follow.result c.in-Follow.is (ap length c.as_slice.ensures) c.run_follow.ensures.follows (refl, refl) refl refl

pub returns-in-Scrub-clause-cause : goal.returns-in-Scrub-clause-cause
returns-in-Scrub-clause-cause g c =
    let before : Outside = record { left = g.S.Source.left c.args.source.now; held = g.K.Sink.held c.args.sink.now; read_faults = g.S.Source.faults c.args.source.now; write_faults = g.K.Sink.faults c.args.sink.now } in
    let after : Outside = record { left = g.S.Source.left c.args.source.now; held = g.K.Sink.held c.run_text.new.sink; read_faults = g.S.Source.faults c.args.source.now; write_faults = g.K.Sink.faults c.run_text.new.sink } in
    let around : Around g.row.D.Denot = record { disks = c.args.disks; link = g.L.Link.state c.args.link.now; clock = g.C.Clock.left c.args.clock.now } in
    let left : Around g.row.D.Denot = record { disks = c.run_text.result.disks; link = g.L.Link.state c.args.link.now; clock = g.C.Clock.left c.args.clock.now } in
    text_caused g.D.Disk.state before after around left text.Report c.in-Scrub.member c.in-Scrub.disk_a c.in-Scrub.disk_b c.args.task.now c.run_text.result.status c.in-Scrub.is c.run_text.ensures (refl, refl) refl refl

pub returns-in-ScrubCompare-clause-cause : goal.returns-in-ScrubCompare-clause-cause
returns-in-ScrubCompare-clause-cause g c =
    let before : Outside = record { left = g.S.Source.left c.args.source.now; held = g.K.Sink.held c.args.sink.now; read_faults = g.S.Source.faults c.args.source.now; write_faults = g.K.Sink.faults c.args.sink.now } in
    let after : Outside = record { left = g.S.Source.left c.run_compare.new.source; held = g.K.Sink.held c.run_compare.new.sink; read_faults = g.S.Source.faults c.run_compare.new.source; write_faults = g.K.Sink.faults c.run_compare.new.sink } in
    let around : Around g.row.D.Denot = record { disks = c.args.disks; link = g.L.Link.state c.args.link.now; clock = g.C.Clock.left c.args.clock.now } in
    let left : Around g.row.D.Denot = record { disks = c.args.disks; link = g.L.Link.state c.args.link.now; clock = g.C.Clock.left c.args.clock.now } in
    compare_caused g.D.Disk.state before after around c.args.task.now c.run_compare.result c.in-ScrubCompare.is c.run_compare.ensures

pub returns-in-DumpKeys-clause-cause : goal.returns-in-DumpKeys-clause-cause
returns-in-DumpKeys-clause-cause g c =
    let before : Outside = record { left = g.S.Source.left c.args.source.now; held = g.K.Sink.held c.args.sink.now; read_faults = g.S.Source.faults c.args.source.now; write_faults = g.K.Sink.faults c.args.sink.now } in
    let after : Outside = record { left = g.S.Source.left c.args.source.now; held = g.K.Sink.held c.run_text-in-DumpKeys.new.sink; read_faults = g.S.Source.faults c.args.source.now; write_faults = g.K.Sink.faults c.run_text-in-DumpKeys.new.sink } in
    let around : Around g.row.D.Denot = record { disks = c.args.disks; link = g.L.Link.state c.args.link.now; clock = g.C.Clock.left c.args.clock.now } in
    let left : Around g.row.D.Denot = record { disks = c.run_text-in-DumpKeys.result.disks; link = g.L.Link.state c.args.link.now; clock = g.C.Clock.left c.args.clock.now } in
    text_caused g.D.Disk.state before after around left text.Keys c.in-DumpKeys.member c.in-DumpKeys.disk_a c.in-DumpKeys.disk_b c.args.task.now c.run_text-in-DumpKeys.result.status c.in-DumpKeys.is c.run_text-in-DumpKeys.ensures (refl, refl) refl refl

pub returns-in-DumpPaxos-clause-cause : goal.returns-in-DumpPaxos-clause-cause
returns-in-DumpPaxos-clause-cause g c =
    let before : Outside = record { left = g.S.Source.left c.args.source.now; held = g.K.Sink.held c.args.sink.now; read_faults = g.S.Source.faults c.args.source.now; write_faults = g.K.Sink.faults c.args.sink.now } in
    let after : Outside = record { left = g.S.Source.left c.args.source.now; held = g.K.Sink.held c.run_text-in-DumpPaxos.new.sink; read_faults = g.S.Source.faults c.args.source.now; write_faults = g.K.Sink.faults c.run_text-in-DumpPaxos.new.sink } in
    let around : Around g.row.D.Denot = record { disks = c.args.disks; link = g.L.Link.state c.args.link.now; clock = g.C.Clock.left c.args.clock.now } in
    let left : Around g.row.D.Denot = record { disks = c.run_text-in-DumpPaxos.result.disks; link = g.L.Link.state c.args.link.now; clock = g.C.Clock.left c.args.clock.now } in
    text_caused g.D.Disk.state before after around left (text.Versions c.in-DumpPaxos.from c.in-DumpPaxos.to) c.in-DumpPaxos.member c.in-DumpPaxos.disk_a c.in-DumpPaxos.disk_b c.args.task.now c.run_text-in-DumpPaxos.result.status c.in-DumpPaxos.is c.run_text-in-DumpPaxos.ensures (refl, refl) refl refl

pub returns-in-StoreExport-clause-cause : goal.returns-in-StoreExport-clause-cause
returns-in-StoreExport-clause-cause g c =
    let before : Outside = record { left = g.S.Source.left c.args.source.now; held = g.K.Sink.held c.args.sink.now; read_faults = g.S.Source.faults c.args.source.now; write_faults = g.K.Sink.faults c.args.sink.now } in
    let after : Outside = record { left = g.S.Source.left c.args.source.now; held = g.K.Sink.held c.run_text-in-StoreExport.new.sink; read_faults = g.S.Source.faults c.args.source.now; write_faults = g.K.Sink.faults c.run_text-in-StoreExport.new.sink } in
    let around : Around g.row.D.Denot = record { disks = c.args.disks; link = g.L.Link.state c.args.link.now; clock = g.C.Clock.left c.args.clock.now } in
    let left : Around g.row.D.Denot = record { disks = c.run_text-in-StoreExport.result.disks; link = g.L.Link.state c.args.link.now; clock = g.C.Clock.left c.args.clock.now } in
    text_caused g.D.Disk.state before after around left text.Export c.in-StoreExport.member c.in-StoreExport.disk_a c.in-StoreExport.disk_b c.args.task.now c.run_text-in-StoreExport.result.status c.in-StoreExport.is c.run_text-in-StoreExport.ensures (refl, refl) refl refl

pub returns-in-StoreImport-clause-cause : goal.returns-in-StoreImport-clause-cause
returns-in-StoreImport-clause-cause g c =
    let before : Outside = record { left = g.S.Source.left c.args.source.now; held = g.K.Sink.held c.args.sink.now; read_faults = g.S.Source.faults c.args.source.now; write_faults = g.K.Sink.faults c.args.sink.now } in
    let after : Outside = record { left = g.S.Source.left c.run_import.new.source; held = g.K.Sink.held c.args.sink.now; read_faults = g.S.Source.faults c.run_import.new.source; write_faults = g.K.Sink.faults c.args.sink.now } in
    let around : Around g.row.D.Denot = record { disks = c.args.disks; link = g.L.Link.state c.args.link.now; clock = g.C.Clock.left c.args.clock.now } in
    let left : Around g.row.D.Denot = record { disks = c.run_import.result.disks; link = g.L.Link.state c.args.link.now; clock = g.C.Clock.left c.args.clock.now } in
    import_caused g.D.Disk.state before after around left c.in-StoreImport.member c.in-StoreImport.disk_a c.in-StoreImport.disk_b c.args.task.now c.run_import.result.status c.in-StoreImport.is c.run_import.ensures (refl, refl) refl refl

pub returns-in-Replay-clause-talks : goal.returns-in-Replay-clause-talks
returns-in-Replay-clause-talks g c =
    let before : Outside = record { left = g.S.Source.left c.args.source.now; held = g.K.Sink.held c.args.sink.now; read_faults = g.S.Source.faults c.args.source.now; write_faults = g.K.Sink.faults c.args.sink.now } in
    let after : Outside = record { left = g.S.Source.left c.run_replay.new.source; held = g.K.Sink.held c.run_replay.new.sink; read_faults = g.S.Source.faults c.run_replay.new.source; write_faults = g.K.Sink.faults c.run_replay.new.sink } in
    let around : Around g.row.D.Denot = record { disks = c.args.disks; link = g.L.Link.state c.args.link.now; clock = g.C.Clock.left c.args.clock.now } in
    let left : Around g.row.D.Denot = record { disks = c.args.disks; link = g.L.Link.state c.args.link.now; clock = g.C.Clock.left c.args.clock.now } in
    talks_as g.D.Disk.state c.args.task.now (task.Replay) before after around left c.run_replay.result (g.L.Link.history c.args.link.now) (g.L.Link.history c.args.link.now) c.in-Replay.is (no_call (g.L.Link.history c.args.link.now))

pub returns-in-Made-clause-talks : goal.returns-in-Made-clause-talks
returns-in-Made-clause-talks g c =
    let before : Outside = record { left = g.S.Source.left c.args.source.now; held = g.K.Sink.held c.args.sink.now; read_faults = g.S.Source.faults c.args.source.now; write_faults = g.K.Sink.faults c.args.sink.now } in
    let after : Outside = record { left = g.S.Source.left c.args.source.now; held = g.K.Sink.held c.run_made.new.sink; read_faults = g.S.Source.faults c.args.source.now; write_faults = g.K.Sink.faults c.run_made.new.sink } in
    let around : Around g.row.D.Denot = record { disks = c.args.disks; link = g.L.Link.state c.args.link.now; clock = g.C.Clock.left c.args.clock.now } in
    let left : Around g.row.D.Denot = record { disks = c.args.disks; link = g.L.Link.state c.args.link.now; clock = g.C.Clock.left c.args.clock.now } in
    talks_as g.D.Disk.state c.args.task.now (task.Made c.in-Made.number c.in-Made.events) before after around left c.run_made.result (g.L.Link.history c.args.link.now) (g.L.Link.history c.args.link.now) c.in-Made.is (no_call (g.L.Link.history c.args.link.now))

pub returns-in-Scrub-clause-talks : goal.returns-in-Scrub-clause-talks
returns-in-Scrub-clause-talks g c =
    let before : Outside = record { left = g.S.Source.left c.args.source.now; held = g.K.Sink.held c.args.sink.now; read_faults = g.S.Source.faults c.args.source.now; write_faults = g.K.Sink.faults c.args.sink.now } in
    let after : Outside = record { left = g.S.Source.left c.args.source.now; held = g.K.Sink.held c.run_text.new.sink; read_faults = g.S.Source.faults c.args.source.now; write_faults = g.K.Sink.faults c.run_text.new.sink } in
    let around : Around g.row.D.Denot = record { disks = c.args.disks; link = g.L.Link.state c.args.link.now; clock = g.C.Clock.left c.args.clock.now } in
    let left : Around g.row.D.Denot = record { disks = c.run_text.result.disks; link = g.L.Link.state c.args.link.now; clock = g.C.Clock.left c.args.clock.now } in
    talks_as g.D.Disk.state c.args.task.now (task.Scrub c.in-Scrub.member c.in-Scrub.disk_a c.in-Scrub.disk_b) before after around left c.run_text.result.status (g.L.Link.history c.args.link.now) (g.L.Link.history c.args.link.now) c.in-Scrub.is (no_call (g.L.Link.history c.args.link.now))

pub returns-in-ScrubCompare-clause-talks : goal.returns-in-ScrubCompare-clause-talks
returns-in-ScrubCompare-clause-talks g c =
    let before : Outside = record { left = g.S.Source.left c.args.source.now; held = g.K.Sink.held c.args.sink.now; read_faults = g.S.Source.faults c.args.source.now; write_faults = g.K.Sink.faults c.args.sink.now } in
    let after : Outside = record { left = g.S.Source.left c.run_compare.new.source; held = g.K.Sink.held c.run_compare.new.sink; read_faults = g.S.Source.faults c.run_compare.new.source; write_faults = g.K.Sink.faults c.run_compare.new.sink } in
    let around : Around g.row.D.Denot = record { disks = c.args.disks; link = g.L.Link.state c.args.link.now; clock = g.C.Clock.left c.args.clock.now } in
    let left : Around g.row.D.Denot = record { disks = c.args.disks; link = g.L.Link.state c.args.link.now; clock = g.C.Clock.left c.args.clock.now } in
    talks_as g.D.Disk.state c.args.task.now (task.ScrubCompare) before after around left c.run_compare.result (g.L.Link.history c.args.link.now) (g.L.Link.history c.args.link.now) c.in-ScrubCompare.is (no_call (g.L.Link.history c.args.link.now))

pub returns-in-DumpKeys-clause-talks : goal.returns-in-DumpKeys-clause-talks
returns-in-DumpKeys-clause-talks g c =
    let before : Outside = record { left = g.S.Source.left c.args.source.now; held = g.K.Sink.held c.args.sink.now; read_faults = g.S.Source.faults c.args.source.now; write_faults = g.K.Sink.faults c.args.sink.now } in
    let after : Outside = record { left = g.S.Source.left c.args.source.now; held = g.K.Sink.held c.run_text-in-DumpKeys.new.sink; read_faults = g.S.Source.faults c.args.source.now; write_faults = g.K.Sink.faults c.run_text-in-DumpKeys.new.sink } in
    let around : Around g.row.D.Denot = record { disks = c.args.disks; link = g.L.Link.state c.args.link.now; clock = g.C.Clock.left c.args.clock.now } in
    let left : Around g.row.D.Denot = record { disks = c.run_text-in-DumpKeys.result.disks; link = g.L.Link.state c.args.link.now; clock = g.C.Clock.left c.args.clock.now } in
    talks_as g.D.Disk.state c.args.task.now (task.DumpKeys c.in-DumpKeys.member c.in-DumpKeys.disk_a c.in-DumpKeys.disk_b) before after around left c.run_text-in-DumpKeys.result.status (g.L.Link.history c.args.link.now) (g.L.Link.history c.args.link.now) c.in-DumpKeys.is (no_call (g.L.Link.history c.args.link.now))

pub returns-in-DumpPaxos-clause-talks : goal.returns-in-DumpPaxos-clause-talks
returns-in-DumpPaxos-clause-talks g c =
    let before : Outside = record { left = g.S.Source.left c.args.source.now; held = g.K.Sink.held c.args.sink.now; read_faults = g.S.Source.faults c.args.source.now; write_faults = g.K.Sink.faults c.args.sink.now } in
    let after : Outside = record { left = g.S.Source.left c.args.source.now; held = g.K.Sink.held c.run_text-in-DumpPaxos.new.sink; read_faults = g.S.Source.faults c.args.source.now; write_faults = g.K.Sink.faults c.run_text-in-DumpPaxos.new.sink } in
    let around : Around g.row.D.Denot = record { disks = c.args.disks; link = g.L.Link.state c.args.link.now; clock = g.C.Clock.left c.args.clock.now } in
    let left : Around g.row.D.Denot = record { disks = c.run_text-in-DumpPaxos.result.disks; link = g.L.Link.state c.args.link.now; clock = g.C.Clock.left c.args.clock.now } in
    talks_as g.D.Disk.state c.args.task.now (task.DumpPaxos c.in-DumpPaxos.member c.in-DumpPaxos.disk_a c.in-DumpPaxos.disk_b c.in-DumpPaxos.from c.in-DumpPaxos.to) before after around left c.run_text-in-DumpPaxos.result.status (g.L.Link.history c.args.link.now) (g.L.Link.history c.args.link.now) c.in-DumpPaxos.is (no_call (g.L.Link.history c.args.link.now))

pub returns-in-StoreExport-clause-talks : goal.returns-in-StoreExport-clause-talks
returns-in-StoreExport-clause-talks g c =
    let before : Outside = record { left = g.S.Source.left c.args.source.now; held = g.K.Sink.held c.args.sink.now; read_faults = g.S.Source.faults c.args.source.now; write_faults = g.K.Sink.faults c.args.sink.now } in
    let after : Outside = record { left = g.S.Source.left c.args.source.now; held = g.K.Sink.held c.run_text-in-StoreExport.new.sink; read_faults = g.S.Source.faults c.args.source.now; write_faults = g.K.Sink.faults c.run_text-in-StoreExport.new.sink } in
    let around : Around g.row.D.Denot = record { disks = c.args.disks; link = g.L.Link.state c.args.link.now; clock = g.C.Clock.left c.args.clock.now } in
    let left : Around g.row.D.Denot = record { disks = c.run_text-in-StoreExport.result.disks; link = g.L.Link.state c.args.link.now; clock = g.C.Clock.left c.args.clock.now } in
    talks_as g.D.Disk.state c.args.task.now (task.StoreExport c.in-StoreExport.member c.in-StoreExport.disk_a c.in-StoreExport.disk_b) before after around left c.run_text-in-StoreExport.result.status (g.L.Link.history c.args.link.now) (g.L.Link.history c.args.link.now) c.in-StoreExport.is (no_call (g.L.Link.history c.args.link.now))

pub returns-in-StoreImport-clause-talks : goal.returns-in-StoreImport-clause-talks
returns-in-StoreImport-clause-talks g c =
    let before : Outside = record { left = g.S.Source.left c.args.source.now; held = g.K.Sink.held c.args.sink.now; read_faults = g.S.Source.faults c.args.source.now; write_faults = g.K.Sink.faults c.args.sink.now } in
    let after : Outside = record { left = g.S.Source.left c.run_import.new.source; held = g.K.Sink.held c.args.sink.now; read_faults = g.S.Source.faults c.run_import.new.source; write_faults = g.K.Sink.faults c.args.sink.now } in
    let around : Around g.row.D.Denot = record { disks = c.args.disks; link = g.L.Link.state c.args.link.now; clock = g.C.Clock.left c.args.clock.now } in
    let left : Around g.row.D.Denot = record { disks = c.run_import.result.disks; link = g.L.Link.state c.args.link.now; clock = g.C.Clock.left c.args.clock.now } in
    talks_as g.D.Disk.state c.args.task.now (task.StoreImport c.in-StoreImport.member c.in-StoreImport.disk_a c.in-StoreImport.disk_b) before after around left c.run_import.result.status (g.L.Link.history c.args.link.now) (g.L.Link.history c.args.link.now) c.in-StoreImport.is (no_call (g.L.Link.history c.args.link.now))

pub returns-in-Node-clause-talks : goal.returns-in-Node-clause-talks
returns-in-Node-clause-talks g c =
    let before : Outside = record { left = g.S.Source.left c.args.source.now; held = g.K.Sink.held c.args.sink.now; read_faults = g.S.Source.faults c.args.source.now; write_faults = g.K.Sink.faults c.args.sink.now } in
    let after : Outside = before in
    let around : Around g.row.D.Denot = record { disks = c.args.disks; link = g.L.Link.state c.args.link.now; clock = g.C.Clock.left c.args.clock.now } in
    let left : Around g.row.D.Denot = record { disks = c.run_node.result.disks; link = g.L.Link.state c.run_node.new.link; clock = g.C.Clock.left c.run_node.new.clock } in
    talks_as g.D.Disk.state c.args.task.now (task.Node c.in-Node.member c.in-Node.rule c.in-Node.addresses c.in-Node.disk_a c.in-Node.disk_b c.in-Node.turns) before after around left c.run_node.result.status (g.L.Link.history c.args.link.now) (g.L.Link.history c.run_node.new.link) c.in-Node.is c.run_node.ensures.talks

pub returns-in-Follow-clause-talks : goal.returns-in-Follow-clause-talks
returns-in-Follow-clause-talks g c =
    let before : Outside = record { left = g.S.Source.left c.args.source.now; held = g.K.Sink.held c.args.sink.now; read_faults = g.S.Source.faults c.args.source.now; write_faults = g.K.Sink.faults c.args.sink.now } in
    let after : Outside = record { left = g.S.Source.left c.args.source.now; held = g.K.Sink.held c.run_follow.new.sink; read_faults = g.S.Source.faults c.args.source.now; write_faults = g.K.Sink.faults c.run_follow.new.sink } in
    let around : Around g.row.D.Denot = record { disks = c.args.disks; link = g.L.Link.state c.args.link.now; clock = g.C.Clock.left c.args.clock.now } in
    let left : Around g.row.D.Denot = record { disks = c.args.disks; link = g.L.Link.state c.run_follow.new.link; clock = g.C.Clock.left c.args.clock.now } in
    follow_talks g.D.Disk.state c.args.task.now before after around left c.in-Follow.service c.in-Follow.addresses c.in-Follow.turns (length c.as_slice.result.now) c.run_follow.result (g.L.Link.history c.args.link.now) (g.L.Link.history c.run_follow.new.link) c.in-Follow.is (ap length c.as_slice.ensures) c.run_follow.ensures.talks
