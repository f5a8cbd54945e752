use Rattle.std.proofs.Common.{Err, inl, inr, subst}
use Rattle.mon_node.proofs.Sends.{no_call}
use Rattle.task_words.specs.Task.{AsksForNone, IsAsked, Reads}
use Rattle.task_words.specs.declared.task.WordsStop.{WordsStop}
use Rattle.cephmon_run.specs.Node.{Around}
use Rattle.cephmon_run.specs.Outside.{Outside}
use Rattle.cephmon_run.proofs.Exact.{ends_asked, ends_early, ends_refused}
use Rattle.cephmon_run.proofs.running.run.Goals as goal

pub returns-in-Ok-clause-ends : goal.returns-in-Ok-clause-ends
returns-in-Ok-clause-ends g c =
    let before : Outside = record { left = g.S.Source.left c.args.source.now; held = g.K.Sink.held c.args.sink.now; read_faults = g.S.Source.faults c.args.source.now; write_faults = g.K.Sink.faults c.args.sink.now } in
    let after : Outside = record { left = g.S.Source.left c.run_task.new.source; held = g.K.Sink.held c.run_task.new.sink; read_faults = g.S.Source.faults c.run_task.new.source; write_faults = g.K.Sink.faults c.run_task.new.sink } in
    let around : Around g.row.D.Denot = record { disks = c.args.disks; link = g.L.Link.state c.args.link.now; clock = g.C.Clock.left c.args.clock.now } in
    let left : Around g.row.D.Denot = record { disks = c.run_task.result.disks; link = g.L.Link.state c.run_task.new.link; clock = g.C.Clock.left c.run_task.new.clock } in
    ends_asked g.D.Disk.state c.args.words.now before after around left c.in-Ok.task c.run_task.result.status c.in-Ok.ensures c.run_task.ensures.cause

pub returns-in-Err-Refused-clause-ends : goal.returns-in-Err-Refused-clause-ends
returns-in-Err-Refused-clause-ends g c =
    let before : Outside = record { left = g.S.Source.left c.args.source.now; held = g.K.Sink.held c.args.sink.now; read_faults = g.S.Source.faults c.args.source.now; write_faults = g.K.Sink.faults c.args.sink.now } in
    let around : Around g.row.D.Denot = record { disks = c.args.disks; link = g.L.Link.state c.args.link.now; clock = g.C.Clock.left c.args.clock.now } in
    let none : AsksForNone c.args.words.now = subst (λ (w : WordsStop). Reads (Err w) c.args.words.now) c.in-Err-Refused.field-0-is c.in-Err-Refused.ensures in
    ends_refused g.D.Disk.state c.args.words.now before around none

pub returns-in-Err-OutOfMemory-clause-ends : goal.returns-in-Err-OutOfMemory-clause-ends
returns-in-Err-OutOfMemory-clause-ends g c =
    let before : Outside = record { left = g.S.Source.left c.args.source.now; held = g.K.Sink.held c.args.sink.now; read_faults = g.S.Source.faults c.args.source.now; write_faults = g.K.Sink.faults c.args.sink.now } in
    let around : Around g.row.D.Denot = record { disks = c.args.disks; link = g.L.Link.state c.args.link.now; clock = g.C.Clock.left c.args.clock.now } in
    let it : IsAsked c.args.words.now = subst (λ (w : WordsStop). Reads (Err w) c.args.words.now) c.in-Err-OutOfMemory.field-0-is c.in-Err-OutOfMemory.ensures in
    ends_early g.D.Disk.state c.args.words.now before around it.0 it.1

pub returns-in-Ok-clause-talks : goal.returns-in-Ok-clause-talks
returns-in-Ok-clause-talks g c = inl (c.in-Ok.task, c.in-Ok.ensures, c.run_task.ensures.talks)

pub returns-in-Err-Refused-clause-talks : goal.returns-in-Err-Refused-clause-talks
returns-in-Err-Refused-clause-talks g c = inr (no_call (g.L.Link.history c.args.link.now))

pub returns-in-Err-OutOfMemory-clause-talks : goal.returns-in-Err-OutOfMemory-clause-talks
returns-in-Err-OutOfMemory-clause-talks g c = inr (no_call (g.L.Link.history c.args.link.now))
