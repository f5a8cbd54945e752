use Rattle.std.proofs.Common.{Err, ap, sym, ◌∙◌}
use Rattle.cephmon_run.specs.Outside.{Outside}
use Rattle.cephmon_run.proofs.Runs.{replay_done, replay_stopped}
use Rattle.cephmon_run.proofs.running.run_replay.Goals as goal

pub returns-in-Ok-replay : goal.returns-in-Ok-replay
returns-in-Ok-replay g c =
    let before : Outside = record { left = g.S.Source.left c.args.source.now; held = g.K.Sink.held c.args.sink.now; read_faults = g.S.Source.faults c.args.source.now; write_faults = g.K.Sink.faults c.args.sink.now } in
    let after : Outside = record { left = g.S.Source.left c.read_all.new.source; held = g.K.Sink.held c.replay.new.sink; read_faults = g.S.Source.faults c.read_all.new.source; write_faults = g.K.Sink.faults c.replay.new.sink } in
    let read = c.in-Ok.ensures in
    let found = c.in-Ok-schedule_of.ensures.found in
    replay_done before after c.in-Ok.bytes.items c.in-Ok-schedule_of.schedule found.0 (record { visible = read.visible; most = read.most; whole = read.whole })
    (sym c.as_slice.ensures.value ∙ found.1) c.in-Ok-replay.ensures.writes

pub returns : goal.returns
returns g c =
    let before : Outside = record { left = g.S.Source.left c.args.source.now; held = g.K.Sink.held c.args.sink.now; read_faults = g.S.Source.faults c.args.source.now; write_faults = g.K.Sink.faults c.args.sink.now } in
    let after : Outside = record { left = g.S.Source.left c.read_all.new.source; held = g.K.Sink.held c.replay.new.sink; read_faults = g.S.Source.faults c.read_all.new.source; write_faults = g.K.Sink.faults c.replay.new.sink } in
    let read = c.in-Ok.ensures in
    let found = c.in-Ok-schedule_of.ensures.found in
    let e = c.in-Err-replay.stop in
    rw c.status_of.ensures (replay_stopped e before after c.in-Ok.bytes.items c.in-Ok-schedule_of.schedule found.0 (record { visible = read.visible; most = read.most; whole = read.whole })
    (sym c.as_slice.ensures.value ∙ found.1) c.in-Err-replay.ensures.writes (λ is. c.in-Err-replay.ensures.fault (ap Err is)))
