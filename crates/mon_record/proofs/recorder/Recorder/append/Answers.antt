use Rattle.mon_record.specs.Entries.{entry}
use Rattle.mon_record.proofs.Recorders.{appended_after, writes_none}
use Rattle.mon_record.proofs.recorder.Recorder.append.Goals as goal

pub returns-then-fits : goal.returns-then-fits
returns-then-fits g c =
    let held = g.K.Sink.held in
    let old = c.args.self.now in
    appended_after held (entry c.args.front c.args.bytes.now) old old c.takes.new.self (writes_none (held old.sink) old.tape)
    c.takes.ensures.notes c.takes.ensures.sink

pub returns : goal.returns
returns g c =
    appended_after g.K.Sink.held (entry c.args.front c.args.bytes.now) c.args.self.now c.flush.new.self c.takes-2.new.self c.flush.ensures
    c.takes-2.ensures.notes c.takes-2.ensures.sink
