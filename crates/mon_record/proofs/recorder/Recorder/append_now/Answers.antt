use Rattle.mon_record.specs.Entries.{entry}
use Rattle.mon_record.proofs.Recorders.{appended_before}
use Rattle.mon_record.proofs.recorder.Recorder.append_now.Goals as goal

pub returns : goal.returns
returns g c =
    appended_before g.K.Sink.held (entry c.args.front c.args.bytes.now) c.args.self.now c.takes.new.self c.flush.new.self
    c.takes.ensures.notes c.takes.ensures.sink c.flush.ensures
