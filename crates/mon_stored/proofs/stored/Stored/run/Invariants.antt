use Rattle.mon_msg.specs.Protocol.Readings.{readings_of}
use Rattle.mon_stored.proofs.Running.{RunsTo}
use Rattle.mon_stored.proofs.stored.Stored.run.Given as goal

abbrev pub invariant-loop-v : goal.invariant-loop-v
invariant-loop-v l = RunsTo (readings_of l.self).record_of (readings_of l.self).last l.fn.from l.fn.plain l.fn.at_end l.v l.bytes l.values
