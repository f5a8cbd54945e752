use Rattle.mon_msg.specs.Protocol.Readings.{readings_of}
use Rattle.svc_core.proofs.Sendings.{Sends}
use Rattle.svc_core.proofs.changed.changes_after.Given as goal

abbrev pub invariant-loop-n : goal.invariant-loop-n
invariant-loop-n l = Sends (readings_of l.kv) l.service l.last l.v l.n l.updates l.room
