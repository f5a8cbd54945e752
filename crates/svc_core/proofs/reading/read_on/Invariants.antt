use Rattle.mon_msg.specs.Protocol.Readings.{readings_of}
use Rattle.svc_core.specs.Kinds.{IsMapOf}
use Rattle.svc_core.proofs.Onwards.{IsAt}
use Rattle.svc_core.proofs.reading.read_on.Given as goal

abbrev pub invariant-loop-i : goal.invariant-loop-i
invariant-loop-i l = record { at : IsAt (readings_of l.kv) l.service l.count l.v l.fn.map l.i l.map; form : IsMapOf l.service l.map }
