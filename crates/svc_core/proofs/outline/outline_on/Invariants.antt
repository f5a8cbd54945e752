use Rattle.std.proofs.Common.{◌≤◌}
use Rattle.mon_msg.specs.Protocol.Readings.{readings_of}
use Rattle.svc_core.proofs.Outlines.{Comes}
use Rattle.svc_core.proofs.outline.outline_on.Given as goal

abbrev pub invariant-loop-i : goal.invariant-loop-i
invariant-loop-i l = record { come : Comes (readings_of l.kv) l.key l.fn.full l.outline l.count l.v l.i; most : l.outline.most ≤ 393216 }
