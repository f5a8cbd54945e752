use Rattle.map_kv.specs.Kept.{pairs}
use Rattle.trace_text.specs.Shown.{members_events}
use Rattle.trace_text.proofs.Printed.{Still}
use Rattle.trace_text.proofs.shown.put_members.Given as goal

abbrev pub invariant-loop-key : goal.invariant-loop-key
invariant-loop-key g l = Still (g.S.Serializer.written l.fn.out) (g.S.Serializer.written l.out) (members_events (pairs l.key-iterator)) (members_events (pairs l.fn.entries))
