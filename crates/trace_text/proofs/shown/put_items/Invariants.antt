use Rattle.std.proofs.Common.{drop}
use Rattle.trace_text.specs.Shown.{items_events}
use Rattle.trace_text.proofs.Printed.{Still}
use Rattle.trace_text.proofs.shown.put_items.Given as goal

abbrev pub invariant-loop-inc : goal.invariant-loop-inc
invariant-loop-inc g l = Still (g.S.Serializer.written l.fn.out) (g.S.Serializer.written l.out) (items_events (drop l.inc-index l.incs)) (items_events l.incs)
