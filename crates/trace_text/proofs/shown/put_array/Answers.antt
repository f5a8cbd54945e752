use Rattle.std.proofs.Common.{Some, ap, length}
use Rattle.serde.specs.Event.{seq_begins}
use Rattle.trace_text.specs.Shown.{items_events}
use Rattle.trace_text.proofs.Printed.{begun_so}
use Rattle.trace_text.proofs.shown.put_array.Goals as goal

pub returns : goal.returns
returns g c =
    begun_so c.put_items.result _ _ _ _ _ _ _ (ap (λ n. seq_begins (Some n)) (ap length c.entries-incs.ensures)) (ap items_events c.entries-incs.ensures) c.in_ok-begin_seq.ensures c.put_items.ensures
