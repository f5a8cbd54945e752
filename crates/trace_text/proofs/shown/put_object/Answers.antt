use Rattle.std.proofs.Common.{Some, ap}
use Rattle.serde.specs.Event.{map_begins}
use Rattle.trace_text.specs.Shown.{members_events}
use Rattle.trace_text.proofs.Printed.{begun_so}
use Rattle.trace_text.proofs.shown.put_object.Goals as goal

pub returns : goal.returns
returns g c = begun_so c.put_members.result _ _ _ _ _ _ _ (ap (λ n. map_begins (Some n)) c.len.ensures) (ap members_events c.iter.ensures) c.in_ok-begin_map.ensures c.put_members.ensures
