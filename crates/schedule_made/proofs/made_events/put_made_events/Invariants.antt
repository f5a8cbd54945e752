use Rattle.std.proofs.Common.{◌≡◌, ◌+◌, ◌-◌, ◌≤◌, ◌++◌, take}
use Rattle.schedule_made.specs.Made.{made_events}
use Rattle.schedule_made.proofs.made_events.put_made_events.Given as goal

abbrev pub invariant-loop-i : goal.invariant-loop-i
invariant-loop-i l = record {
  least : 31 ≤ l.next;
  most : l.next ≤ l.i;
  so_far : take l.most (l.fn.events.items ++ made_events l.most 34 31 l.fn.generator)
      ≡ take l.most (l.events.items ++ made_events (34 + l.most - l.i) l.i l.next l.generator);
}
