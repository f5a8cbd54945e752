use Rattle.std.proofs.Common.{◌≡◌, ◌≤◌, length}
use Rattle.schedule_text.specs.Encoding.{most_events}
use Rattle.schedule_text.specs.Schedule.{lines_of, events_at}
use Rattle.schedule_text.proofs.ScheduleLoop.{with_front}
use Rattle.schedule_text.proofs.reader.events_of.Given as goal

abbrev pub invariant-loop-after : goal.invariant-loop-after
invariant-loop-after l = record {
  so_far : with_front l.events (events_at l.monitors l.count (lines_of l.rest).0 (lines_of l.rest).1) ≡ events_at l.monitors 0 (lines_of l.body).0 (lines_of l.body).1;
  count : l.count ≤ most_events;
}

abbrev pub decreases-loop-after : goal.decreases-loop-after
decreases-loop-after l = length l.rest
