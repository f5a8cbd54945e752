use Rattle.std.proofs.Common.{◌≡◌, ◌+◌, ◌-◌, ◌^◌, min, length, take}
use Rattle.std.specs.List.{flat_map}
use Rattle.schedule_text.specs.Encoding.{header, ended_line, event_line}
use Rattle.schedule_text.proofs.length.text_len.Given as goal

abbrev pub invariant-loop-event : goal.invariant-loop-event
invariant-loop-event l = l.len ≡ min (length (ended_line (header l.schedule.monitors l.schedule.rule)) + length (flat_map event_line (take l.event-index l.event-items))) (2 ^ 64 - 1)
