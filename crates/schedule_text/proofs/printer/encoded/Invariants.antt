use Rattle.std.proofs.Common.{◌≡◌, ◌++◌, take, string_bytes}
use Rattle.std.specs.List.{flat_map}
use Rattle.schedule_text.specs.Encoding.{header, ended_line, event_line}
use Rattle.schedule_text.proofs.printer.encoded.Given as goal

abbrev pub invariant-loop-event : goal.invariant-loop-event
invariant-loop-event l = string_bytes l.out ≡ ended_line (header l.schedule.monitors l.schedule.rule) ++ flat_map event_line (take l.event-index l.schedule.events)
