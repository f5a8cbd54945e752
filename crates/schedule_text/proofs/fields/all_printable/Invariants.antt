use Rattle.std.proofs.Common.{◌≡◌, take}
use Rattle.std.specs.List.{list_all}
use Rattle.schedule_text.specs.Words.{printable}
use Rattle.schedule_text.proofs.fields.all_printable.Given as goal

abbrev pub invariant-loop-b : goal.invariant-loop-b
invariant-loop-b l = l.printable ≡ list_all printable (take l.b-index l.bytes)
