use Rattle.std.proofs.Common.{take}
use Rattle.std.specs.List.{All}
use Rattle.mon_bounds.specs.Fitting.{IsNamed}
use Rattle.mon_core.proofs.names.see_entries.Given as goal

abbrev pub invariant-loop-entry : goal.invariant-loop-entry
invariant-loop-entry l = All IsNamed (take l.entry-index l.entries)
