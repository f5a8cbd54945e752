use Rattle.std.proofs.Common.{take}
use Rattle.std.specs.List.{All}
use Rattle.mon_core.specs.Reacts.{SendsNamed}
use Rattle.mon_core.proofs.names.see_named.Given as goal

abbrev pub invariant-loop-sent : goal.invariant-loop-sent
invariant-loop-sent l = All SendsNamed (take l.sent-index l.out)
