use Rattle.std.proofs.Common.{◌≡◌, ◌≤◌, ◌-◌, length, replicate, None}
use Rattle.mon_frag.proofs.partial.Parts.begin.Given as goal

abbrev pub invariant-loop-parts : goal.invariant-loop-parts
invariant-loop-parts l = record { most : length l.parts.items ≤ l.count; none : l.parts.items ≡ replicate (length l.parts.items) None }

abbrev pub decreases-loop-parts : goal.decreases-loop-parts
decreases-loop-parts l = l.count - length l.parts.items
