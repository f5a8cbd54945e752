use Rattle.std.proofs.Common.{◌≡◌, ◌++◌, drop}
use Rattle.mon_msg.specs.Protocol.Changes.{encoded}
use Rattle.mon_msg.specs.Protocol.Chunks.{copy_changes}
use Rattle.mon_plan.proofs.writers.put_copies.Given as goal

abbrev pub invariant-loop-entry : goal.invariant-loop-entry
invariant-loop-entry l = l.tx ++ encoded (copy_changes (drop l.entry-index l.entries)) ≡ l.fn.tx ++ encoded (copy_changes l.entries)
