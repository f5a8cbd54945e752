use Rattle.std.proofs.Common.{◌≡◌, ◌-◌, ◌^◌, take}
use Rattle.std.specs.Prelude.{min, sum_by}
use Rattle.mon_msg.specs.Protocol.Parts.{entry_length}
use Rattle.sync_provider.proofs.entries.entries_len.Given as goal

abbrev pub invariant-loop-entry : goal.invariant-loop-entry
invariant-loop-entry l = l.len ≡ min (sum_by entry_length (take l.entry-index l.entries)) (2 ^ 64 - 1)
