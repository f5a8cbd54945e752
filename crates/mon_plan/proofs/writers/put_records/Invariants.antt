use Rattle.std.proofs.Common.{◌≡◌, ◌+◌, ◌++◌, drop}
use Rattle.mon_msg.specs.Protocol.Changes.{encoded}
use Rattle.mon_msg.specs.Protocol.Chunks.{record_changes}
use Rattle.mon_plan.proofs.writers.put_records.Given as goal

abbrev pub invariant-loop-value : goal.invariant-loop-value
invariant-loop-value l = record {
  at : l.v ≡ l.fn.from + l.value-index;
  tx : l.tx ++ encoded (record_changes l.v (drop l.value-index l.values)) ≡ l.fn.tx ++ encoded (record_changes l.fn.from l.values);
}
