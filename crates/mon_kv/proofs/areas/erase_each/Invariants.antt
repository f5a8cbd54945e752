use Rattle.std.proofs.Common.{◌≡◌, ◌≤◌, ◌+◌, max, not}
use Rattle.std.specs.FinMap.Entries.{where_key}
use Rattle.mon_tx.specs.Map.{is_within}
use Rattle.mon_kv.specs.Tree.{bytes_cmp, entries}
use Rattle.mon_kv.specs.Areas.{weight_of}
use Rattle.mon_kv.proofs.areas.erase_each.Given as goal

abbrev pub invariant-loop-version : goal.invariant-loop-version
invariant-loop-version l = record {
  left : entries l.records ≡ where_key bytes_cmp (λ x. not (is_within l.from l.version x)) (entries l.fn.records);
  freed : weight_of l.prefix_len (entries l.records) + l.freed ≡ weight_of l.prefix_len (entries l.fn.records);
  low : l.from ≤ l.version;
  high : l.version ≤ max l.from l.to;
}
