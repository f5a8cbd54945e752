use Rattle.std.proofs.Common.{◌≡◌, ◌++◌, length}
use Rattle.std.specs.List.{flat_map}
use Rattle.mon_store.specs.Checkpoint.{checkpoint_text, entry_text}
use Rattle.mon_store.proofs.Walks.{left, Walks}
use Rattle.mon_store.proofs.checkpoint.write_checkpoint.Given as goal

abbrev pub invariant-loop-next : goal.invariant-loop-next
invariant-loop-next l = record {
  walks : Walks l.kv l.next;
  text : l.out ++ flat_map entry_text (left l.kv l.next) ≡ l.fn.out ++ checkpoint_text l.kv;
}

abbrev pub decreases-loop-next : goal.decreases-loop-next
decreases-loop-next l = length (left l.kv l.next)
