use Rattle.std.proofs.Common.{◌≡◌, [], subst}
use Rattle.std.specs.FinMap.{entries}
use Rattle.mon_kv.specs.Readers.{entries_after}
use Rattle.mon_kv.proofs.ChunkLaws.{entries_after-start}
use Rattle.mon_kv.proofs.kv.Kv.allocator.Goals as goal

pub returns : goal.returns
returns c = record { start = subst (λ m. entries_after m ([], []) ≡ entries m) c.self.view_is (entries_after-start _ c.self.invariant.0) }
