use Rattle.std.proofs.Common.{◌≡◌, ◌+◌}
use Rattle.std.specs.Prelude.{drop}
use Rattle.map_follower.specs.Copies.{applied_from}
use Rattle.map_follower.proofs.stepping.applied_from.Given as goal

abbrev pub invariant-loop-bytes : goal.invariant-loop-bytes
invariant-loop-bytes l = record {
  so_far : applied_from l.place l.next (drop l.bytes-index l.updates) ≡ applied_from l.fn.index l.map l.updates;
  counted : l.place ≡ l.fn.index + l.bytes-index;
}
