use Rattle.std.proofs.Common.{length, map}
use Rattle.mon_kv.specs.Readers.{entries_after}
use Rattle.mon_kv.specs.Chunks.{shared_of, plain}
use Rattle.mon_kv.proofs.ChunkLaws.{RunsOn}
use Rattle.mon_kv.proofs.kv.Kv.run_from.Given as goal

abbrev pub invariant-loop-found : goal.invariant-loop-found
invariant-loop-found l =
    RunsOn (shared_of l.last (entries_after l.self (l.fn.prefix, l.fn.key))) l.fn.room l.fn.most (map plain l.entries.items) l.left (shared_of l.last (entries_after l.self (l.passed_prefix, l.passed_key)))

abbrev pub decreases-loop-found : goal.decreases-loop-found
decreases-loop-found l = length (entries_after l.self (l.passed_prefix, l.passed_key))
