use Rattle.std.proofs.Common.{◌≡◌, ◌*◌, map}
use Rattle.std.specs.List.{range_with_len}
use Rattle.mon_frag.specs.Pieces.{piece}
use Rattle.mon_frag.proofs.cutting.cut_up.Given as goal

abbrev pub invariant-loop-k : goal.invariant-loop-k
invariant-loop-k l = l.datagrams ≡ map (λ k. piece l.fn.message l.fn.boot l.fn.seq (59000 * k)) (range_with_len 0 l.k)
