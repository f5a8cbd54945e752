use Rattle.std.proofs.Common.{◌≡◌, ◌-◌, ◌^◌, take, length}
use Rattle.std.specs.Prelude.{min}
use Rattle.std.specs.List.{sum_by}
use Rattle.mon_resend.proofs.shelf.Shelf.bytes.Given as goal

abbrev pub invariant-loop-kept : goal.invariant-loop-kept
invariant-loop-kept l = l.bytes ≡ min (sum_by (λ k. length k.out.bytes) (take l.kept-index l.self)) (2 ^ 64 - 1)
