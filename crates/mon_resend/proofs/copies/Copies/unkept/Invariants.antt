use Rattle.std.proofs.Common.{◌≡◌, ◌-◌, ◌^◌, take}
use Rattle.std.specs.Prelude.{min}
use Rattle.std.specs.List.{sum_by}
use Rattle.mon_resend.proofs.copies.Copies.unkept.Given as goal

abbrev pub invariant-loop-outbox : goal.invariant-loop-outbox
invariant-loop-outbox l = l.unkept ≡ min (sum_by (λ b. b.unkept) (take l.outbox-index l.self.boxes)) (2 ^ 64 - 1)
