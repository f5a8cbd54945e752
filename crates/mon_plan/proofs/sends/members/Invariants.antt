use Rattle.std.proofs.Common.{◌≡◌, ◌≤◌, not, ◌&&◌, ◌==◌, filter}
use Rattle.std.specs.List.{range_with_len}
use Rattle.mon_types.specs.Ranks.{has}
use Rattle.mon_plan.proofs.sends.members.Given as goal

abbrev pub invariant-loop-r : goal.invariant-loop-r
invariant-loop-r l = (l.ranks.items ≡ filter (λ k. has l.quorum k && not (k == l.me.member.rank)) (range_with_len 0 l.r)) × (l.r ≤ l.me.member.monitors)
