use Rattle.std.proofs.Common.{◌≡◌, ◌≤◌, true, not, ◌||◌}
use Rattle.std.specs.List.{range_with_len, list_all}
use Rattle.mon_types.specs.Ranks.{has}
use Rattle.paxos_leader.proofs.sets.are_within.Given as goal

abbrev pub invariant-loop-r : goal.invariant-loop-r
invariant-loop-r l = (list_all (λ k. not (has l.these k) || has l.those k) (range_with_len 0 l.r) ≡ true) × (l.r ≤ l.me.member.monitors)
