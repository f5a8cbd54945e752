use Rattle.std.proofs.Common.{◌≡◌, not, ◌==◌, filter, take}
use Rattle.mon_client.proofs.handed_on.others.Given as goal

abbrev pub invariant-loop-asked : goal.invariant-loop-asked
invariant-loop-asked l = l.kept ≡ filter (λ a. not (a.seq == l.seq)) (take l.asked-index l.sessions)
