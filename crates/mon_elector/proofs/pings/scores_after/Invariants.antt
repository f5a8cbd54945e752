use Rattle.std.proofs.Common.{◌≡◌, drop}
use Rattle.mon_msg.specs.Protocol.Pings.{scores_after}
use Rattle.mon_elector.proofs.pings.scores_after.Given as goal

abbrev pub invariant-loop-rank : goal.invariant-loop-rank
invariant-loop-rank l = scores_after l.seconds l.heard (drop l.rank-index l.ranks) l.after ≡ scores_after l.seconds l.heard l.ranks l.scores
