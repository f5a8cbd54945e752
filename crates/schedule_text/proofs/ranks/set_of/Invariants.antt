use Rattle.std.proofs.Common.{◌-◌}
use Rattle.std.specs.Option.{option_copied}
use Rattle.schedule_text.proofs.RankLaws.{Reading}
use Rattle.schedule_text.proofs.ranks.set_of.Given as goal

abbrev pub invariant-loop-n : goal.invariant-loop-n
invariant-loop-n l = Reading l.monitors l.n (15 - l.n) l.set (option_copied l.rest) (option_copied l.text)
