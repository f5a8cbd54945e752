use Rattle.std.proofs.Common.{arith}
use Rattle.task_words.proofs.NumberLaws.{no_member}
use Rattle.task_words.proofs.numbers.member_of.Goals as goal

pub returns-clause-none : goal.returns-clause-none
returns-clause-none c = λ none m rank_is monitors_is.
    no_member c.args.rank.now c.args.monitors.now c.in_ok-rank.rank c.in_ok-monitors.monitors c.known.result c.new.result c.in_ok-rank.ensures.0 (omega (arith, c.in_ok-rank.ensures.1.1))
    c.in_ok-monitors.ensures.0 (omega (arith, c.in_ok-monitors.ensures.1.1)) c.known.ensures c.new.ensures.valid none m rank_is monitors_is
