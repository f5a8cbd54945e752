use Rattle.std.proofs.Common.{decimal, ◌∙◌}
use Rattle.task_words.proofs.Given.{member_given}
use Rattle.task_words.proofs.matched.member_in.Goals as goal

pub returns : goal.returns
returns c = λ m rank_found monitors_found.
    member_given c.as_bytes.result.now c.as_bytes-2.result.now c.member_of.result c.ok_or.result m c.member_of.ensures.parsed c.member_of.ensures.none c.ok_or.ensures.value
    (c.as_bytes.ensures.value ∙ c.in_ok-rank.ensures (decimal m.rank) rank_found) (c.as_bytes-2.ensures.value ∙ c.in_ok-monitors.ensures (decimal m.monitors) monitors_found)
