use Rattle.std.proofs.Common.{decimal, ◌∙◌, arith}
use Rattle.task_words.proofs.Given.{number_given}
use Rattle.task_words.proofs.matched.number_in.Goals as goal

pub returns-clause-given : goal.returns-clause-given
returns-clause-given c = λ n low high found.
    number_given c.args.least c.args.most c.as_bytes.result.now c.number_of.result c.ok_or.result n (omega (arith, c.ranges.most)) c.number_of.ensures c.ok_or.ensures.value low high
    (c.as_bytes.ensures.value ∙ c.in_ok-text.ensures (decimal n) found)
