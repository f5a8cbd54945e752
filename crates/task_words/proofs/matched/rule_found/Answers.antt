use Rattle.std.proofs.Common.{◌∙◌}
use Rattle.schedule_text.specs.Encoding.{rule_text}
use Rattle.task_words.proofs.Given.{rule_given}
use Rattle.task_words.proofs.matched.rule_found.Goals as goal

pub returns : goal.returns
returns c = λ rule fits found.
    rule_given c.args.monitors c.as_bytes.result.now c.rule_in.result c.ok_or.result rule c.rule_in.ensures c.ok_or.ensures.value fits
    (c.as_bytes.ensures.value ∙ c.in_ok-text.ensures (rule_text rule) found)
