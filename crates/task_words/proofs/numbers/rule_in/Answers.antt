use Rattle.schedule_text.proofs.HeaderLaws.{rule_takes}
use Rattle.task_words.proofs.NumberLaws.{no_rule}
use Rattle.task_words.proofs.numbers.rule_in.Goals as goal

pub returns-in-Ok : goal.returns-in-Ok
returns-in-Ok c = rule_takes c.args.monitors c.args.word.now c.in-Ok.rule c.in-Ok.ensures

pub returns-in-Err : goal.returns-in-Err
returns-in-Err c = λ r fits is. no_rule c.args.monitors c.args.word.now c.in-Err.field-0 c.in-Err.ensures r fits is
