use Rattle.std.proofs.Common.{arith}
use Rattle.task_words.proofs.NumberLaws.{no_number, number_is}
use Rattle.task_words.proofs.numbers.number_of.Goals as goal

pub returns-in-Ok : goal.returns-in-Ok
returns-in-Ok c = number_is c.args.least c.args.most c.in-Ok.number c.args.word.now (omega (arith, c.ranges.most)) c.in-Ok.ensures.value

pub returns-in-Err : goal.returns-in-Err
returns-in-Err c = λ n fits is. no_number c.args.least c.args.most c.args.word.now c.in-Err.field-0 (omega (arith, c.ranges.most)) c.in-Err.ensures.value n fits is
