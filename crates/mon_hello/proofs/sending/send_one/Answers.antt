use Rattle.std.proofs.Common.{rules, Err, ap, ◌∙◌}
use Rattle.mon_hello.proofs.Following.{no_memory_for_one, one_settled}
use Rattle.mon_hello.proofs.sending.send_one.Goals as goal

pub returns-in-Err-OutOfMemory-clause-grows : goal.returns-in-Err-OutOfMemory-clause-grows
returns-in-Err-OutOfMemory-clause-grows g c =
    no_memory_for_one _ _ c.args.to c.args.bytes.now c.send.result c.send.ensures.goes_on (c.in-Err-OutOfMemory.is ∙ ap (λ e. Err e) c.in-Err-OutOfMemory.field-0-is)

pub returns-in-Ok-clause-grows : goal.returns-in-Ok-clause-grows
returns-in-Ok-clause-grows g c = one_settled _ _ c.args.to c.args.bytes.now c.send.result c.send.ensures.goes_on (search rules)

pub returns-in-Ok-2-clause-grows : goal.returns-in-Ok-2-clause-grows
returns-in-Ok-2-clause-grows g c = one_settled _ _ c.args.to c.args.bytes.now c.send.result c.send.ensures.goes_on (search rules)
