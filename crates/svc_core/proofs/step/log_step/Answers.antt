use Rattle.std.proofs.Common.{ap, ◌∙◌, sym, Some}
use Rattle.mon_wire.specs.declared.reply.ShownMap.TheVariants as map
use Rattle.svc_core.proofs.Steps.{next-log}
use Rattle.svc_core.proofs.step.log_step.Goals as goal

pub returns : goal.returns
returns c =
    next-log c.args.service c.args.map.now c.args.bytes.now c.in-Some.inc (rw c.in-Some.is at c.in_ok-inc.ensures.value)
    ∙ ap (λ es. Some (map.Log es)) (sym c.in_ok-apply.ensures.ok)
