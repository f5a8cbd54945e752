use Rattle.std.proofs.Common.{arith}
use Rattle.svc_core.proofs.Outlines.{decoded_outlined}
use Rattle.svc_core.proofs.outline.outline_of.Goals as goal

pub returns-in-Some-clause-outline : goal.returns-in-Some-clause-outline
returns-in-Some-clause-outline c =
    decoded_outlined c.args.key.now (record { held = c.in-Some.held; most = c.length-most.result }) c.args.bytes.now c.length-most.ensures.bytes (omega (arith, c.length-most.ensures.value, c.if-most-gt-MOST_KV_MAP.false))
    (omega (arith, c.length-most.ensures.value)) c.in-Some.ensures
