use Rattle.std.proofs.Common.{arith}
use Rattle.mon_bytes.proofs.Forms.{is_found, is_only}
use Rattle.mon_bytes.proofs.decode.Decode.decode.Goals as goal

pub returns-clause-found : goal.returns-clause-found
returns-clause-found g c =
    is_found g.Self.Decode.format c.read_whole.ensures.lawful c.args.bytes.now c.read_whole.result (λ i. omega (arith, c.type_inv.bytes i)) c.read_whole.ensures.value

pub returns-clause-only : goal.returns-clause-only
returns-clause-only g c = is_only g.Self.Decode.format c.read_whole.ensures.lawful c.args.bytes.now c.read_whole.result c.read_whole.ensures.value
