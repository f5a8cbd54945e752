use Rattle.std.proofs.Common.{◌-◌, arith}
use Rattle.mon_tx.proofs.Unread.{goes_on, stops}
use Rattle.mon_tx.proofs.encoded_ops.EncodedOps.next_op.Goals as goal

pub returns-in-Ok-clause-op : goal.returns-in-Ok-clause-op
returns-in-Ok-clause-op c = rw c.is_range.ensures (goes_on _ _ (c.args.self.now.left - 1) _ _ _ _ (omega (arith, c.if-self-eq0.false)) c.in-Ok.ensures.op)

pub returns-in-Err-clause-op : goal.returns-in-Err-clause-op
returns-in-Err-clause-op c = stops _ _ (c.args.self.now.left - 1) _ _ _ (omega (arith, c.if-self-eq0.false)) c.in-Err.ensures.op
