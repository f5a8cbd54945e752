use Rattle.svc_core.proofs.Transactions.{follows_after}
use Rattle.svc_core.proofs.cache.Cache.follow.Goals as goal

pub returns-in-Ok-clause-follows : goal.returns-in-Ok-clause-follows
returns-in-Ok-clause-follows c =
    follows_after c.args.self.now c.follow_ops.new.self c.args.tx.now (rw c.ops.ensures.value at c.in-Ok.ensures.known)
