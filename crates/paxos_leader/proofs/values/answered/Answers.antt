use Rattle.std.proofs.Common.{◌++◌, Option, sym, ap, ◌∙◌, append-nil}
use Rattle.mon_msg.specs.Protocol.Sending.{answers_to}
use Rattle.mon_msg.specs.declared.plan.Origin.{Origin}
use Rattle.mon_wire.specs.declared.reply.Reply.TheVariants as reply
use Rattle.paxos_leader.proofs.values.answered.Goals as goal

pub returns-in-None : goal.returns-in-None
returns-in-None c =
    (λ i. record c.args.plan { out = sym (append-nil c.args.plan.out) i })
    ∙ ap (λ (o : Option Origin). record c.args.plan { out = c.args.plan.out ++ answers_to c.args.act.now.me.now c.args.act.now.epoch o (reply.Done c.args.version) }) (sym c.in-None.is)
