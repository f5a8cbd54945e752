use Rattle.std.proofs.Common.{OnOk, sym, subst}
use Rattle.mon_msg.specs.declared.plan.Sent.{Sent}
use Rattle.mon_world.specs.Sending.{Sends}
use Rattle.mon_world.proofs.sending.send_one.Goals as goal

pub returns-in-Message : goal.returns-in-Message
returns-in-Message c =
    subst (λ (one : Sent). OnOk c.send_message.result (Sends c.args.rank one c.args.messages.now.items c.send_message.new.messages.items c.args.gone.now c.send_message.new.gone)) (sym c.in-Message.is)
    (c.send_message.ensures c.args.rank)
