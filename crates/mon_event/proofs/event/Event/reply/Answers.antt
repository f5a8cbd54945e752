use Rattle.std.proofs.Common.{List, [], ◌∷◌, ap}
use Rattle.mon_msg.specs.declared.plan.Sent.TheVariants as sent
use Rattle.mon_msg.specs.declared.plan.Sent.{Sent}
use Rattle.mon_event.specs.declared.event.Event.{Event}
use Rattle.mon_event.proofs.Going.{says_all}
use Rattle.mon_event.proofs.event.Event.reply.Goals as goal

pub returns : goal.returns
returns c =
    let e = c.args.self.now in
    let after : Event = record e { out = c.push.new.self } in
    says_all e after (sent.Reply c.args.to c.args.reply ∷ []) (ap (λ (out : List Sent). record e { out = out }) c.in_ok-push.ensures.ok)
