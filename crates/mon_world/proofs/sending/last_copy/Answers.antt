use Rattle.std.proofs.Common.{◌≡◌, ◌-◌, IfOk, length, refl, subst}
use Rattle.mon_wire.specs.declared.message.Message.{Message}
use Rattle.mon_world.specs.declared.sending.Envelope.{Envelope}
use Rattle.mon_world.proofs.Outgoing.{last_is}
use Rattle.mon_world.proofs.sending.last_copy.Goals as goal

pub returns : goal.returns
returns c = λ before last ends.
    let all = c.args.messages.now in
    subst (λ (e : Envelope). IfOk c.copy.result (λ (copy : Message). copy ≡ e.message))
    (last_is all before last c.index-messages-place.result (length all - 1) ends refl c.index-messages-place.is) c.copy.ensures
