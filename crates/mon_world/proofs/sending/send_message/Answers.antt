use Rattle.std.proofs.Common.{[], ◌∷◌, length, refl, ap, ◌∙◌, arith, length-append}
use Rattle.mon_world.specs.declared.sending.Envelope.{Envelope}
use Rattle.mon_world.proofs.Outgoing.{message_sent}
use Rattle.mon_world.proofs.sending.send_message.Goals as goal

pub last_copy-requires : goal.last_copy-requires
last_copy-requires c =
    let e : Envelope = record { to = c.args.to; message = c.args.message } in
    omega (arith, ap length (c.as_slice.ensures.value ∙ c.in_ok-push.ensures.items), length-append c.args.messages.now.items (e ∷ []))

pub returns : goal.returns
returns c = λ rank.
    let e : Envelope = record { to = c.args.to; message = c.args.message } in
    let old = c.args.messages.now.items in
    message_sent rank _ c.args.to c.args.message c.in_ok-copy.copy old _ c.args.gone.now _ c.in_ok-push.ensures.items
    (c.in_ok-copy.ensures old e (c.as_slice.ensures.value ∙ c.in_ok-push.ensures.items)) (omega (arith, c.len.ensures, c.push.new.self.ok.0)) c.in_ok-push-2.ensures.ok refl
