-- What may come or go has a text.
use Rattle.std.proofs.Common.{ℕ}
use Rattle.mon_bounds.specs.Fitting.{IsValidInput, MaySend, answer_in}
use Rattle.mon_bounds.specs.Remembered.{IsNumber}
use Rattle.mon_bounds.proofs.Texts.{has_text}
use Rattle.mon_core.specs.Reacts.{SendsNamed}
use Rattle.mon_msg.specs.declared.input.Input.TheVariants as input
use Rattle.mon_msg.specs.declared.plan.Sent.TheVariants as sent
use Rattle.mon_msg.specs.declared.view.Me.{Me}
use Rattle.mon_wire.specs.Message.Whole.{HasText}
use Rattle.mon_wire.specs.declared.message.Message.{Message}
use Rattle.mon_wire.specs.declared.reply.Reply.{Reply}
use Rattle.mon_wire.specs.declared.request.Session.{Session}

pub may_deliver : (m : Message) → HasText m → IsValidInput (input.Deliver m)
may_deliver m h = (has_text m).0 h

pub sent_text : (me : Me) (to : ℕ) (m : Message) → MaySend me (sent.Message to m) → SendsNamed (sent.Message to m) → HasText m
sent_text me to m may named = (has_text m).1 (may.1.form named, may.1.fits)

pub answer_text : (me : Me) (e : ℕ) (to : Session) (r : Reply) → MaySend me (sent.Reply to r) → IsNumber e → HasText (answer_in me e to r)
answer_text me e to r may n = (has_text (answer_in me e to r)).1 ((may e n).form tt, (may e n).fits)
