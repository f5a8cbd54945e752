-- A message has an encoding if and only if it has the form of messages and fits.
use Rattle.std.proofs.Common.{◌≡◌, ℕ, ◌<◌, ◌^◌, true, ◌↔◌, List, length, IsTrue, refl, arith}
use Rattle.std.proofs.lemmas.Bool.{and_from, le-leb}
use Rattle.mon_msg.specs.Protocol.Length.{fits, short_list, short_lists}
use Rattle.mon_wire.proofs.BodyLengths.{length-message}
use Rattle.mon_wire.specs.Message.Bodies.{encoded}
use Rattle.mon_wire.specs.Message.Client.{a_reply, a_routed}
use Rattle.mon_wire.specs.Message.Whole.{HasText, IsMessage}
use Rattle.mon_wire.specs.declared.body.Body.TheVariants as body
use Rattle.mon_wire.specs.declared.body.Body.{Body}
use Rattle.mon_wire.specs.declared.message.Message.{Message}
use Rattle.mon_wire.specs.declared.reply.Reply.TheVariants as reply
use Rattle.mon_wire.specs.declared.reply.Reply.{Reply}
use Rattle.mon_bounds.proofs.Messages.{fits_length, within}

counted : {A : Type 0} (xs : List A) → length xs < 2 ^ 16 → short_list xs ≡ true
counted xs h = le-leb (length xs) 65535 (omega arith)

routed_lists : (seq : ℕ) (r : Reply) → a_routed.Form r → short_lists (body.Route seq r) ≡ true
routed_lists seq (reply.Done v) h = refl
routed_lists seq (reply.Shown s paxos v m) h = refl
routed_lists seq (reply.Since s from incrementals more) h = let told = h.0 in absurd cc
routed_lists seq reply.NoSuch h = refl
routed_lists seq (reply.TooLong len most) h = refl
routed_lists seq (reply.MapFull would_be) h = refl
routed_lists seq reply.Unavailable h = refl
routed_lists seq (reply.NotReadable has lease) h = refl
routed_lists seq (reply.Busy waiting) h = refl

replied_lists : (id : ℕ) (r : Reply) → a_reply.Form r → short_lists (body.Reply id r) ≡ true
replied_lists id (reply.Done v) h = refl
replied_lists id (reply.Shown s paxos v m) h = refl
replied_lists id (reply.Since s from incrementals more) h = counted incrementals h.1.1.1.0
replied_lists id reply.NoSuch h = refl
replied_lists id (reply.TooLong len most) h = refl
replied_lists id (reply.MapFull would_be) h = refl
replied_lists id reply.Unavailable h = refl
replied_lists id (reply.NotReadable has lease) h = refl
replied_lists id (reply.Busy waiting) h = refl

lists : (n own : ℕ) (b : Body) → (encoded n own b).Form → short_lists b ≡ true
lists n own (body.Last pn first last whole from values pending) h = counted values h.1.1.1.1.1.0.0
lists n own (body.Commit from values) h = counted values h.1.1.0
lists n own (body.Route seq r) h = routed_lists seq r h.1
lists n own (body.Chunk cookie place values entries done) h = and_from (short_list values) (short_list entries) (counted values h.1.1.0.0) (counted entries h.1.1.1.0.0)
lists n own (body.LastChunk cookie place values entries last) h = and_from (short_list values) (short_list entries) (counted values h.1.1.0.0) (counted entries h.1.1.1.0.0)
lists n own (body.Reply id r) h = replied_lists id r h.1
lists n own b h = refl

fits_then : (m : Message) → HasText m → IsMessage m × IsTrue (fits m.monitors m.body)
fits_then m h =
    let form = h.form in
    let short = h.short in
    (form, within m.monitors m.body (omega (arith, length-message m form, short)) (lists m.monitors m.from m.body form.body))

text_then : (m : Message) → IsMessage m × IsTrue (fits m.monitors m.body) → HasText m
text_then m k = record { form = k.0; short = omega (arith, length-message m k.0, fits_length m.monitors m.body k.1) }

pub has_text : (m : Message) → HasText m ↔ (IsMessage m × IsTrue (fits m.monitors m.body))
has_text m = (fits_then m, text_then m)
