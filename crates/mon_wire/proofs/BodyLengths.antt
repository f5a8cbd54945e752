-- How many bytes messages take.
use Rattle.std.proofs.Common.{◌≡◌, ℕ, ◌≤◌, length, refl, length-append, arith}
use Rattle.mon_tx.specs.Text.{text as transaction_text}
use Rattle.mon_wire.specs.declared.body.Body.{Body}
use Rattle.mon_wire.specs.declared.body.Body.TheVariants as body
use Rattle.mon_wire.specs.declared.message.Message.{Message}
use Rattle.mon_wire.specs.Message.Bodies.{encoded}
use Rattle.mon_wire.specs.Message.Whole.{text, IsMessage}
use Rattle.mon_wire.specs.Message.Length.{body_length, message_length}
use Rattle.mon_wire.specs.Message.Fields.{number_bytes}
use Rattle.mon_wire.proofs.PartLengths.{length-number_bytes, length-set_bytes, length-text_bytes, length-values, length-entries, length-told, length-place, length-command, length-request, length-reply, length-scored}

length-body : (n own : ℕ) (b : Body) → n ≤ 15 → (encoded n own b).Form → length (encoded n own b).text ≡ body_length n b
length-body n own body.Probe few form = refl
length-body n own (body.ProbeReply quorum first last) few form = simp (length-append, length-number_bytes, length-set_bytes)
length-body n own (body.Propose table) few form = length-scored n own table few form
length-body n own body.Ack few form = refl
length-body n own (body.Victory quorum) few form = length-set_bytes quorum
length-body n own (body.Collect pn first last) few form = simp (length-append, length-number_bytes)
length-body n own (body.Last pn first last whole from values pending) few form =
    omega (arith, length-append {A = ℕ}, length-number_bytes, length-values values, length-told pending)
length-body n own (body.Begin pn version value) few form = omega (arith, length-append {A = ℕ}, length-number_bytes, length-text_bytes (transaction_text value))
length-body n own (body.Accept pn version) few form = simp (length-append, length-number_bytes)
length-body n own (body.Commit from values) few form = omega (arith, length-append {A = ℕ}, length-number_bytes from, length-values values)
length-body n own (body.Lease last) few form = length-number_bytes last
length-body n own (body.LeaseAck last) few form = length-number_bytes last
length-body n own (body.Forward seq command) few form = omega (arith, length-append {A = ℕ}, length-number_bytes, length-command command)
length-body n own (body.Route seq reply) few form = omega (arith, length-append {A = ℕ}, length-number_bytes, length-reply reply)
length-body n own body.GetCookieFull few form = refl
length-body n own (body.GetCookieRecent last) few form = length-number_bytes last
length-body n own (body.Cookie full cookie last) few form = simp (length-append, length-number_bytes)
length-body n own (body.GetChunk cookie place) few form = omega (arith, length-append {A = ℕ}, length-number_bytes, length-place place)
length-body n own (body.Chunk cookie place values entries done) few form =
    omega (arith, length-append {A = ℕ}, length-number_bytes, length-place place, length-values values, length-entries entries)
length-body n own (body.LastChunk cookie place values entries last) few form =
    omega (arith, length-append {A = ℕ}, length-number_bytes, length-place place, length-values values, length-entries entries)
length-body n own (body.NoCookie cookie) few form = simp (length-append, length-number_bytes)
length-body n own (body.Ping table) few form = length-scored n own table few form
length-body n own (body.PingReply table) few form = length-scored n own table few form
length-body n own (body.Request id request) few form = omega (arith, length-append {A = ℕ}, length-number_bytes, length-request request)
length-body n own (body.Reply id reply) few form = omega (arith, length-append {A = ℕ}, length-number_bytes, length-reply reply)

pub length-message : (m : Message) → IsMessage m → message_length m.monitors m.body ≡ length (text m)
length-message m is =
    omega (
      arith,
      length-append (number_bytes m.epoch) (encoded m.monitors m.from m.body).text,
      length-number_bytes m.epoch,
      length-body m.monitors m.from m.body is.monitors is.body,
    )
