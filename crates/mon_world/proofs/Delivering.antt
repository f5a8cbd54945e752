-- The arrival of the message of a number.
use Rattle.std.proofs.Common.{◌≡◌, ℕ, zero, suc, ◌-◌, ◌≤◌, List, length, map, get_or, slice_get, Some, refl, sym, ap, ◌∙◌, arith}
use Rattle.std.specs.Option.{option_map}
use Rattle.std.proofs.lemmas.Option.{slice_get-map, slice_get_read}
use Rattle.mon_msg.specs.declared.input.Input.TheVariants as input
use Rattle.mon_wire.specs.declared.message.Message.{Message}
use Rattle.quorum_model.specs.Meets.{Arrival, arrival}
use Rattle.quorum_model.specs.World as model
use Rattle.quorum_model.specs.World.{World, Deliver}
use Rattle.mon_world.specs.declared.sending.Envelope.{Envelope}
use Rattle.mon_world.specs.Represented.{envelope_of}

abbrev comes : ℕ → model.Envelope → Arrival
comes at e = record { rank = e.to; at = at; input = input.Deliver e.message }

pub delivered_so : (sent : List Envelope) (w : World) (number at : ℕ) (e : Envelope) (copy : Message) → map envelope_of sent ≡ w.messages
    → 1 ≤ number → number ≤ length sent → e ≡ get_or sent (number - 1) e → copy ≡ e.message
    → Some (record { rank = e.to; at = at; input = input.Deliver copy }) ≡ arrival w (Deliver number at)
delivered_so sent w zero at e copy are first last is copied = absurd (omega arith)
delivered_so sent w (suc k) at e copy are first last is copied =
    let index : suc k - 1 ≡ k = omega arith in
    let there : slice_get sent k ≡ Some e = slice_get_read sent (length sent) k e refl (omega arith) (is ∙ ap (λ (i : ℕ). get_or sent i e) index) in
    ap (λ (m : Message). Some (record { rank = e.to; at = at; input = input.Deliver m })) copied
    ∙ ap (option_map (comes at)) (sym (slice_get-map envelope_of sent k ∙ ap (option_map envelope_of) there))
    ∙ ap (λ (es : List model.Envelope). option_map (comes at) (slice_get es k)) are
