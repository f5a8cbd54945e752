-- Calls for an election that a monitor still makes.
use Rattle.mon_msg.specs.Protocol.Readings.{epoch_of, readings_of}
use Rattle.mon_msg.specs.Protocol.State.{State}
use Rattle.mon_types.specs.Ranks.{has}
use Rattle.mon_wire.specs.declared.body.Body.TheVariants as body
use Rattle.mon_wire.specs.declared.body.Body.{Body}
use Rattle.mon_wire.specs.declared.phase.Phase.TheVariants as phase
use Rattle.quorum_model.specs.Meets.{message_at}
use Rattle.quorum_model.specs.World.{Arrives, Deliver, Envelope, Event, World}
use Rattle.std.specs.Prelude.{Some, length, true, ℕ, ◌<◌, ◌≡◌, ◌⊎◌}

abbrev pub IsCall : Body → Type 0
IsCall (body.Propose table) = Unit {0}
IsCall other = ⊥

-- monitor f is a candidate of the election of this epoch
pub record IsCandidate (w : World) (f epoch : ℕ) : Type 0 where
  pub state : State
  pub up : w.state f ≡ Some state
  pub elects : state.phase ≡ phase.Electing
  pub calls : state.elector.candidate ≡ true
  pub epoch_is : epoch_of (readings_of (w.store f)) ≡ epoch

-- monitor f has i's acknowledgement
pub record HasAck (w : World) (f i : ℕ) : Type 0 where
  pub state : State
  pub up : w.state f ≡ Some state
  pub acked : has state.elector.acked i ≡ true

-- Message k is a call from f to i for the election in which f is a candidate, and f has no acknowledgement of i.
pub record Calls (w : World) (k f i : ℕ) : Type 0 where
  pub envelope : Envelope
  pub there : message_at w.messages k ≡ Some envelope
  pub call : IsCall envelope.message.body
  pub sender : envelope.message.from ≡ f
  pub receiver : envelope.to ≡ i
  pub still : IsCandidate w f envelope.message.epoch
  pub unheard : HasAck w f i → ⊥

abbrev pub IsDelivery : ℕ → Event → Type 0
IsDelivery k (Arrives (Deliver message at)) = message ≡ k
IsDelivery k other = ⊥

-- the event sends a call from f to i, or delivers one
pub record IsNewCall (before after : World) (e : Event) (f i : ℕ) : Type 0 where
  pub number : ℕ
  pub envelope : Envelope
  pub there : message_at after.messages number ≡ Some envelope
  pub call : IsCall envelope.message.body
  pub sender : envelope.message.from ≡ f
  pub receiver : envelope.to ≡ i
  pub comes : (length before.messages < number) ⊎ IsDelivery number e
