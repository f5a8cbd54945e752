-- What holds as long as a lease isn't cancelled, whatever its time.
use Rattle.mon_msg.specs.Protocol.Phases.{is_peon}
use Rattle.mon_msg.specs.Protocol.Readings.{epoch_of}
use Rattle.mon_msg.specs.Protocol.State.{State}
use Rattle.mon_wire.specs.declared.body.Body.TheVariants as body
use Rattle.mon_wire.specs.declared.body.Body.{Body}
use Rattle.quorum_laws.specs.Accepting.{HasAccepted, readings_at}
use Rattle.quorum_laws.specs.Elections.{IsLed}
use Rattle.quorum_model.specs.World.{Envelope, World}
use Rattle.std.proofs.Common.{List, Some, true, ℕ, ◌≡◌, ◌≤◌}
use Rattle.std.specs.List.{Contains}
use Rattle.std.specs.Prelude.{is_some}

-- A peon with a lease committed each version for which it ever accepted a value, and its leader has its whole quorum.
pub record LeaseHolds (n : ℕ) (w : World) (i : ℕ) (s : State) : Type 0 where
  pub committed : (v pn : ℕ) (bytes : List ℕ) → HasAccepted w i v pn bytes → v ≤ (readings_at w i).last
  pub led : IsLed n w (epoch_of (readings_at w i)) s.peon.leader

-- the sender of a LEASE has its whole quorum
abbrev pub GiverIsLed : ℕ → World → (from e : ℕ) → Body → Type 0
GiverIsLed n w from e (body.Lease last) = IsLed n w e from
GiverIsLed n w from e other = Unit {0}

pub record LeasesHold (n : ℕ) (w : World) : Type 0 where
  pub peons : (i : ℕ) (s : State) → w.state i ≡ Some s → is_peon s.phase ≡ true → is_some s.peon.lease ≡ true → LeaseHolds n w i s
  pub messages : (e : Envelope) → Contains w.messages e → GiverIsLed n w e.message.from e.message.epoch e.message.body
