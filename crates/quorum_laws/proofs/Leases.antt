-- What is known of leases in every run.
use Rattle.law_names.proofs.Runs.{Monitors, World}
use Rattle.law_names.proofs.Table.{Body, State, epoch_of, is_peon}
use Rattle.mon_wire.specs.declared.body.Body.TheVariants as body
use Rattle.quorum_history.proofs.Holds.{BodyHolds, Core, Followed, FollowsIn, InPhase, core_of}
use Rattle.quorum_history.proofs.Phases.{peon_is_peon}
use Rattle.quorum_laws.proofs.Elections.{is_led}
use Rattle.quorum_laws.proofs.Invariant.{InvOf}
use Rattle.quorum_laws.proofs.Reading.{accepted_as, sent_holds, state_holds}
use Rattle.quorum_laws.specs.Accepting.{readings_at}
use Rattle.quorum_laws.specs.Elections.{IsLed}
use Rattle.quorum_laws.specs.Leases.{GiverIsLed, LeaseHolds, LeasesHold}
use Rattle.quorum_walk.proofs.Sparing.{own_of}
use Rattle.std.proofs.Common.{Some, is_some, subst, true, ℕ, ◌≡◌}

module _ (ms : Monitors) (w : World) (I : InvOf ms w) where
  followed : (e l : ℕ) → Followed I.g e l → IsLed ms.count w e l
  followed e l k = is_led ms w I e l k.quorum k.led k.joined

  peon_holds : (i : ℕ) (s : State) → w.state i ≡ Some s → is_peon s.phase ≡ true → is_some s.peon.lease ≡ true → LeaseHolds ms.count w i s
  peon_holds i s up peon t =
      let c : Core = core_of (own_of (readings_at w i)) s in
      let k : FollowsIn I.g i c = subst (InPhase ms.count I.g i c) (peon_is_peon s.phase peon) (state_holds ms w I i s up) in
      record { committed = λ v pn bytes a. let b = accepted_as ms w I i v pn bytes a in k.clear t v pn b.0 b.2; led = followed (epoch_of (readings_at w i)) s.peon.leader (k.led t) }

  giver_led : (from to e : ℕ) (b : Body) → BodyHolds I.g from to e b → GiverIsLed ms.count w from e b
  giver_led from to e (body.Lease last) k = followed e from k
  giver_led from to e other k = tt

  pub leases_hold : LeasesHold ms.count w
  leases_hold = record { peons = peon_holds; messages = λ e c. giver_led e.message.from e.to e.message.epoch e.message.body (sent_holds ms w I e c).body }
