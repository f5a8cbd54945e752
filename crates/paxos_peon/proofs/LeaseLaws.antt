-- What a peon does at a lease.
use Rattle.std.proofs.Common.{◌≡◌, ℕ, ◌+◌, ◌^◌, Bool, true, false, not, ◌||◌, [], ◌∷◌, min, is_some, Ok, refl, ap, ◌∙◌}
use Rattle.std.specs.Bool.{◌==◌}
use Rattle.mon_lease.specs.Lease as lease
use Rattle.mon_msg.specs.Protocol.Course.{Course, peon_is}
use Rattle.mon_msg.specs.Protocol.Peon.{hear_lease}
use Rattle.mon_msg.specs.Protocol.Readings.{Readings, epoch_of}
use Rattle.mon_msg.specs.Protocol.Records.{pending}
use Rattle.mon_msg.specs.Protocol.Sending.{message_to}
use Rattle.mon_msg.specs.Protocol.Timers.{length_of}
use Rattle.mon_msg.specs.declared.paxos.Peon.{Peon}
use Rattle.mon_msg.specs.declared.plan.Arming.TheVariants as arming
use Rattle.mon_msg.specs.declared.view.Me.{Me}
use Rattle.mon_plan.specs.Plans.{done}
use Rattle.mon_wire.specs.declared.body.Body.TheVariants as body
use Rattle.mon_wire.specs.declared.phase.Timer.TheVariants as timer
use Rattle.paxos_peon.specs.Rows.{IsOurs}
use Rattle.paxos_peon.proofs.Ours.{along, plan_of}

module _ (w : Readings) (s : Peon) (f e : ℕ) (x : Course) (b : IsOurs w s f e x) (me : Me) (now v : ℕ) where
  abbrev pub refused : Readings → Bool
  refused r = not (v == r.last) || is_some (pending r)

  pub lease-dropped : refused w ≡ true → hear_lease me now f e v x ≡ Ok x
  unfolding hear_lease
  lease-dropped h =
      let ours = b.ours in
      let t = ap refused b.readings ∙ h in
      rw (ours, t) refl

  abbrev pub takes : Readings → Peon → Type 0
  takes w s =
      hear_lease me now f e v x
      ≡ Ok (done peon_is [] (plan_of [] (message_to me (epoch_of w) (body.LeaseAck w.last) f ∷ []) (arming.Arm timer.Lease (min (now + length_of timer.Lease) (2 ^ 62)) ∷ []) (record s { lease = lease.extended now })) x)

  pub lease-taken : refused w ≡ false → takes w s
  unfolding hear_lease
  lease-taken h =
      let ours = b.ours in
      let t = ap refused b.readings ∙ h in
      along w s f e x b takes (rw (ours, t) refl)
