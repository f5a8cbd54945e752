-- What proposing a command does.
use Rattle.std.proofs.Common.{◌≡◌, ◌≢◌, ℕ, suc, ◌+◌, ◌^◌, ◌<◌, ◌≤◌, min, List, [], ◌∷◌, Result, Ok, Err, refl, arith}
use Rattle.std.proofs.lemmas.Bool.{le-leb, lt-leb}
use Rattle.mon_bytes.specs.Makes.{RefusesAs}
use Rattle.mon_bytes.specs.declared.command.Command.{Command}
use Rattle.mon_bytes.specs.declared.command.CommandRefused.TheVariants as refused
use Rattle.mon_bytes.specs.declared.command.CommandRefused.{CommandRefused}
use Rattle.mon_msg.specs.Protocol.Course.{Course, clients_are}
use Rattle.mon_msg.specs.Protocol.Proposing.{refusal, asked_of, propose}
use Rattle.mon_msg.specs.Protocol.Readings.{Readings, epoch_of}
use Rattle.mon_msg.specs.Protocol.Sending.{answer_to}
use Rattle.mon_msg.specs.Protocol.Services.{service_last}
use Rattle.mon_msg.specs.Protocol.Timers.{length_of}
use Rattle.mon_msg.specs.Protocol.Value.{service_of, value}
use Rattle.mon_msg.specs.declared.clients.Clients.{Clients}
use Rattle.mon_msg.specs.declared.plan.Arming.TheVariants as arming
use Rattle.mon_msg.specs.declared.plan.Next.TheVariants as next
use Rattle.mon_msg.specs.declared.plan.Origin.{Origin}
use Rattle.mon_msg.specs.declared.view.Me.{Me}
use Rattle.mon_tx.specs.declared.op.Op.{Op}
use Rattle.mon_types.specs.declared.names.Which.TheVariants as which
use Rattle.mon_wire.specs.declared.phase.Timer.TheVariants as timer
use Rattle.mon_plan.specs.Plans.{done, act}
use Rattle.mon_client.proofs.Planned.{plan_of}

pub refused_is : {X : Type 0} (e : CommandRefused) (wanted : Result X CommandRefused) → RefusesAs e wanted → e ≢ refused.OutOfMemory → wanted ≡ Err e
refused_is refused.NoSuch wanted h ne = h
refused_is (refused.TooLong len most) wanted h ne = h
refused_is (refused.MapFull would_be) wanted h ne = h
refused_is refused.OutOfMemory wanted h ne = absurd (ne refl)

module _ (me : Me) (now : ℕ) (s : Clients) (c : Command) (o : Origin) (x : Course) where
  pub propose-spent : 2 ^ 62 ≤ service_last x.readings (service_of c) → propose me now c o (clients_are s x) ≡ Err which.Version
  unfolding propose
  propose-spent h = let t = lt-leb (suc (service_last x.readings (service_of c))) (2 ^ 62) (omega arith) in rw t refl

  pub propose-made : service_last x.readings (service_of c) < 2 ^ 62 → (v : List Op) → value x.readings c (asked_of me o) ≡ Ok v
      → propose me now c o (clients_are s x) ≡ act me now (next.Begin v o) (done clients_are [] (plan_of [] [] s (next.Begin v o)) x)
  unfolding propose
  propose-made h v made = let t = le-leb (suc (service_last x.readings (service_of c))) (2 ^ 62) (omega arith) in rw (t, made) refl

  pub propose-refused : (w : Readings) → x.readings ≡ w → service_last x.readings (service_of c) < 2 ^ 62 → (e : CommandRefused) → value x.readings c (asked_of me o) ≡ Err e
      → propose me now c o (clients_are s x)
      ≡ Ok (done clients_are [] (plan_of (answer_to me (epoch_of w) o (refusal e) ∷ []) (arming.Arm timer.Propose (min (now + length_of timer.Propose) (2 ^ 62)) ∷ []) s next.Stay) x)
  unfolding propose
  propose-refused w b h e refused =
      let t = le-leb (suc (service_last x.readings (service_of c))) (2 ^ 62) (omega arith) in
      rw (t, refused)
      (λ i. Ok (done clients_are [] (plan_of (answer_to me (epoch_of (b i)) o (refusal e) ∷ []) (arming.Arm timer.Propose (min (now + length_of timer.Propose) (2 ^ 62)) ∷ []) s next.Stay) x))
