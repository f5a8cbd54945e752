-- How a monitor begins again.
use Rattle.std.proofs.Common.{◌≡◌, ℕ, ◌+◌, ◌≤◌, ◌<◌, ◌^◌, Bool, true, false, not, ◌&&◌, leb, ltb, List, [], ◌∷◌, map, min, Ok, Err, refl, sym, ap, ◌∙◌, subst}
use Rattle.std.proofs.lemmas.Bool.{le-leb, lt-leb}
use Rattle.election_rules.specs.Ranking.{allows}
use Rattle.mon_msg.specs.Protocol.Changes.{Epoch}
use Rattle.mon_msg.specs.Protocol.Collecting.{reign}
use Rattle.mon_msg.specs.Protocol.Course.{Course}
use Rattle.mon_msg.specs.Protocol.Entering.{bootstrap, next_even}
use Rattle.mon_msg.specs.Protocol.Readings.{Readings, epoch_of}
use Rattle.mon_msg.specs.Protocol.Sending.{others, message_to}
use Rattle.mon_msg.specs.Protocol.Sets.{only}
use Rattle.mon_msg.specs.declared.election.Prober.{Prober}
use Rattle.mon_msg.specs.declared.plan.Arming.TheVariants as arming
use Rattle.mon_msg.specs.declared.plan.Next.TheVariants as next
use Rattle.mon_msg.specs.declared.plan.Sent.{Sent}
use Rattle.mon_msg.specs.declared.view.Me.{Me}
use Rattle.mon_plan.specs.Plans.{entered}
use Rattle.mon_plan.proofs.Planning.{sending-is}
use Rattle.mon_types.specs.declared.names.Which.TheVariants as which
use Rattle.mon_wire.specs.declared.body.Body.TheVariants as body
use Rattle.mon_wire.specs.declared.phase.Timer.TheVariants as timer
use Rattle.mon_probe.specs.Rows.{IsBegun}
use Rattle.mon_probe.proofs.Known.{planned}

module _ (me : Me) (now : ℕ) where
  abbrev pub alone : Prober
  alone = record { outside = only me.member.rank }

  abbrev pub probes : ℕ → List Sent
  probes e = map (message_to me e body.Probe) (others me)

module _ (me : Me) (now : ℕ) (w : Readings) (e : ℕ) (x : Course) (b : IsBegun me w e x) where
  abbrev pub asks : ℕ → Type 0
  asks k = bootstrap me now x ≡ Ok (planned [] (probes me now k) (arming.Arm timer.Probe (min (now + 2000) (2 ^ 62)) ∷ []) (alone me now) next.Stay (entered next.Bootstrap x))

  pub begin-asks : ltb 1 me.member.monitors ≡ true → asks e
  unfolding bootstrap
  begin-asks many = subst asks b.epoch (rw many (ap (λ y. Ok y) (sym (sending-is (probes me now (epoch_of x.readings)) _))))

  module _ (one : ltb 1 me.member.monitors ≡ false) where
    abbrev may : Bool → Bool
    may marked = allows me.rule me.member.rank && not marked

    at_mark : (t : Bool) → may w.marked ≡ t → may x.readings.marked ≡ t
    at_mark t h = ap may (b.marked one) ∙ h

    pub begin-waits : may w.marked ≡ false → bootstrap me now x ≡ Ok (planned [] [] [] (alone me now) next.Stay (entered next.Bootstrap x))
    unfolding bootstrap
    begin-waits h = let t = at_mark false h in rw (one, t) refl

    abbrev pub leads : ℕ → Type 0
    leads k =
        bootstrap me now x
        ≡ reign me now (only me.member.rank) (planned (Epoch (next_even k) ∷ []) [] [] (alone me now) (next.Win (only me.member.rank)) (entered next.Bootstrap x))

    pub begin-leads : may w.marked ≡ true → next_even e ≤ 2 ^ 62 → leads e
    unfolding bootstrap
    begin-leads h short =
        let t = at_mark true h in
        let fits = ap (λ k. leb (next_even k) (2 ^ 62)) b.epoch ∙ le-leb (next_even e) (2 ^ 62) short in
        subst leads b.epoch (rw (one, t, fits) refl)

    pub begin-spends : may w.marked ≡ true → 2 ^ 62 < next_even e → bootstrap me now x ≡ Err which.Epoch
    unfolding bootstrap
    begin-spends h over =
        let t = at_mark true h in
        let spent = ap (λ k. leb (next_even k) (2 ^ 62)) b.epoch ∙ lt-leb (next_even e) (2 ^ 62) over in
        rw (one, t, spent) refl
