-- What a monitor does at a probe and at the answer to one.
use Rattle.std.proofs.Common.{◌≡◌, ℕ, ◌+◌, Bool, true, false, ◌&&◌, leb, ltb, List, [], ◌∷◌, Result, Ok, refl, sym, subst, IsTrue}
use Rattle.mon_msg.specs.Protocol.Course.{Course}
use Rattle.mon_msg.specs.Protocol.Entering.{bootstrap, elect}
use Rattle.mon_msg.specs.Protocol.Phases.{same_phase}
use Rattle.mon_msg.specs.Protocol.Probing.{hear_probe, hear_probe_reply}
use Rattle.mon_msg.specs.Protocol.Readings.{Readings, epoch_of}
use Rattle.mon_msg.specs.Protocol.Sending.{message_to}
use Rattle.mon_msg.specs.Protocol.Synchronizing.{full_sync, recent_sync}
use Rattle.mon_msg.specs.Protocol.Table.{timer_comes}
use Rattle.mon_msg.specs.declared.election.Prober.{Prober}
use Rattle.mon_msg.specs.declared.plan.Next.TheVariants as next
use Rattle.mon_msg.specs.declared.view.Me.{Me}
use Rattle.mon_msg.specs.declared.view.View.{View}
use Rattle.mon_types.specs.Ranks.{with_rank, count_of, is_majority}
use Rattle.mon_types.specs.declared.names.Which.{Which}
use Rattle.mon_wire.specs.declared.body.Body.TheVariants as body
use Rattle.mon_wire.specs.declared.phase.Phase.TheVariants as phase
use Rattle.mon_wire.specs.declared.phase.Phase.{Phase}
use Rattle.mon_wire.specs.declared.phase.Timer.TheVariants as timer
use Rattle.mon_wire.specs.declared.phase.Timer.{Timer}
use Rattle.mon_probe.specs.Rows.{is_rung}
use Rattle.mon_probe.proofs.Known.{Met, planned, along, at_phase, at_store, at_role}

module _ (me : Me) (now : ℕ) (w : Readings) (v : View) (s : Prober) (x : Course) (b : Met me now w v s x) (f : ℕ) where
  pub probe-marked : w.marked ≡ true → hear_probe me f x ≡ Ok x
  unfolding hear_probe
  probe-marked h = let t = at_store me now w v s x b (λ r. r.marked) true h in rw t refl

  abbrev pub answers : Readings → List Bool → Prober → Type 0
  answers r q t = hear_probe me f x ≡ Ok (planned [] (message_to me (epoch_of r) (body.ProbeReply q r.first r.last) f ∷ []) [] t next.Stay x)

  pub probe-answered : w.marked ≡ false → answers w v.quorum s
  unfolding hear_probe
  probe-answered h =
      let t = at_store me now w v s x b (λ r. r.marked) false h in
      along me now w v s x b (λ r t. answers r v.quorum t)
      (subst (λ (q : List Bool). answers x.readings q x.state.prober) (sym b.seen.quorum) (rw t refl))

module _ (me : Me) (now : ℕ) (w : Readings) (v : View) (s : Prober) (x : Course) (b : Met me now w v s x) (f : ℕ) (q : List Bool) (first last : ℕ) where
  abbrev heard : Result Course Which
  heard = hear_probe_reply me now f q first last x

  abbrev probes : Phase → Bool
  probes p = same_phase p phase.Probing

  pub reply-elsewhere : probes v.phase ≡ false → heard ≡ Ok x
  unfolding hear_probe_reply
  reply-elsewhere h = let t = at_phase me now w v s x b probes false h in rw t refl

  module _ (h : probes v.phase ≡ true) where
    module _ (marked : w.marked ≡ true) where
      abbrev reaches : Readings → Bool
      reaches r = leb 1 last && leb r.floor last

      pub reply-copied : reaches w ≡ true → heard ≡ Ok (full_sync me now f x)
      unfolding hear_probe_reply
      reply-copied g =
          let t = at_phase me now w v s x b probes true h in
          let m = at_store me now w v s x b (λ r. r.marked) true marked in
          let r = at_store me now w v s x b reaches true g in
          rw (t, m, r) refl

      pub reply-short : reaches w ≡ false → heard ≡ Ok x
      unfolding hear_probe_reply
      reply-short g =
          let t = at_phase me now w v s x b probes true h in
          let m = at_store me now w v s x b (λ r. r.marked) true marked in
          let r = at_store me now w v s x b reaches false g in
          rw (t, m, r) refl

    module _ (unmarked : w.marked ≡ false) where
      abbrev cut_off : Readings → Bool
      cut_off r = ltb r.last first && ltb 1 first

      pub reply-cut_off : cut_off w ≡ true → heard ≡ Ok (full_sync me now f x)
      unfolding hear_probe_reply
      reply-cut_off g =
          let t = at_phase me now w v s x b probes true h in
          let m = at_store me now w v s x b (λ r. r.marked) false unmarked in
          let c = at_store me now w v s x b cut_off true g in
          rw (t, m, c) refl

      module _ (kept : cut_off w ≡ false) where
        abbrev behind : Readings → Bool
        behind r = ltb (r.last + 10) last

        pub reply-behind : behind w ≡ true → heard ≡ Ok (recent_sync me now f x)
        unfolding hear_probe_reply
        reply-behind g =
            let t = at_phase me now w v s x b probes true h in
            let m = at_store me now w v s x b (λ r. r.marked) false unmarked in
            let c = at_store me now w v s x b cut_off false kept in
            let l = at_store me now w v s x b behind true g in
            rw (t, m, c, l) refl

        module _ (near : behind w ≡ false) where
          pub reply-quorum : ltb 0 (count_of q) ≡ true → heard ≡ elect me now x
          unfolding hear_probe_reply
          reply-quorum g =
              let t = at_phase me now w v s x b probes true h in
              let m = at_store me now w v s x b (λ r. r.marked) false unmarked in
              let c = at_store me now w v s x b cut_off false kept in
              let l = at_store me now w v s x b behind false near in
              rw (t, m, c, l, g) refl

          module _ (none : ltb 0 (count_of q) ≡ false) where
            abbrev pub joined : Prober → Prober
            joined t = record { outside = with_rank t.outside f }

            abbrev enough : Prober → Bool
            enough t = is_majority me.member.monitors (with_rank t.outside f)

            pub reply-elects : enough s ≡ true → heard ≡ elect me now (planned [] [] [] (record { outside = with_rank s.outside f }) next.Elect x)
            unfolding hear_probe_reply
            reply-elects g =
                let t = at_phase me now w v s x b probes true h in
                let m = at_store me now w v s x b (λ r. r.marked) false unmarked in
                let c = at_store me now w v s x b cut_off false kept in
                let l = at_store me now w v s x b behind false near in
                let e = at_role me now w v s x b enough true g in
                along me now w v s x b (λ r t. heard ≡ elect me now (planned [] [] [] (record { outside = with_rank t.outside f }) next.Elect x)) (rw (t, m, c, l, none, e) refl)

            pub reply-waits : enough s ≡ false → heard ≡ Ok (planned [] [] [] (record { outside = with_rank s.outside f }) next.Stay x)
            unfolding hear_probe_reply
            reply-waits g =
                let t = at_phase me now w v s x b probes true h in
                let m = at_store me now w v s x b (λ r. r.marked) false unmarked in
                let c = at_store me now w v s x b cut_off false kept in
                let l = at_store me now w v s x b behind false near in
                let e = at_role me now w v s x b enough false g in
                along me now w v s x b (λ r t. heard ≡ Ok (planned [] [] [] (record { outside = with_rank t.outside f }) next.Stay x)) (rw (t, m, c, l, none, e) refl)

pub rings : (me : Me) (now : ℕ) (t : Timer) → IsTrue (is_rung t) → (x : Course) → timer_comes me now t x ≡ bootstrap me now x
rings me now timer.Probe h x = refl
rings me now other h x = let bad : false ≡ true = h in absurd cc
