-- How an election is called.
use Rattle.std.proofs.Common.{◌≡◌, ℕ, suc, ◌+◌, ◌≤◌, ◌<◌, ◌^◌, true, false, List, [], ◌∷◌, ◌++◌, map, min, Option, Some, None, Ok, Err, refl, sym, ap, ◌∙◌, subst, arith}
use Rattle.std.proofs.lemmas.Bool.{le-leb, lt-leb}
use Rattle.std.proofs.lemmas.List.{set-set}
use Rattle.mon_msg.specs.Protocol.Changes.{Change, Epoch}
use Rattle.mon_msg.specs.Protocol.Course.{Course, change, elector_is, timers_in}
use Rattle.mon_msg.specs.Protocol.Entering.{is_even, elect, adopt, in_odd_epoch}
use Rattle.mon_msg.specs.Protocol.Readings.{epoch_of}
use Rattle.mon_msg.specs.Protocol.Sending.{others, message_to}
use Rattle.mon_msg.specs.Protocol.Sets.{only}
use Rattle.mon_msg.specs.Protocol.State.{no_clients}
use Rattle.mon_msg.specs.declared.election.Elector.{Elector}
use Rattle.mon_msg.specs.declared.plan.Arming.TheVariants as arming
use Rattle.mon_msg.specs.declared.plan.Next.TheVariants as next
use Rattle.mon_msg.specs.declared.plan.Sent.{Sent}
use Rattle.mon_msg.specs.declared.view.Me.{Me}
use Rattle.mon_plan.specs.Plans.{entered}
use Rattle.mon_plan.proofs.Planning.{sending-is}
use Rattle.mon_types.specs.declared.names.Which.TheVariants as which
use Rattle.mon_wire.specs.declared.body.Body.TheVariants as body
use Rattle.mon_wire.specs.declared.phase.Phase.TheVariants as phase
use Rattle.mon_wire.specs.declared.phase.Timer.TheVariants as timer
use Rattle.mon_elector.specs.Rows.{IsCalled, sent_table}
use Rattle.mon_elector.proofs.Known.{planned}

module _ (me : Me) (now : ℕ) where
  abbrev pub stands : Elector → Elector
  stands s = record s { candidate = true; acked = only me.member.rank; deferred = None }

  abbrev pub asks : ℕ → Elector → List Sent
  asks e s = map (message_to me e (body.Propose (sent_table me.rule s.scores))) (others me)

  abbrev pub called : List Change → ℕ → Elector → Course → Course
  called cs e s x =
      planned cs (asks e s) (arming.Arm timer.Election (min (now + 5000) (2 ^ 62)) ∷ []) (stands s) next.Stay (entered next.Elect x)

  -- in an odd epoch
  abbrev calls_odd : ℕ → Elector → Course → Type 0
  calls_odd e s x = elect me now x ≡ Ok (called [] e s x)

  odd-elects : (x : Course) → is_even (epoch_of x.readings) ≡ false → calls_odd (epoch_of x.readings) x.state.elector x
  unfolding elect in_odd_epoch
  odd-elects x odd = rw odd (ap (λ y. Ok y) (sym (sending-is (asks (epoch_of x.readings) x.state.elector) _)))

  -- after an even one
  abbrev calls_even : ℕ → Elector → Course → Type 0
  calls_even e s x = elect me now x ≡ Ok (called (Epoch (suc e) ∷ []) (suc e) s x)

  even-elects : (x : Course) → is_even (epoch_of x.readings) ≡ true → suc (epoch_of x.readings) ≤ 2 ^ 62 → calls_even (epoch_of x.readings) x.state.elector x
  unfolding elect in_odd_epoch
  even-elects x even short =
      let fits = le-leb (suc (epoch_of x.readings)) (2 ^ 62) short in
      rw (even, fits) (ap (λ y. Ok y) (sym (sending-is (asks (suc (epoch_of x.readings)) x.state.elector) _)))

  even-spends : (x : Course) → is_even (epoch_of x.readings) ≡ true → 2 ^ 62 < suc (epoch_of x.readings) → elect me now x ≡ Err which.Epoch
  unfolding elect in_odd_epoch
  even-spends x even above =
      let spent = lt-leb (suc (epoch_of x.readings)) (2 ^ 62) above in
      rw (even, spent) refl

  module _ (e : ℕ) (s : Elector) (x : Course) (b : IsCalled e s x) where
    at : (P : ℕ → Elector → Type 0) → P (epoch_of x.readings) x.state.elector → P e s
    at P p = subst (λ (k : ℕ). P k s) b.epoch (subst (P (epoch_of x.readings)) b.role p)

    pub call-odd : is_even e ≡ false → calls_odd e s x
    call-odd h = at (λ k t. calls_odd k t x) (odd-elects x (ap is_even b.epoch ∙ h))

    pub call-even : is_even e ≡ true → suc e ≤ 2 ^ 62 → calls_even e s x
    call-even h short = at (λ k t. calls_even k t x) (even-elects x (ap is_even b.epoch ∙ h) (omega (arith, short, b.epoch)))

    pub call-spent : is_even e ≡ true → 2 ^ 62 < suc e → elect me now x ≡ Err which.Epoch
    call-spent h above = even-spends x (ap is_even b.epoch ∙ h) (omega (arith, above, b.epoch))

  -- what it does to join an election is done again if it calls one
  pub adopts-elects : (e : ℕ) (s : Elector) (x : Course) → is_even e ≡ false → elect me now (elector_is s (adopt now e x)) ≡ elect me now (elector_is s (change (Epoch e) x))
  unfolding elect in_odd_epoch adopt
  adopts-elects e s x odd =
      let end : Option ℕ = Some (min (now + 5000) (2 ^ 62)) in
      rw odd
      (ap (λ (ts : List (Option ℕ)). Ok (record (change (Epoch e) x) {
        state = record x.state { phase = phase.Electing; timers = ts; clients = no_clients; elector = stands s };
        out = x.out ++ asks e s;
      })) (set-set (timers_in phase.Electing x.state) 1 end end))
