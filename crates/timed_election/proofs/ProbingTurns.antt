-- One event at a member that probes: it still does, or joins the election.
use Rattle.law_names.proofs.Runs.{Event, Monitors}
use Rattle.law_names.proofs.Table.{Entry, Input, Phase, Readings, State, end_of, has, is_even, readings_of, same_phase, scores_count, shared_entries}
use Rattle.mon_msg.specs.declared.input.Input.TheVariants as input
use Rattle.mon_wire.specs.declared.phase.Phase.TheVariants as phase
use Rattle.mon_wire.specs.declared.phase.Timer.TheVariants as timer
use Rattle.quorum_stays.proofs.Onward.{one_state}
use Rattle.quorum_timed.specs.Timed.{MayBe, Pace, Timed}
use Rattle.quorum_walk.proofs.Walk.{Then}
use Rattle.std.proofs.Common.{Bool, IsSomeAnd, List, None, ap, arith, false, inl, inr, ltb, refl, subst, suc, sym, true, ℕ, ◌*◌, ◌+◌, ◌<◌, ◌^◌, ◌∙◌, ◌≡◌, ◌≤◌, ◌⊎◌}
use Rattle.std.proofs.lemmas.Bool.{false≢true, lt-ltb}
use Rattle.timed_election.proofs.Coming.{Handled}
use Rattle.timed_election.proofs.Entering.{Calls, called as called_row}
use Rattle.timed_election.proofs.Joining.{Beginning, First, Joining, Kept, Prober, prober}
use Rattle.timed_election.proofs.JoiningComes.{known}
use Rattle.timed_election.proofs.JoiningFrame.{Turned, probes, ready}
use Rattle.timed_election.proofs.JoiningTurns.{call_turn, first_of, stays_quiet, stock_kept, time_is}
use Rattle.timed_election.proofs.Lists.{closed, opened}
use Rattle.timed_election.proofs.Probing.{goes, probed_so}
use Rattle.timed_election.proofs.ProbingRows.{IsFar, Probed, copies, elects, keeps}
use Rattle.timed_election.specs.Election.{CanElect}
use Rattle.timed_election.specs.Joining.{CausesNoCopy, NeedsNoCopy}
use Rattle.timed_election.specs.Probing.{Probes}

module _ (ms : Monitors) (q : List Bool) (pace : Pace) (short : 2 * pace.delay < 2000) (B : Beginning) (C : CanElect ms q B.best) (enough : B.top + 2 * pace.delay ≤ B.end)
    (near : (i j : ℕ) → has q i ≡ true → has q j ≡ true → NeedsNoCopy (B.stores i).last (B.stores j).first (B.stores j).last) where
  abbrev F : Type 0
  F = First ms q pace B

  module _ (c : F) (t : Timed) (X : Joining ms q pace B c t) (u : ℕ) (M : MayBe ms q pace t u) (next : Timed) (e : Event) (H : Handled ms q pace C.members t u next e) where
    abbrev i : ℕ
    i = H.i

    abbrev lt : ltb i ms.count ≡ true
    lt = lt-ltb i ms.count (C.members i H.member)

    abbrev now : ℕ
    now = u + pace.clock i

    abbrev w : Readings
    w = readings_of (t.world.store i)

    abbrev sh : List Entry
    sh = shared_entries (t.world.store i)

    abbrev T : F → Type 0
    T d = Turned ms q pace short B C enough c t X u M next e H d

    abbrev first : F
    first = first_of ms q pace short B C enough near c t X u M next e H c

    module _ (ranks : scores_count ms.rule ≡ false) (even : is_even B.epoch ≡ true) (fits : suc B.epoch ≤ 2 ^ 62) (room : now + 10000 ≤ 2 ^ 62) (Z : Kept ms q pace B i w) where
      module _ (P : Prober ms q pace B c t i) where
        abbrev Y : Probes ms pace i P.at q t
        Y = probes ms q pace short B C enough c t X u M i H.member P

        probed_now : Probed ms i lt now sh w H.state H.came H.course
        probed_now = probed_so ms q pace i P.at short t Y u M next e H (ready ms q pace short B C enough c t X u M e) refl

        calm_now : end_of timer.Ping H.state.timers ≡ None
        calm_now = let o = opened (λ (s : State). end_of timer.Ping s.timers ≡ None) (t.world.state i) P.calm in subst (λ (s : State). end_of timer.Ping s.timers ≡ None) (one_state (t.world.state i) o.0 H.state o.1 H.up) o.2

        pub prober_turn : T c ⊎ T first
        prober_turn = of probed_now
          where
            of : Probed ms i lt now sh w H.state H.came H.course → T c ⊎ T first
            of (keeps K) = inl (stays_quiet ms q pace short B C enough near c t X u M next e H Z K.changes
                (prober (stock_kept ms q pace short B C enough near c t X u M next e H Z K.changes) (still_so (goes ms q pace i P.at short t Y u M next e H (ready ms q pace short B C enough c t X u M e))))
                (λ _ _. K.probes) K.quiet)
              where
                still_so : Probes ms pace i P.at q next ⊎ IsSomeAnd (next.world.state i) (λ s. same_phase s.phase phase.Probing ≡ false) → Prober ms q pace B c next i
                still_so (inr left) =
                    let b = opened (λ (s : State). same_phase s.phase phase.Probing ≡ false) (next.world.state i) left in
                    absurd (false≢true (sym b.2 ∙ ap (λ (s : State). same_phase s.phase phase.Probing) (one_state (next.world.state i) b.0 H.course.state b.1 H.did.up) ∙ ap (λ (p : Phase). same_phase p phase.Probing) K.probes))
                still_so (inl N) = record {
                  at = P.at;
                  begun = (let b = P.begun in let l = M.later in let z = time_is ms q pace short B C enough near c t X u M next e H in omega arith);
                  early = P.early;
                  since = P.since;
                  probing = N.probing;
                  calm = closed (λ (s : State). end_of timer.Ping s.timers ≡ None) (next.world.state i) H.course.state H.did.up (ap (end_of timer.Ping) K.timers ∙ calm_now);
                  awaits = N.awaits;
                }
            of (elects z away ts is left) = inr (call_turn ms q pace short B C enough near c t X u M next e H fits Z
                (subst (Then (Calls ms i lt now w)) is (called_row ms i lt now w ranks (ap is_even Z.epoch ∙ even) (let a = Z.epoch in omega arith) room z (ap (end_of timer.Ping) ts ∙ calm_now) away)).holds)
            of (copies far left) = absurd (too_far H.came refl far)
              where
                too_far : (x : Input) → H.came ≡ x → IsFar ms i lt now sh w H.state x → ⊥
                too_far input.Start is k = k
                too_far (input.Deliver m) is k = let N = known ms q pace B C c t X u next e H m is in k (subst (λ (n : ℕ). CausesNoCopy n m.body) (sym (ap (λ (z : Readings). z.last) Z.same)) N.close)
                too_far (input.Timer kind) is k = k
                too_far (input.Client session r) is k = k
