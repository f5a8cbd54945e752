-- How far time goes while an election goes on.
use Rattle.law_names.proofs.Runs.{Monitors}
use Rattle.law_names.proofs.Table.{State, end_of, has, others}
use Rattle.mon_wire.specs.declared.body.Body.TheVariants as body
use Rattle.mon_wire.specs.declared.phase.Timer.TheVariants as timer
use Rattle.quorum_stays.proofs.Onward.{one_state}
use Rattle.quorum_timed.specs.Begins.{IsQuick}
use Rattle.quorum_timed.specs.Calls.{Calls, HasAck}
use Rattle.quorum_timed.specs.Timed.{MayBe, Owed, Pace, Timed}
use Rattle.std.proofs.Common.{Bool, IsSomeAnd, List, None, Some, [], ap, arith, false, inl, inr, refl, subst, sym, true, ℕ, ◌+◌, ◌∙◌, ◌∷◌, ◌≡◌, ◌≤◌, ◌⊎◌}
use Rattle.std.proofs.lemmas.Bool.{false≢true}
use Rattle.timed_election.proofs.Lists.{opened}
use Rattle.timed_election.specs.Election.{ArrivesBy, CanElect, Election, Elects, Heard, IsAck, Stands, TakesPart, Unheard, in_election}

module _ (ms : Monitors) (q : List Bool) (pace : Pace) (quick : IsQuick pace) (E : Election) (t : Timed) (X : Elects ms q pace E t) (u : ℕ) (M : MayBe ms q pace t u) where
  abbrev b : ℕ
  b = E.best

  abbrev C : CanElect ms q b
  C = X.can

  -- ---- how far time went

  pub best_now : (s : State) × (t.world.state b ≡ Some s) × TakesPart q pace E b s × Stands q pace E s
  best_now =
      let P = opened (TakesPart q pace E b) (t.world.state b) (X.part b C.member) in
      let S = opened (Stands q pace E) (t.world.state b) X.stands in
      (P.0, P.1, P.2, subst (Stands q pace E) (one_state (t.world.state b) S.0 P.0 S.1 P.1) S.2)

  -- its timer fires in time
  pub over_by : u ≤ E.by + 5000 + pace.late
  over_by =
      let B = best_now in
      let S : Stands q pace E B.0 = B.3 in
      let o = opened (λ (end : ℕ). end ≤ E.by + pace.clock b + 5000) (end_of timer.Election (B.0).timers) S.ends in
      let due = M.timers b C.member B.0 B.1 timer.Election o.0 o.1 in
      let le = o.2 in
      let since = X.since in
      omega arith

  pub unheard_by : (i : ℕ) → has q i ≡ true → (i ≡ b → ⊥) → Unheard ms pace E q t i → u ≤ E.by + pace.again
  unheard_by i qi ne U =
      let B = best_now in
      let P : TakesPart q pace E b B.0 = B.2 in
      let S : Stands q pace E B.0 = B.3 in
      let k = X.called i qi ne in
      let c : Calls t.world k.0 b i = record {
        envelope = in_election ms E b i (body.Propose None);
        there = k.1;
        call = tt;
        sender = refl;
        receiver = refl;
        still = record { state = B.0; up = B.1; elects = P.elects; calls = S.candidate; epoch_is = X.epoch b C.member };
        unheard = not_yet;
      } in
      let le = M.calls b i C.member qi k.0 c in
      let by = U.comes in
      omega arith
    where
      not_yet : HasAck t.world b i → ⊥
      not_yet A =
          let z = opened (λ (s : State). has s.elector.acked i ≡ false) (t.world.state b) U.unacked in
          false≢true (sym z.2 ∙ ap (λ (s : State). has s.elector.acked i) (one_state (t.world.state b) z.0 A.state z.1 A.up) ∙ A.acked)

  pub acked_by : (i : ℕ) → has q i ≡ true → ArrivesBy (E.by + pace.again + pace.delay) (IsAck ms pace E q t i) (t.under_way i b) → u ≤ E.by + pace.again + pace.delay
  acked_by i qi A = by (t.under_way i b) refl A
    where
      by : (os : List Owed) → t.under_way i b ≡ os → ArrivesBy (E.by + pace.again + pace.delay) (IsAck ms pace E q t i) os → u ≤ E.by + pace.again + pace.delay
      by [] e k = absurd k
      by (o ∷ others) e k = let le = M.messages i b qi C.member o others e in let by = k.0 in omega arith

  -- when a timer of the election fires, all have acknowledged the best member
  pub all_acked : E.from + 5000 ≤ u → (i : ℕ) → has q i ≡ true → (i ≡ b → ⊥) → IsSomeAnd (t.world.state b) (λ s. has s.elector.acked i ≡ true)
  all_acked late i qi ne = by (X.others i qi ne)
    where
      by : Unheard ms pace E q t i ⊎ Heard ms pace E q t i → IsSomeAnd (t.world.state b) (λ s. has s.elector.acked i ≡ true)
      by (inl U) = let k = unheard_by i qi ne U in let a = quick.elections in let c = X.together in absurd (omega arith)
      by (inr H) = elim H.acks [
        | inl k ↦ k
        | inr k ↦ (let k = acked_by i qi k in let a = quick.elections in let c = X.together in absurd (omega arith))
      ]
