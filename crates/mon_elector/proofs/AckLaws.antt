-- What a monitor does if another one defers to it, and at the end of an election.
use Rattle.std.proofs.Common.{◌≡◌, ℕ, suc, ◌≤◌, ◌<◌, ◌^◌, Bool, true, false, not, ◌&&◌, ◌||◌, ltb, List, [], ◌∷◌, Result, Ok, Err, refl, sym, ap, ◌∙◌, arith}
use Rattle.std.proofs.lemmas.Bool.{le-leb, lt-leb, or_parts}
use Rattle.mon_msg.specs.Protocol.Changes.{Epoch}
use Rattle.mon_msg.specs.Protocol.Collecting.{reign}
use Rattle.mon_msg.specs.Protocol.Course.{Course, elector_is}
use Rattle.mon_msg.specs.Protocol.Elections.{hear_ack, election_ends, is_allowed, is_whole}
use Rattle.mon_msg.specs.Protocol.Entering.{is_even, elect, adopt, win}
use Rattle.mon_msg.specs.Protocol.Phases.{votes, same_phase}
use Rattle.mon_msg.specs.Protocol.Readings.{epoch_of}
use Rattle.mon_msg.specs.declared.election.Elector.{Elector}
use Rattle.mon_msg.specs.declared.plan.Next.TheVariants as next
use Rattle.mon_msg.specs.declared.plan.Plan.{Plan}
use Rattle.mon_msg.specs.declared.plan.RoleStop.TheVariants as stop
use Rattle.mon_msg.specs.declared.plan.RoleStop.{RoleStop}
use Rattle.mon_msg.specs.declared.view.Me.{Me}
use Rattle.mon_types.specs.Ranks.{with_rank, is_majority}
use Rattle.mon_types.specs.declared.names.Which.TheVariants as which
use Rattle.mon_types.specs.declared.names.Which.{Which}
use Rattle.mon_wire.specs.declared.phase.Phase.TheVariants as phase
use Rattle.mon_wire.specs.declared.phase.Phase.{Phase}
use Rattle.mon_elector.specs.Rows.{Wins, ByRow}
use Rattle.mon_elector.specs.declared.here.Here.{Here}
use Rattle.mon_elector.proofs.CallLaws.{adopts-elects}
use Rattle.mon_elector.proofs.Known.{Met, epoch_in, planned, plans, along, at_phase, at_epoch, at_role}
use Rattle.mon_elector.proofs.ProposalLaws.{joins}

-- ---- a victory

module _ (me : Me) (now : ℕ) (acked : List Bool) (x : Course) where
  abbrev wins_to : ℕ → Elector → Type 0
  wins_to e t = win me now acked (elector_is t x) ≡ reign me now acked (planned (Epoch (suc e) ∷ []) [] [] t (next.Win acked) x)

  pub wins : (t : Elector) → suc (epoch_of x.readings) ≤ 2 ^ 62 → wins_to (epoch_of x.readings) t
  unfolding win
  wins t short = let fits = le-leb (suc (epoch_of x.readings)) (2 ^ 62) short in rw fits refl

  pub wins-spent : (t : Elector) → 2 ^ 62 < suc (epoch_of x.readings) → win me now acked (elector_is t x) ≡ Err which.Epoch
  unfolding win
  wins-spent t above = let spent = lt-leb (suc (epoch_of x.readings)) (2 ^ 62) above in rw spent refl

-- if a row wins, a call that wins does the same
pub won : (here : Here) (t : Elector) (acked : List Bool) (row : Course → Result Course Which) (r : Result (Plan Elector) RoleStop)
    → Wins (epoch_in here) t acked r → ((x : Course) → Met here x → row x ≡ win here.me.now here.time acked (elector_is t x)) → ByRow here row r
won here t acked row (Ok p) h is =
    plans here row p (Epoch (suc (epoch_in here)) ∷ []) (h.0, tt) [] [] t (next.Win acked) h.1
    (λ x b.
    is x b
    ∙ along here x b (λ r u. win here.me.now here.time acked (elector_is t x) ≡ reign here.me.now here.time acked (planned (Epoch (suc (epoch_of r)) ∷ []) [] [] t (next.Win acked) x))
    (wins here.me.now here.time acked x t (omega (arith, h.0, ap epoch_of b.readings))))
won here t acked row (Err stop.OutOfMemory) h is = tt
won here t acked row (Err (stop.Spent spent)) h is =
    λ x b. is x b ∙ wins-spent here.me.now here.time acked x t (omega (arith, h.1, ap epoch_of b.readings)) ∙ ap (λ k. Err k) (sym h.0)

-- ---- rows

module _ (here : Here) (x : Course) (b : Met here x) (f e : ℕ) where
  abbrev heard : Result Course Which
  heard = hear_ack here.me.now here.time f e x

  abbrev deaf : Phase → Bool
  deaf p = not (votes p) || is_even e

  pub ack-deaf : deaf here.view.now.phase ≡ true → heard ≡ Ok x
  unfolding hear_ack
  ack-deaf h = let t = at_phase here x b deaf true h in rw t refl

  module _ (h : deaf here.view.now.phase ≡ false) where
    pub ack-past : ltb e (epoch_in here) ≡ true → heard ≡ Ok x
    unfolding hear_ack
    ack-past past =
        let t = at_phase here x b deaf false h in
        let p = at_epoch here x b (λ k. ltb e k) true past in
        rw (t, p) refl

    module _ (not_past : ltb e (epoch_in here) ≡ false) where
      abbrev pub elects_later : Elector → Type 0
      elects_later t = heard ≡ elect here.me.now here.time (planned (Epoch e ∷ []) [] [] (joins t) next.Elect x)

      pub ack-later : ltb (epoch_in here) e ≡ true → elects_later here.state.now
      unfolding hear_ack adopt
      ack-later later =
          let t = at_phase here x b deaf false h in
          let p = at_epoch here x b (λ k. ltb e k) false not_past in
          let l = at_epoch here x b (λ k. ltb k e) true later in
          along here x b (λ r t. elects_later t)
          (rw (t, p, l) (adopts-elects here.me.now here.time e (joins x.state.elector) x (or_parts (not (votes here.view.now.phase)) (is_even e) h).1))

      module _ (own : ltb (epoch_in here) e ≡ false) where
        pub ack-idle : here.state.now.candidate ≡ false → heard ≡ Ok x
        unfolding hear_ack
        ack-idle g =
            let t = at_phase here x b deaf false h in
            let p = at_epoch here x b (λ k. ltb e k) false not_past in
            let l = at_epoch here x b (λ k. ltb k e) false own in
            let c = at_role here x b (λ t. t.candidate) false g in
            rw (t, p, l, c) refl

        abbrev pub counted : Elector → Elector
        counted t = record t { acked = with_rank t.acked f }

        abbrev pub all : Elector → Bool
        all t = is_whole here.me.now (with_rank t.acked f) && is_allowed here.me.now here.me.now.member.rank

        pub ack-counts : here.state.now.candidate ≡ true → all here.state.now ≡ false → heard ≡ Ok (planned [] [] [] (counted here.state.now) next.Stay x)
        unfolding hear_ack
        ack-counts g m =
            let t = at_phase here x b deaf false h in
            let p = at_epoch here x b (λ k. ltb e k) false not_past in
            let l = at_epoch here x b (λ k. ltb k e) false own in
            let c = at_role here x b (λ t. t.candidate) true g in
            let a = at_role here x b all false m in
            along here x b (λ r t. heard ≡ Ok (planned [] [] [] (counted t) next.Stay x)) (rw (t, p, l, c, a) refl)

        pub ack-wins : here.state.now.candidate ≡ true → all here.state.now ≡ true → heard ≡ win here.me.now here.time (with_rank here.state.now.acked f) (elector_is (counted here.state.now) x)
        unfolding hear_ack
        ack-wins g m =
            let t = at_phase here x b deaf false h in
            let p = at_epoch here x b (λ k. ltb e k) false not_past in
            let l = at_epoch here x b (λ k. ltb k e) false own in
            let c = at_role here x b (λ t. t.candidate) true g in
            let a = at_role here x b all true m in
            along here x b (λ r t. heard ≡ win here.me.now here.time (with_rank t.acked f) (elector_is (counted t) x)) (rw (t, p, l, c, a) refl)

module _ (here : Here) (x : Course) (b : Met here x) where
  abbrev stands : Phase → Bool
  stands p = same_phase p phase.Electing

  pub ends-elsewhere : stands here.view.now.phase ≡ false → election_ends here.me.now here.time x ≡ Ok x
  unfolding election_ends
  ends-elsewhere h = let t = at_phase here x b stands false h in rw t refl

  abbrev may : Elector → Bool
  may t = t.candidate && is_allowed here.me.now here.me.now.member.rank && is_majority here.me.now.member.monitors t.acked

  pub ends-wins : stands here.view.now.phase ≡ true → may here.state.now ≡ true → election_ends here.me.now here.time x ≡ win here.me.now here.time here.state.now.acked (elector_is here.state.now x)
  unfolding election_ends
  ends-wins h g =
      let t = at_phase here x b stands true h in
      let m = at_role here x b may true g in
      along here x b (λ r t. election_ends here.me.now here.time x ≡ win here.me.now here.time t.acked (elector_is t x)) (rw (t, m) refl)

  pub ends-elects : stands here.view.now.phase ≡ true → may here.state.now ≡ false → election_ends here.me.now here.time x ≡ elect here.me.now here.time x
  unfolding election_ends
  ends-elects h g =
      let t = at_phase here x b stands true h in
      let m = at_role here x b may false g in
      rw (t, m) refl
