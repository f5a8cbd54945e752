-- What a monitor does if another one has won.
use Rattle.std.proofs.Common.{◌≡◌, ℕ, suc, ◌+◌, ◌^◌, Bool, true, false, not, ◌&&◌, ◌||◌, eqb, leb, List, [], ◌∷◌, min, Result, Ok, refl}
use Rattle.mon_msg.specs.Protocol.Changes.{Epoch}
use Rattle.mon_msg.specs.Protocol.Course.{Course}
use Rattle.mon_msg.specs.Protocol.Elections.{hear_victory}
use Rattle.mon_msg.specs.Protocol.Entering.{is_even, elect}
use Rattle.mon_msg.specs.Protocol.Phases.{votes}
use Rattle.mon_msg.specs.declared.election.Elector.{Elector}
use Rattle.mon_msg.specs.declared.plan.Arming.TheVariants as arming
use Rattle.mon_msg.specs.declared.plan.Next.TheVariants as next
use Rattle.mon_types.specs.Ranks.{has, is_majority}
use Rattle.mon_types.specs.declared.names.Which.{Which}
use Rattle.mon_wire.specs.declared.phase.Phase.{Phase}
use Rattle.mon_wire.specs.declared.phase.Timer.TheVariants as timer
use Rattle.mon_elector.specs.declared.here.Here.{Here}
use Rattle.mon_elector.proofs.Known.{Met, epoch_in, planned, along, at_phase, at_epoch}

module _ (here : Here) (x : Course) (b : Met here x) (f e : ℕ) (q : List Bool) where
  abbrev heard : Result Course Which
  heard = hear_victory here.me.now here.time f e q x

  abbrev deaf : Phase → Bool
  deaf p = not (votes p) || not (is_even e)

  abbrev counts : Bool
  counts = has q here.me.now.member.rank && has q f && is_majority here.me.now.member.monitors q

  pub victory-deaf : deaf here.view.now.phase ≡ true → heard ≡ Ok x
  unfolding hear_victory
  victory-deaf h = let t = at_phase here x b deaf true h in rw t refl

  module _ (h : deaf here.view.now.phase ≡ false) where
    pub victory-reached : leb e (epoch_in here) ≡ true → heard ≡ Ok x
    unfolding hear_victory
    victory-reached reached =
        let t = at_phase here x b deaf false h in
        let r = at_epoch here x b (λ k. leb e k) true reached in
        rw (t, r) refl

    module _ (above : leb e (epoch_in here) ≡ false) where
      pub victory-later : eqb e (suc (epoch_in here)) ≡ false → heard ≡ elect here.me.now here.time (planned (Epoch e ∷ []) [] [] here.state.now next.Elect x)
      unfolding hear_victory
      victory-later other =
          let t = at_phase here x b deaf false h in
          let r = at_epoch here x b (λ k. leb e k) false above in
          let o = at_epoch here x b (λ k. eqb e (suc k)) false other in
          along here x b (λ r t. heard ≡ elect here.me.now here.time (planned (Epoch e ∷ []) [] [] t next.Elect x)) (rw (t, r, o) refl)

      module _ (one : eqb e (suc (epoch_in here)) ≡ true) where
        pub victory-dropped : counts ≡ false → heard ≡ Ok x
        unfolding hear_victory
        victory-dropped c =
            let t = at_phase here x b deaf false h in
            let r = at_epoch here x b (λ k. leb e k) false above in
            let o = at_epoch here x b (λ k. eqb e (suc k)) true one in
            rw (t, r, o, c) refl

        abbrev pub follows : Elector → Type 0
        follows t = heard ≡ Ok (planned (Epoch e ∷ []) [] (arming.Arm timer.Lease (min (here.time + 10000) (2 ^ 62)) ∷ []) t (next.Follow f q) x)

        pub victory-followed : counts ≡ true → follows here.state.now
        unfolding hear_victory
        victory-followed c =
            let t = at_phase here x b deaf false h in
            let r = at_epoch here x b (λ k. leb e k) false above in
            let o = at_epoch here x b (λ k. eqb e (suc k)) true one in
            along here x b (λ r t. follows t) (rw (t, r, o, c) refl)
