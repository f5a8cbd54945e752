-- What a monitor does if another one stands for election.
use Rattle.std.proofs.Common.{◌≡◌, ℕ, ◌+◌, ◌^◌, Bool, true, false, not, ◌&&◌, ◌||◌, ltb, List, [], ◌∷◌, min, Option, Some, None, is_some, Result, Ok, refl, sym, ◌∙◌}
use Rattle.std.proofs.lemmas.Bool.{or_parts}
use Rattle.election_rules.specs.declared.scores.Scores.{Scores}
use Rattle.mon_msg.specs.Protocol.Changes.{Epoch}
use Rattle.mon_msg.specs.Protocol.Course.{Course}
use Rattle.mon_msg.specs.Protocol.Elections.{hear_propose, is_allowed, stands_before, may_defer, table_or, merged_if_sent}
use Rattle.mon_msg.specs.Protocol.Entering.{is_even, elect, adopt}
use Rattle.mon_msg.specs.Protocol.Phases.{votes}
use Rattle.mon_msg.specs.Protocol.Readings.{Readings, epoch_of, readings_of}
use Rattle.mon_msg.specs.Protocol.Sending.{message_to}
use Rattle.mon_msg.specs.Protocol.State.{quorum_of}
use Rattle.mon_msg.specs.declared.election.Elector.{Elector}
use Rattle.mon_msg.specs.declared.plan.Arming.TheVariants as arming
use Rattle.mon_msg.specs.declared.plan.Next.TheVariants as next
use Rattle.mon_types.specs.Ranks.{no_ranks, has}
use Rattle.mon_types.specs.declared.names.Which.{Which}
use Rattle.mon_wire.specs.declared.body.Body.TheVariants as body
use Rattle.mon_wire.specs.declared.phase.Phase.{Phase}
use Rattle.mon_wire.specs.declared.phase.Timer.TheVariants as timer
use Rattle.mon_elector.specs.declared.here.Here.{Here}
use Rattle.mon_elector.proofs.CallLaws.{adopts-elects}
use Rattle.mon_elector.proofs.Known.{Met, epoch_in, planned, along, at_phase, at_epoch, at_role}

abbrev pub told_to : Option Scores → Elector → Elector
told_to table s = record s { scores = merged_if_sent table s.scores }

abbrev pub joins : Elector → Elector
joins s = record s { candidate = false; acked = no_ranks; deferred = None }

abbrev pub defers : ℕ → Elector → Elector
defers f s = record s { candidate = false; acked = no_ranks; deferred = Some f }

module _ (here : Here) (x : Course) (b : Met here x) (f e : ℕ) (table : Option Scores) where
  abbrev heard : Result Course Which
  heard = hear_propose here.me.now here.time f e table x

  abbrev deaf : Phase → Bool
  deaf p = not (votes p) || is_even e

  abbrev pub better : Elector → Bool
  better t = is_allowed here.me.now f && stands_before here.me.now (table_or table t.scores) f here.me.now.member.rank

  pub propose-deaf : deaf here.view.now.phase ≡ true → heard ≡ Ok x
  unfolding hear_propose
  propose-deaf h = let t = at_phase here x b deaf true h in rw t refl

  module _ (h : deaf here.view.now.phase ≡ false) where
    -- the epoch is over
    module _ (past : ltb e (epoch_in here) ≡ true) where
      abbrev left_out : Readings → List Bool → Bool
      left_out r q = is_even (epoch_of r) && not (has q f)

      at_left_out : (t : Bool) → left_out (readings_of here.stored.now) here.view.now.quorum ≡ t → left_out x.readings (quorum_of x.state) ≡ t
      at_left_out t g = (λ i. left_out (b.readings i) (sym b.seen.quorum i)) ∙ g

      pub propose-left_out : left_out (readings_of here.stored.now) here.view.now.quorum ≡ true → heard ≡ elect here.me.now here.time x
      unfolding hear_propose
      propose-left_out g =
          let t = at_phase here x b deaf false h in
          let p = at_epoch here x b (λ k. ltb e k) true past in
          let o = at_left_out true g in
          rw (t, p, o) refl

      pub propose-past : left_out (readings_of here.stored.now) here.view.now.quorum ≡ false → heard ≡ Ok x
      unfolding hear_propose
      propose-past g =
          let t = at_phase here x b deaf false h in
          let p = at_epoch here x b (λ k. ltb e k) true past in
          let o = at_left_out false g in
          rw (t, p, o) refl

    module _ (not_past : ltb e (epoch_in here) ≡ false) where
      -- a later epoch
      module _ (later : ltb (epoch_in here) e ≡ true) where
        abbrev pub defers_later : Elector → Type 0
        defers_later t =
            heard
            ≡ Ok (planned (Epoch e ∷ []) (message_to here.me.now e body.Ack f ∷ []) (arming.Arm timer.Election (min (here.time + 5000) (2 ^ 62)) ∷ []) (defers f (joins (told_to table t))) next.Electing x)

        pub propose-later-defers : better here.state.now ≡ true → defers_later here.state.now
        unfolding hear_propose adopt
        propose-later-defers g =
            let t = at_phase here x b deaf false h in
            let p = at_epoch here x b (λ k. ltb e k) false not_past in
            let l = at_epoch here x b (λ k. ltb k e) true later in
            let o = at_role here x b better true g in
            along here x b (λ r t. defers_later t) (rw (t, p, l, o) refl)

        abbrev pub elects_later : Elector → Type 0
        elects_later t = heard ≡ elect here.me.now here.time (planned (Epoch e ∷ []) [] [] (joins (told_to table t)) next.Elect x)

        pub propose-later-elects : better here.state.now ≡ false → elects_later here.state.now
        unfolding hear_propose adopt
        propose-later-elects g =
            let t = at_phase here x b deaf false h in
            let p = at_epoch here x b (λ k. ltb e k) false not_past in
            let l = at_epoch here x b (λ k. ltb k e) true later in
            let o = at_role here x b better false g in
            along here x b (λ r t. elects_later t)
            (rw (t, p, l, o) (adopts-elects here.me.now here.time e (joins (told_to table x.state.elector)) x (or_parts (not (votes here.view.now.phase)) (is_even e) h).1))

      -- the own epoch
      module _ (own : ltb (epoch_in here) e ≡ false) where
        abbrev may : Elector → Bool
        may t = may_defer here.me.now (table_or table t.scores) f t.deferred

        abbrev pub defers_now : Readings → Elector → Type 0
        defers_now r t = heard ≡ Ok (planned [] (message_to here.me.now (epoch_of r) body.Ack f ∷ []) [] (defers f (told_to table t)) next.Stay x)

        pub propose-defers : better here.state.now ≡ true → may here.state.now ≡ true → defers_now (readings_of here.stored.now) here.state.now
        unfolding hear_propose
        propose-defers g m =
            let t = at_phase here x b deaf false h in
            let p = at_epoch here x b (λ k. ltb e k) false not_past in
            let l = at_epoch here x b (λ k. ltb k e) false own in
            let o = at_role here x b better true g in
            let d = at_role here x b may true m in
            along here x b defers_now (rw (t, p, l, o, d) refl)

        abbrev pub stays_now : Elector → Type 0
        stays_now t = heard ≡ Ok (planned [] [] [] (told_to table t) next.Stay x)

        pub propose-keeps : better here.state.now ≡ true → may here.state.now ≡ false → stays_now here.state.now
        unfolding hear_propose
        propose-keeps g m =
            let t = at_phase here x b deaf false h in
            let p = at_epoch here x b (λ k. ltb e k) false not_past in
            let l = at_epoch here x b (λ k. ltb k e) false own in
            let o = at_role here x b better true g in
            let d = at_role here x b may false m in
            along here x b (λ r t. stays_now t) (rw (t, p, l, o, d) refl)

        abbrev idle : Elector → Bool
        idle t = not (is_some t.deferred) && not t.candidate

        pub propose-elects : better here.state.now ≡ false → idle here.state.now ≡ true → heard ≡ elect here.me.now here.time (planned [] [] [] (told_to table here.state.now) next.Elect x)
        unfolding hear_propose
        propose-elects g m =
            let t = at_phase here x b deaf false h in
            let p = at_epoch here x b (λ k. ltb e k) false not_past in
            let l = at_epoch here x b (λ k. ltb k e) false own in
            let o = at_role here x b better false g in
            let d = at_role here x b idle true m in
            along here x b (λ r t. heard ≡ elect here.me.now here.time (planned [] [] [] (told_to table t) next.Elect x)) (rw (t, p, l, o, d) refl)

        pub propose-stays : better here.state.now ≡ false → idle here.state.now ≡ false → stays_now here.state.now
        unfolding hear_propose
        propose-stays g m =
            let t = at_phase here x b deaf false h in
            let p = at_epoch here x b (λ k. ltb e k) false not_past in
            let l = at_epoch here x b (λ k. ltb k e) false own in
            let o = at_role here x b better false g in
            let d = at_role here x b idle false m in
            along here x b (λ r t. stays_now t) (rw (t, p, l, o, d) refl)
