-- One event at a member that follows on: it still does, probes, or joins the election.
use Rattle.law_names.proofs.Runs.{Envelope, Event, Monitors, message_at, messages_of}
use Rattle.law_names.proofs.Table.{AllByRecursion, Entry, Input, Me, Message, Phase, Readings, State, Timer, count_of, end_of, epoch_of, has, is_even, is_majority, message_to, no_ranks, only, others, react, readings_of, same_phase, scores_count, shared_entries, votes}
use Rattle.mon_msg.specs.declared.input.Input.TheVariants as input
use Rattle.mon_wire.specs.declared.body.Body.TheVariants as body
use Rattle.mon_wire.specs.declared.phase.Phase.TheVariants as phase
use Rattle.mon_wire.specs.declared.phase.TheConstants.Timer.{COUNT}
use Rattle.mon_wire.specs.declared.phase.Timer.TheVariants as timer
use Rattle.quorum_elects.proofs.Ranks.{one_counts}
use Rattle.quorum_model.proofs.Members.{member_of}
use Rattle.quorum_stays.proofs.Onward.{one_state}
use Rattle.quorum_stays.specs.Steady.{FollowsSince}
use Rattle.quorum_timed.specs.Timed.{MayBe, Pace, Timed}
use Rattle.quorum_walk.proofs.Parity.{odd_of_even}
use Rattle.quorum_walk.proofs.Ranks.{has_only, has_only_is}
use Rattle.quorum_walk.proofs.Walk.{Then}
use Rattle.std.proofs.Common.{Bool, IsSomeAnd, List, None, Option, Some, ap, arith, false, inl, inr, length, ltb, map, not, refl, subst, suc, sym, true, ℕ, ◌*◌, ◌+◌, ◌<◌, ◌^◌, ◌∙◌, ◌≡◌, ◌≤◌, ◌⊎◌}
use Rattle.std.proofs.lemmas.Bool.{false≢true, le-ltb, lt-ltb}
use Rattle.std.proofs.lemmas.List.{length-set}
use Rattle.table_rows.proofs.Electing.{later_propose_row}
use Rattle.timed_election.proofs.Coming.{Handled, How, again, asks, came_or_left, fires, first as comes}
use Rattle.timed_election.proofs.Counting.{several}
use Rattle.timed_election.proofs.Entering.{Joined, calls, defers, proposed}
use Rattle.timed_election.proofs.FollowingRows.{Follows, IsOfMember, Stays, calm, followed, joins, probes as begins, stays}
use Rattle.timed_election.proofs.Joining.{Beginning, Called, First, Joining, Kept, Lost, Loyal, Standing, call, loyal, peon, prober}
use Rattle.timed_election.proofs.JoiningComes.{known}
use Rattle.timed_election.proofs.JoiningFrame.{IsMute, Said, Turned, called_by, on, out_by, peon_by, there_still}
use Rattle.timed_election.proofs.JoiningTurns.{first_of, goes_out, joined_turn, letters, stays_out, stays_quiet, stock_kept, time_is}
use Rattle.timed_election.proofs.Lists.{closed, message_in, opened}
use Rattle.timed_election.proofs.Outcomes.{Heard as Came}
use Rattle.timed_election.specs.Election.{CanElect}
use Rattle.timed_election.specs.Joining.{FollowsLost, LeavesStores, NeedsNoCopy}
use Rattle.timed_election.specs.Probing.{IsProbe, IsProbing}

module _ (ms : Monitors) (q : List Bool) (pace : Pace) (short : 2 * pace.delay < 2000) (B : Beginning) (C : CanElect ms q B.best) (enough : B.top + 2 * pace.delay ≤ B.end)
    (near : (i j : ℕ) → has q i ≡ true → has q j ≡ true → NeedsNoCopy (B.stores i).last (B.stores j).first (B.stores j).last) where
  abbrev F : Type 0
  F = First ms q pace B

  module _ (c : F) (t : Timed) (X : Joining ms q pace B c t) (u : ℕ) (M : MayBe ms q pace t u) (next : Timed) (e : Event) (H : Handled ms q pace C.members t u next e) where
    abbrev i : ℕ
    i = H.i

    abbrev lt : ltb i ms.count ≡ true
    lt = lt-ltb i ms.count (C.members i H.member)

    abbrev me : Me
    me = member_of ms i lt

    abbrev es : List Envelope
    es = messages_of H.course.out

    abbrev now : ℕ
    now = u + pace.clock i

    abbrev w : Readings
    w = readings_of (t.world.store i)

    abbrev sh : List Entry
    sh = shared_entries (t.world.store i)

    abbrev T : F → Type 0
    T d = Turned ms q pace short B C enough c t X u M next e H d

    abbrev first : F
    first = first_of ms q pace short B C enough near c t X u M next e H c

    abbrev after : ℕ
    after = epoch_of (readings_of (next.world.store i))

    abbrev S : Envelope → Type 0
    S m = Said ms q pace short B C enough c t X u M next e H after m

    abbrev Mute : Envelope → Type 0
    Mute m = IsMute ms q pace short B C enough c t X u M next e H m

    module _ (ranks : scores_count ms.rule ≡ false) (even : is_even B.epoch ≡ true) (fits : suc B.epoch ≤ 2 ^ 62) (room : now + 10000 ≤ 2 ^ 62) (Z : Kept ms q pace B i w) where
      even_here : is_even (epoch_of w) ≡ true
      even_here = ap is_even Z.epoch ∙ even

      fits_here : suc (epoch_of w) ≤ 2 ^ 62
      fits_here = let a = Z.epoch in omega arith

      -- ---- the first call

      -- it makes a peon join
      module _ (was : H.state.phase ≡ phase.Peon) (calm : end_of timer.Ping H.state.timers ≡ None) (still : H.course.state.phase ≡ phase.Peon) where
        called_still : (x : F) → Called ms q pace B x t i → Called ms q pace B x next i
        called_still None z = tt
        called_still (Some (f, from)) z = (
          z.0,
          z.1,
          elim (came_or_left ms q pace t u next e H.left H.went i H.came H.state H.course H.how H.did (from + pace.delay) (λ o. message_at t.world.messages o.number ≡ Some (call ms q pace B f i)) f i refl z.2) [
            | inr rest ↦ on ms q pace short B C enough c t X u M next e H (from + pace.delay) (λ o. message_at t.world.messages o.number ≡ Some (call ms q pace B f i)) (λ o. message_at next.world.messages o.number ≡ Some (call ms q pace B f i))
                (λ o there. there_still ms q pace short B C enough c t X u M next e H o.number (call ms q pace B f i) there) f i rest
            | inl y ↦ absurd (not_peon (y.0).number y.1 y.2 y.4 y.5)
          ],
        )
          where
            not_peon : (n : ℕ) (m : Message) → message_at t.world.messages n ≡ Some (call ms q pace B f i) → message_at t.world.messages n ≡ Some (record { to = i; message = m }) → H.came ≡ input.Deliver m → ⊥
            not_peon n m is there came =
                let two : Some (call ms q pace B f i) ≡ Some (record { to = i; message = m }) = sym is ∙ there in
                let same : (call ms q pace B f i).message ≡ m = ap (message_in m) two in
                let came_is : H.came ≡ input.Deliver (record { from = f; monitors = ms.count; epoch = suc (epoch_of w); body = body.Propose None }) = came ∙ ap input.Deliver (sym same) ∙ ap (λ (n : ℕ). input.Deliver (record { from = f; monitors = ms.count; epoch = suc n; body = body.Propose None })) (sym Z.epoch) in
                let K : Came ms.count H.came f (suc (epoch_of w)) (body.Propose None) = record { message = record { from = f; monitors = ms.count; epoch = suc (epoch_of w); body = body.Propose None }; is = came_is; from = refl; monitors = refl; epoch = refl; says = refl } in
                let row = later_propose_row me sh now w H.state (suc (epoch_of w)) None z.1 (ap not ranks) (ap votes was) (odd_of_even (epoch_of w) even_here) (omega arith) in
                let J = (subst (Then (Joined ms i lt now w H.came)) (sym row ∙ ap (react me sh now w H.state) (sym came_is) ∙ H.reacts)
                (proposed ms i lt now w ranks even_here fits_here room H.state calm (ap (λ (p : Phase). same_phase p phase.Electing) was) H.came f None K)).holds in
                joins_not J
              where
                clash : H.course.state.phase ≡ phase.Electing → ⊥
                clash z = false≢true (ap (λ (p : Phase). same_phase p phase.Electing) (sym still) ∙ ap (λ (p : Phase). same_phase p phase.Electing) z)

                joins_not : Joined ms i lt now w H.came H.course → ⊥
                joins_not (calls Q) = let N = Q.joins in clash N.phase
                joins_not (defers g tb table Q better N out) = clash N.phase

      -- ---- what it does

      module _ (was : H.state.phase ≡ phase.Peon) (kinds : length H.state.timers ≡ COUNT)
          (only_two : (kind : Timer) (end : ℕ) → end_of kind H.state.timers ≡ Some end → (kind ≡ timer.Lease) ⊎ (kind ≡ timer.Propose)) where
        calm_now : end_of timer.Ping H.state.timers ≡ None
        calm_now = calm ms i lt now sh w H.state q ranks even_here fits_here room (lt-ltb 1 ms.count (several ms q B.best C)) was kinds only_two H.came

        outcome : ((m : Message) → H.came ≡ input.Deliver m → m.from ≡ H.state.peon.leader → LeavesStores m.body) → Follows ms i lt now sh w H.state q H.came H.course
        outcome leaves = (subst (Then (Follows ms i lt now sh w H.state q H.came)) H.reacts
            (followed ms i lt now sh w H.state q ranks even_here fits_here room (lt-ltb 1 ms.count (several ms q B.best C)) was kinds only_two H.came (of_member H.came refl))).holds
          where
            of_member : (x : Input) → H.came ≡ x → IsOfMember ms i lt now sh w H.state q x
            of_member input.Start is = tt
            of_member (input.Deliver m) is = (let N = known ms q pace B C c t X u next e H m is in (N.member, (let l = N.epoch in let z = Z.epoch in omega arith), leaves m is))
            of_member (input.Timer kind) is = tt
            of_member (input.Client session r) is = tt

        -- it follows on
        follows_on : (c ≡ None → B.former ≡ Some i → H.course.state.phase ≡ phase.Probing) → (Y : Stays ms i lt now sh w H.state q H.course) → Called ms q pace B c t i
            → (Kept ms q pace B i (readings_of (next.world.store i)) → Called ms q pace B c next i → Standing ms q pace B c next i) → T c
        follows_on probing Y a stands = stays_quiet ms q pace short B C enough near c t X u M next e H Z Y.changes (stands (stock_kept ms q pace short B C enough near c t X u M next e H Z Y.changes) (called_still was calm_now Y.follows c a)) probing Y.quiet

      -- ---- a member whose leader is lost

      module _ (k : Lost ms q pace B t i) (a : Called ms q pace B c t i) where
        L : FollowsLost q (k.by + pace.clock i) H.state
        L = let o = opened (FollowsLost q (k.by + pace.clock i)) (t.world.state i) k.follows in subst (FollowsLost q (k.by + pace.clock i)) (one_state (t.world.state i) o.0 H.state o.1 H.up) o.2

        -- it isn't the former leader
        not_former : {A : Type 0} → B.former ≡ Some i → A
        not_former is = absurd (let clash : None ≡ Some i = sym k.nobody ∙ is in cc)

        pub peon_turn : T c ⊎ T first
        peon_turn = of (outcome L.follows L.kinds L.only (λ m is from. absurd (false≢true (sym L.lost ∙ ap (has q) (sym from) ∙ (let N = known ms q pace B C c t X u next e H m is in N.member)))))
          where
            -- no LEASE comes
            same_lease : Stays ms i lt now sh w H.state q H.course → end_of timer.Lease H.course.state.timers ≡ end_of timer.Lease H.state.timers
            same_lease Y = elim Y.lease [ inl same ↦ same | inr z ↦ absurd (false≢true (sym L.lost ∙ z.0)) ]

            still_lost : Stays ms i lt now sh w H.state q H.course → Lost ms q pace B next i
            still_lost Y = record {
              nobody = k.nobody;
              by = k.by;
              since = k.since;
              early = k.early;
              follows = closed (FollowsLost q (k.by + pace.clock i)) (next.world.state i) H.course.state H.did.up (record {
                follows = Y.follows;
                lost = ap (has q) Y.leader ∙ L.lost;
                kinds = Y.kinds;
                waits = subst (λ (z : Option ℕ). IsSomeAnd z (λ end. end ≤ k.by + pace.clock i)) (sym (same_lease Y)) L.waits;
                only = Y.only;
              });
            }

            of : Follows ms i lt now sh w H.state q H.came H.course → T c ⊎ T first
            of (joins J) = inr (joined_turn ms q pace short B C enough near c t X u M next e H fits Z J)
            of (stays Y) = inl (follows_on L.follows L.kinds L.only (λ _ is. not_former is) Y a (λ S b. peon S (still_lost Y) b))
            of (begins is G) = inl (stays_out ms q pace short B C enough near c t X u M next e H Z G.changes (prober (stock_kept ms q pace short B C enough near c t X u M next e H Z G.changes) (record {
              at = u;
              begun = (let z = time_is ms q pace short B C enough near c t X u M next e H in omega arith);
              early = peon_by ms q pace short B C enough c t X u M i H.member k;
              since = called_by ms q pace short B C enough c t X u M i H.member c a;
              probing = closed (IsProbing ms pace i u) (next.world.state i) H.course.state H.did.up (record {
                probes = G.probes;
                ranks = ap length G.outside ∙ length-set no_ranks i true;
                own = ap (λ (z : List Bool). has z i) G.outside ∙ has_only i (let a = C.members i H.member in let b = ms.most in omega arith);
                few = ap (is_majority ms.count) G.outside ∙ le-ltb ms.count (2 * count_of (only i)) (let f = one_counts (only i) i (λ m h. has_only_is i m h) in let n = several ms q B.best C in omega arith);
                timers = λ kind end on. (let z = (G.timers kind end on).1 in omega arith);
              });
              calm = closed (λ (s : State). end_of timer.Ping s.timers ≡ None) (next.world.state i) H.course.state H.did.up (no_ping (end_of timer.Ping H.course.state.timers) refl);
              awaits = λ j qj ne. inl (goes_out ms q pace short B C enough near c t X u M next e H (epoch_of w) body.Probe sent_is (IsProbe ms pace i u next.world.messages j) j qj ne (λ k there. record { epoch = epoch_of w; there = there }));
            })) (λ _ is. not_former is)
                (subst (AllByRecursion S) (sym sent_is) (letters ms q pace short B C enough near c t X u M next e H S (epoch_of w) body.Probe (λ to. record { from = refl; epoch = (let a = Z.epoch in omega arith); call_is = λ k. absurd k; near = λ j qj. tt; leaves = tt }) (others me)))
                (subst (AllByRecursion Mute) (sym sent_is) (letters ms q pace short B C enough near c t X u M next e H Mute (epoch_of w) body.Probe (λ to _ k. cc) (others me))))
              where
                sent_is : es ≡ messages_of (map (message_to me (epoch_of w) body.Probe) (others me))
                sent_is = ap messages_of G.out

                no_ping : (o : Option ℕ) → end_of timer.Ping H.course.state.timers ≡ o → o ≡ None
                no_ping None z = refl
                no_ping (Some end) z = absurd (let k = (G.timers timer.Ping end z).0 in cc)

      -- ---- a member that follows the former leader

      module _ (k : Loyal ms q pace B t i) (a : Called ms q pace B c t i) where
        abbrev at : ℕ
        at = k.leased + pace.clock i

        G : FollowsSince k.leader k.quorum at H.state
        G = let o = opened (FollowsSince k.leader k.quorum at) (t.world.state i) k.follows in subst (FollowsSince k.leader k.quorum at) (one_state (t.world.state i) o.0 H.state o.1 H.up) o.2

        -- the former leader probes as long as nobody called, so it isn't this one
        not_probing : c ≡ None → B.former ≡ Some i → H.course.state.phase ≡ phase.Probing
        not_probing none is =
            let o = opened (λ (s : State). s.phase ≡ phase.Probing) (t.world.state i) (X.former none i is).1 in
            let clash : phase.Peon ≡ phase.Probing = sym G.follows ∙ ap (λ (s : State). s.phase) (one_state (t.world.state i) H.state o.0 H.up o.1) ∙ o.2 in
            cc

        -- its lease lasts
        never_ends : H.came ≡ input.Timer timer.Lease → ⊥
        never_ends is = of H.how
          where
            of : How ms q pace t u i H.came e H.left H.state → ⊥
            of (comes f qf o others z list there from h at_time rest) = absurd cc
            of (again n z there from calling cand h at_time rest) = absurd cc
            of (asks session r h at_time rest) = absurd cc
            of (fires kind end on over h at_time rest) =
                let same : kind ≡ timer.Lease = cc in
                let late = G.waits end (subst (λ (z : Timer). end_of z H.state.timers ≡ Some end) same on) in
                let soon = (out_by ms q pace short B C enough c t X u M i H.member Z.epoch).0 in
                let lasts = k.lasts in
                omega arith

        pub loyal_turn : T c ⊎ T first
        loyal_turn = of (outcome G.follows G.kinds G.only (λ m is from. (let N = known ms q pace B C c t X u next e H m is in N.leaves (k.former ∙ ap Some (sym (from ∙ G.leader_is))))))
          where
            still_loyal : Stays ms i lt now sh w H.state q H.course → Loyal ms q pace B next i
            still_loyal Y = record {
              leader = k.leader;
              former = k.former;
              quorum = k.quorum;
              leased = k.leased;
              before = (let b = k.before in let l = M.later in let z = time_is ms q pace short B C enough near c t X u M next e H in omega arith);
              lasts = k.lasts;
              late = k.late;
              follows = closed (FollowsSince k.leader k.quorum at) (next.world.state i) H.course.state H.did.up (record {
                follows = Y.follows;
                leader_is = Y.leader ∙ G.leader_is;
                quorum = Y.quorum ∙ G.quorum;
                kinds = Y.kinds;
                waits = λ end on. elim Y.lease [
                  | inl same ↦ G.waits end (sym same ∙ on)
                  | inr z ↦ (let two : Some end ≡ Some (now + 10000) = sym on ∙ z.1 in let same : end ≡ now + 10000 = cc in let b = k.before in let l = M.later in omega arith)
                ];
                only = Y.only;
              });
            }

            of : Follows ms i lt now sh w H.state q H.came H.course → T c ⊎ T first
            of (joins J) = inr (joined_turn ms q pace short B C enough near c t X u M next e H fits Z J)
            of (begins is Y) = absurd (never_ends is)
            of (stays Y) = inl (follows_on G.follows G.kinds G.only not_probing Y a (λ S b. loyal S (still_loyal Y) b))
