-- What is seen of a monitor is true, or lags, in every run.
use Rattle.law_names.proofs.Runs.{AllFit, Arrives, Asked, Crash, Envelope, Event, Meeting, Monitors, Plain, PlainFits, Reacts, Stop, World, after_meeting, first_world, goes_on, happens, kept_only, lost, map_after, meets, moved, plain_of, put_at, ran_from, run_from, unmoved, with_asked}
use Rattle.law_names.proofs.Table.{AllByRecursion, Course, Input, Me, Message, Phase, Reaction, Readings, State, Store, Which, any_reaction, booting, epoch_of, is_even, is_member, is_peon, quorum_of, react, reaction_of, readings_of, same_phase, shared_entries}
use Rattle.mon_msg.specs.declared.input.Input.TheVariants as input
use Rattle.mon_watch.specs.Seen.{nothing_seen}
use Rattle.mon_watch.specs.declared.seen.Seen.{Seen}
use Rattle.mon_wire.specs.declared.phase.Phase.TheVariants as phase
use Rattle.quorum_laws.proofs.Beginning.{at_first}
use Rattle.quorum_laws.proofs.Elections.{quorum_holds}
use Rattle.quorum_laws.proofs.Events.{After, event_holds, same, unless_full}
use Rattle.quorum_laws.proofs.Invariant.{InvOf, InvWith}
use Rattle.quorum_laws.proofs.Meetings.{Arriving, each_meeting, member_of}
use Rattle.quorum_laws.proofs.Values.{made, sharing}
use Rattle.quorum_laws.specs.Elections.{leader_of}
use Rattle.quorum_walk.proofs.FineCourses.{EntryFine}
use Rattle.quorum_walk.proofs.Walk.{Then}
use Rattle.std.proofs.Common.{Bool, Err, IfOk, List, None, Ok, Option, Result, Some, [], ap, cond, eqb, false, if◌then◌else◌, inl, inr, ltb, refl, subst, sym, true, ℕ, ◌∙◌, ◌∷◌, ◌≡◌, ◌⊎◌}
use Rattle.std.proofs.lemmas.Bool.{cases_eq, eq-eqb, false≢true, lt-ltb, ne_eqb}
use Rattle.watch_laws.proofs.Rows.{reacts}
use Rattle.watch_laws.proofs.Showing.{At, Shown, all}
use Rattle.watch_laws.specs.Watching.{IsShown, IsSo, ReadsShort, WatchIsSo, after_all, fits, lags, seen_at, seen_before, seen_from, seen_on}

-- ---- what is known in a phase is what the law says

module _ (me : Me) (is_read : Message → Bool) (strict : Bool) (z : Seen) (e : ℕ) (s : State) where
  abbrev pub At_in : Phase → Type 0
  At_in p = At me is_read strict z e p s.leader.quorum s.peon.leader s.requester.provider

  -- who leads the quorum of a monitor in this phase
  abbrev pub leader_in : Phase → Option ℕ
  leader_in p = if is_member p then Some (if is_peon p then s.peon.leader else me.member.rank) else None

  abbrev pub TakenFrom : Phase → Type 0
  TakenFrom p = same_phase p phase.Synchronizing ≡ true → z.source ≡ Some s.requester.provider

  pub is_shown : (p q : Phase) → s.phase ≡ p → Shown q e (leader_in p) z → fits q p ≡ true → TakenFrom p → IsShown me.member.rank z e s
  is_shown p q same h t source = record {
    shows = ap (fits z.phase) same ∙ ap (λ (a : Phase). fits a p) h.phase ∙ t;
    epoch = h.epoch;
    leader = h.leader ∙ ap leader_in (sym same);
    source = subst TakenFrom (sym same) source;
  }

  lagging : (p q : Phase) → s.phase ≡ p → z.phase ≡ q → lags q p ≡ true → IsSo me.member.rank z e s
  lagging p q same b t = inl (ap (lags z.phase) same ∙ ap (λ (a : Phase). lags a p) b ∙ t)

  pub no_source : (p : Phase) → same_phase p phase.Synchronizing ≡ false → TakenFrom p
  no_source p f t = absurd (false≢true (sym f ∙ t))

  pub is_so : (p : Phase) → s.phase ≡ p → At_in p → IsSo me.member.rank z e s
  is_so phase.Booting same k = inl (ap (lags z.phase) same)
  is_so phase.Probing same (inl b) = lagging phase.Probing phase.Booting same b refl
  is_so phase.Probing same (inr h) = inr (is_shown phase.Probing phase.Probing same h refl (no_source phase.Probing refl))
  is_so phase.Electing same (inl b) = lagging phase.Electing phase.Booting same b refl
  is_so phase.Electing same (inr h) = inr (is_shown phase.Electing phase.Electing same h refl (no_source phase.Electing refl))
  is_so phase.Synchronizing same (inl b) = lagging phase.Synchronizing phase.Booting same b refl
  is_so phase.Synchronizing same (inr h) = inr (is_shown phase.Synchronizing phase.Synchronizing same h.0 refl (λ t. h.1))
  is_so phase.Collecting same (inl (inl b)) = lagging phase.Collecting phase.Booting same b refl
  is_so phase.Collecting same (inl (inr b)) = lagging phase.Collecting phase.Electing same b.0 refl
  is_so phase.Collecting same (inr h) = inr (is_shown phase.Collecting phase.Collecting same h.0 refl (no_source phase.Collecting refl))
  is_so phase.Previous same (inl (inl b)) = lagging phase.Previous phase.Booting same b refl
  is_so phase.Previous same (inl (inr b)) = lagging phase.Previous phase.Electing same b.0 refl
  is_so phase.Previous same (inr h) = inr (is_shown phase.Previous phase.Collecting same h.0 refl (no_source phase.Previous refl))
  is_so phase.Active same (inl (inl b)) = lagging phase.Active phase.Booting same b refl
  is_so phase.Active same (inl (inr b)) = lagging phase.Active phase.Electing same b.0 refl
  is_so phase.Active same (inr h) = inr (is_shown phase.Active phase.Active same h.0 refl (no_source phase.Active refl))
  is_so phase.Updating same (inl (inl b)) = lagging phase.Updating phase.Booting same b refl
  is_so phase.Updating same (inl (inr b)) = lagging phase.Updating phase.Electing same b.0 refl
  is_so phase.Updating same (inr h) = inr (is_shown phase.Updating phase.Active same h.0 refl (no_source phase.Updating refl))
  is_so phase.Peon same (inl (inl b)) = lagging phase.Peon phase.Booting same b refl
  is_so phase.Peon same (inl (inr b)) = lagging phase.Peon phase.Electing same b.0 refl
  is_so phase.Peon same (inr h) = inr (is_shown phase.Peon phase.Peon same h refl (no_source phase.Peon refl))

  -- a watch that begins says nothing yet
  pub unseen : z.phase ≡ phase.Booting → (p : Phase) → At_in p
  unseen b phase.Booting = λ t. b
  unseen b phase.Probing = inl b
  unseen b phase.Electing = inl b
  unseen b phase.Synchronizing = inl b
  unseen b phase.Collecting = inl (inl b)
  unseen b phase.Previous = inl (inl b)
  unseen b phase.Active = inl (inl b)
  unseen b phase.Updating = inl (inl b)
  unseen b phase.Peon = inl (inl b)

-- ---- an event

module _ (ms : Monitors) (several : ltb 1 ms.count ≡ true) (is_read : Message → Bool) (R : ReadsShort is_read) where
  -- what is seen of a monitor that is up
  abbrev pub GoodAt : ℕ → World → Seen → Type 0
  GoodAt j w z = (s : State) → w.state j ≡ Some s → (lt : ltb j ms.count ≡ true) × At (member_of ms j lt) is_read false z (epoch_of (readings_of (w.store j))) s.phase s.leader.quorum s.peon.leader s.requester.provider

  module _ (w : World) (I : InvOf ms w) (j : ℕ) (z : Seen) (G : GoodAt j w z) where
    -- what is seen of monitor j is still true in the next world
    abbrev Stays : World → Type 0
    Stays next = GoodAt j next z

    not_moved : (p : Plain) → Stays (unmoved w p)
    unfolding unmoved
    not_moved p = G

    -- one that goes down is watched no more
    down : (rank : ℕ) (store : ℕ → Store) (b : Bool) → eqb j rank ≡ b → (s : State) → cond b None (w.state j) ≡ Some s → (eqb j rank ≡ false → readings_of (store j) ≡ readings_of (w.store j))
        → (lt : ltb j ms.count ≡ true) × At (member_of ms j lt) is_read false z (epoch_of (readings_of (store j))) s.phase s.leader.quorum s.peon.leader s.requester.provider
    down rank store true t s up k = absurd cc
    down rank store false t s up k =
        let g = G s up in
        (g.0, subst (λ (r : Readings). At (member_of ms j g.0) is_read false z (epoch_of r) s.phase s.leader.quorum s.peon.leader s.requester.provider) (sym (k t)) g.1)

    put_elsewhere : {A : Type 0} (f : ℕ → A) (rank : ℕ) (a : A) → eqb j rank ≡ false → put_at f rank a j ≡ f j
    put_elsewhere f rank a t = ap (λ (b : Bool). cond b a (f j)) t

    goes_down : (p : Plain) (rank : ℕ) → Stays (lost w p rank)
    unfolding lost
    goes_down p rank s up = down rank w.store (eqb j rank) refl s up (λ t. refl)

    goes_down_kept : (p : Plain) (rank : ℕ) (r : Reaction) → Stays (kept_only w p rank r)
    unfolding kept_only
    goes_down_kept p rank r s up = down rank (put_at w.store rank (map_after w rank r)) (eqb j rank) refl s up (λ t. ap readings_of (put_elsewhere w.store rank (map_after w rank r) t))

  -- ---- a monitor that does something

  module _ (w : World) (I : InvOf ms w) (asked : List Asked) (J : InvWith ms w asked) (Told : Envelope → Type 0) (A : Arriving ms w Told asked J) where
    abbrev pub me : Me
    me = member_of ms A.rank A.lt

    abbrev pub was : Readings
    was = readings_of (w.store A.rank)

    even : (s : State) → (w.state A.rank ≡ Some s) ⊎ (s ≡ booting A.rank) → is_member s.phase ≡ true → is_even (epoch_of was) ≡ true
    even s (inl up) t = (quorum_holds ms w I A.rank (epoch_of was) (leader_of A.rank s) (quorum_of s) (record { state = s; up = up; member = t; epoch = refl; leader = refl; quorum = refl })).even
    even s (inr e) t = absurd (false≢true (ap (λ (x : State). is_member x.phase) (sym e) ∙ t))

    shares : AllByRecursion EntryFine (shared_entries (w.store A.rank))
    shares = sharing (w.store A.rank) (J.mine A.rank).fine.records

    -- what is seen after it
    module _ (y : Course) (is : react me (shared_entries (w.store A.rank)) A.at was A.state A.came ≡ Ok y) where
      pub so : (strict : Bool) (seen : Seen) → At me is_read strict seen (epoch_of was) A.state.phase A.state.leader.quorum A.state.peon.leader A.state.requester.provider → (strict ≡ false) ⊎ (seen.phase ≡ phase.Booting)
          → At me is_read strict (after_all A.rank is_read y.out seen) (epoch_of y.readings) y.state.phase y.state.leader.quorum y.state.peon.leader y.state.requester.provider
      so strict seen K loose =
          (subst (Then (λ (x : Course). At me is_read strict (all me is_read x.out seen) (epoch_of x.readings) x.state.phase x.state.leader.quorum x.state.peon.leader x.state.requester.provider)) is
          (reacts me A.at is_read R several strict seen was A.state K loose (even A.state A.remembers) made (shared_entries (w.store A.rank)) shares (J.mine A.rank).fine.records A.came (A.fine shares))).holds

      pub tells : readings_of (map_after w A.rank (reaction_of y)) ≡ y.readings
      tells = same w.store w.state w.transactions w.messages w.active asked me J A.at A.state A.came A.on A.fits A.holds (A.fine shares) y is

    module _ (z : Seen) (G : GoodAt A.rank w z) where
      -- what is seen before it
      known : (came : Input) (s : State) → (w.state A.rank ≡ Some s) ⊎ (s ≡ booting A.rank) → At me is_read false (seen_before A.rank is_read came z) (epoch_of was) s.phase s.leader.quorum s.peon.leader s.requester.provider
      known came s (inr e) = subst (λ (t : State). At me is_read false (seen_before A.rank is_read came z) (epoch_of was) t.phase t.leader.quorum t.peon.leader t.requester.provider) (sym e) (λ t. absurd (false≢true t))
      known input.Start s (inl up) = unseen me is_read false nothing_seen (epoch_of was) s refl s.phase
      known (input.Deliver m) s (inl up) = (G s up).1
      known (input.Timer t) s (inl up) = (G s up).1
      known (input.Client u r) s (inl up) = (G s up).1

      here : (y : Course) → react me (shared_entries (w.store A.rank)) A.at was A.state A.came ≡ Ok y → (p : Plain) → GoodAt A.rank (moved w p A.rank (reaction_of y)) (after_all A.rank is_read y.out (seen_before A.rank is_read A.came z))
      unfolding moved
      here y is p s up =
          let seen = seen_before A.rank is_read A.came z in
          let me_is = eq-eqb A.rank A.rank refl in
          let state : y.state ≡ s = let up_is : cond (eqb A.rank A.rank) (Some y.state) (w.state A.rank) ≡ Some s = up in let q : Some y.state ≡ Some s = ap (λ (b : Bool). cond b (Some y.state) (w.state A.rank)) (sym me_is) ∙ up_is in cc in
          let read : readings_of (cond (eqb A.rank A.rank) (map_after w A.rank (reaction_of y)) (w.store A.rank)) ≡ y.readings = ap (λ (b : Bool). readings_of (cond b (map_after w A.rank (reaction_of y)) (w.store A.rank))) me_is ∙ tells y is in (
            A.lt,
            subst (λ (t : State). At me is_read false (after_all A.rank is_read y.out seen) (epoch_of (readings_of (cond (eqb A.rank A.rank) (map_after w A.rank (reaction_of y)) (w.store A.rank)))) t.phase t.leader.quorum t.peon.leader t.requester.provider) state
                (subst (λ (r : Readings). At me is_read false (after_all A.rank is_read y.out seen) (epoch_of r) y.state.phase y.state.leader.quorum y.state.peon.leader y.state.requester.provider) (sym read)
                (so y is false seen (known A.came A.state A.remembers) (inl refl))),
          )

  -- ---- what an event makes of it

  module _ (i : ℕ) (w : World) (I : InvOf ms w) (z : Seen) (G : GoodAt i w z) where
    -- what is seen of monitor i after the event is true in the next world
    abbrev pub Follows : Event → Meeting → Type 0
    Follows e met = IfOk (after_meeting w e met) (λ next. GoodAt i next (seen_at i is_read e met z))

    abbrev any_told : Envelope → Type 0
    any_told e = Unit {0}

    all_told : (es : List Envelope) → AllByRecursion any_told es
    all_told [] = tt
    all_told (e ∷ es) = (tt, all_told es)

    module _ (p : Plain) (J : InvWith ms w (with_asked p w.asked)) (A : Arriving ms w any_told (with_asked p w.asked) J) where
      moves : (y : Course) → react (member_of ms A.rank A.lt) (shared_entries (w.store A.rank)) A.at (readings_of (w.store A.rank)) A.state A.came ≡ Ok y
          → GoodAt i (moved w p A.rank (reaction_of y)) (cond (eqb A.rank i) (after_all i is_read y.out (seen_before i is_read A.came z)) z)
      unfolding moved
      moves y is = by (cases_eq i A.rank)
        where
          by : (i ≡ A.rank) ⊎ (i ≡ A.rank → ⊥) → GoodAt i (moved w p A.rank (reaction_of y)) (cond (eqb A.rank i) (after_all i is_read y.out (seen_before i is_read A.came z)) z)
          by (inl q) =
              subst (λ (j : ℕ). GoodAt j (moved w p A.rank (reaction_of y)) (cond (eqb A.rank j) (after_all j is_read y.out (seen_before j is_read A.came z)) z)) (sym q)
              (subst (λ (b : Bool). GoodAt A.rank (moved w p A.rank (reaction_of y)) (cond b (after_all A.rank is_read y.out (seen_before A.rank is_read A.came z)) z)) (sym (eq-eqb A.rank A.rank refl))
              (here w I (with_asked p w.asked) J any_told A z (subst (λ (j : ℕ). GoodAt j w z) q G) y is p))
          by (inr ne) = λ s up.
              let t = ne_eqb i A.rank ne in
              let u = ne_eqb A.rank i (λ q. ne (sym q)) in
              let g = G s (ap (λ (b : Bool). cond b (Some y.state) (w.state i)) (sym t) ∙ up) in (
                g.0,
                subst (λ (x : Seen). At (member_of ms i g.0) is_read false x (epoch_of (readings_of (cond (eqb i A.rank) (map_after w A.rank (reaction_of y)) (w.store i)))) s.phase s.leader.quorum s.peon.leader s.requester.provider)
                    (ap (λ (b : Bool). cond b (after_all i is_read y.out (seen_before i is_read A.came z)) z) (sym u))
                    (subst (λ (r : Readings). At (member_of ms i g.0) is_read false z (epoch_of r) s.phase s.leader.quorum s.peon.leader s.requester.provider)
                    (ap (λ (b : Bool). readings_of (cond b (map_after w A.rank (reaction_of y)) (w.store i))) (sym t)) g.1),
              )

      comes : (r : Result Course Which) → react (member_of ms A.rank A.lt) (shared_entries (w.store A.rank)) A.at (readings_of (w.store A.rank)) A.state A.came ≡ r
          → Follows (Arrives p) (Reacts A.rank A.came (any_reaction r))
      comes (Ok y) is = unless_full (λ next. GoodAt i next (cond (eqb A.rank i) (after_all i is_read y.out (seen_before i is_read A.came z)) z)) (w.store A.rank) (moved w p A.rank) (reaction_of y) (moves y is)
      comes (Err which) is = tt

      crashes : (r : Result Course Which) → Follows (Crash p true) (Reacts A.rank A.came (any_reaction r))
      crashes (Ok y) = unless_full (λ next. GoodAt i next z) (w.store A.rank) (kept_only w p A.rank) (reaction_of y) (goes_down_kept w I i z G p A.rank (reaction_of y))
      crashes (Err which) = tt

    pub follows : (e : Event) → PlainFits ms.count (plain_of e) → Follows e (meets ms w (plain_of e))
    follows (Arrives p) F = each_meeting ms w any_told I (Follows (Arrives p)) (all_told w.messages) p F
        (λ J up. record { down = not_moved w I i z G p; none = not_moved w I i z G p; reacts = λ A r is. comes p J A r is })
    follows (Crash p true) F = each_meeting ms w any_told I (Follows (Crash p true)) (all_told w.messages) p F
        (λ J up. record { down = not_moved w I i z G p; none = not_moved w I i z G p; reacts = λ A r is. crashes p J A r })
    follows (Crash p false) F = each_meeting ms w any_told I (Follows (Crash p false)) (all_told w.messages) p F
        (λ J up. record { down = not_moved w I i z G p; none = not_moved w I i z G p; reacts = λ A r is. goes_down w I i z G p A.rank })

  -- ---- a run

  all_events : (i : ℕ) (w : World) (events : List Event) → AllFit ms.count events → InvOf ms w → (z : Seen) → GoodAt i w z → GoodAt i (run_from ms w events) (seen_from i is_read ms w events z)
  unfolding ran_from seen_from
  all_events i w [] F I z G = G
  all_events i w (e ∷ es) F I z G = by (happens ms w e) (event_holds ms w e F.0 I) (follows i w I z G e F.0) (λ next K H. all_events i next es F.1 K (seen_at i is_read e (meets ms w (plain_of e)) z) H)
    where
      by : (r : Result World Stop) → IfOk r (After ms w w.asked I) → IfOk r (λ next. GoodAt i next (seen_at i is_read e (meets ms w (plain_of e)) z))
          → ((next : World) → InvOf ms next → GoodAt i next (seen_at i is_read e (meets ms w (plain_of e)) z) → GoodAt i (run_from ms next es) (seen_from i is_read ms next es (seen_at i is_read e (meets ms w (plain_of e)) z)))
          → GoodAt i (goes_on w (λ next. ran_from ms next es) r).world (seen_on i is_read (λ next. seen_from i is_read ms next es (seen_at i is_read e (meets ms w (plain_of e)) z)) z r)
      by (Ok next) k g ih = ih next k.0 g
      by (Err stop) k g ih = G

pub watch_is_so : WatchIsSo
watch_is_so ms events F several is_read R i s up =
    let g = all_events ms (lt-ltb 1 ms.count several) is_read R i first_world events F (at_first ms) nothing_seen (λ t u. absurd cc) s up in
    is_so (member_of ms i g.0) is_read false (seen_from i is_read ms first_world events nothing_seen) (epoch_of (readings_of ((run_from ms first_world events).store i))) s s.phase refl g.1
