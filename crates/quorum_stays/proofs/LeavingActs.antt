-- The acts leave a monitor that doesn't follow, or follows with no later end of its lease timer.
use Rattle.law_names.proofs.Table.{Course, Epoch, Found, LeaderStage, Me, Op, Origin, Phase, Timer, adopt, armed, be_active, begin, begin_alone, begin_found, begin_with, bootstrap, change, collect, collect_with, commit, disarmed, elect, end_of, epoch_of, extend, full_sync, has, in_next_epoch, in_odd_epoch, index_of, is_alone, is_even, learn, next_number, or_zero, phase_of, promise_of, recent_sync, reign, same_phase, settle, win}
use Rattle.mon_msg.specs.declared.paxos.LeaderStage.TheVariants as stage
use Rattle.mon_types.specs.declared.names.Which.TheVariants as which
use Rattle.mon_wire.specs.declared.phase.Phase.TheVariants as phase
use Rattle.mon_wire.specs.declared.phase.Timer.TheVariants as timer
use Rattle.quorum_stays.proofs.Timers.{still_ends, still_on}
use Rattle.quorum_timed.proofs.Acts.{learn_stays}
use Rattle.quorum_timed.proofs.Armed.{Timers}
use Rattle.quorum_walk.proofs.Walk.{Then, and_then, by_test, done, where_fits}
use Rattle.std.proofs.Common.{Bool, List, None, Ok, Option, Some, [], ap, cond, eqb, false, ltb, max, refl, suc, sym, true, ℕ, ◌∙◌, ◌∷◌, ◌≡◌, ◌≤◌}
use Rattle.std.proofs.lemmas.Bool.{cond_both, eqb-false, false≢true}

-- Whoever follows a leader outside of q has a lease timer that ends by b.
pub record Lapses (q : List Bool) (b : ℕ) (p : Phase) (leader : ℕ) (ts : Timers) : Type 0 where
  pub by : p ≡ phase.Peon → has q leader ≡ false → (end : ℕ) → end_of timer.Lease ts ≡ Some end → end ≤ b

module _ (q : List Bool) (b : ℕ) where
  abbrev pub Ends : Course → Type 0
  Ends x = Lapses q b x.state.phase x.state.peon.leader x.state.timers

  -- it doesn't follow
  pub away : (p : Phase) {leader : ℕ} {ts : Timers} → same_phase p phase.Peon ≡ false → Lapses q b p leader ts
  away p e = record { by = λ is out end set. absurd (false≢true (sym e ∙ ap (λ (z : Phase). same_phase z phase.Peon) is)) }

  -- it follows a member
  pub inside : {p : Phase} (leader : ℕ) {ts : Timers} → has q leader ≡ true → Lapses q b p leader ts
  inside leader e = record { by = λ is out end set. absurd (false≢true (sym out ∙ e)) }

  module _ {p : Phase} {leader : ℕ} where
    pub arm_ends : (now : ℕ) (u : Timer) (ts : Timers) → eqb (index_of timer.Lease) (index_of u) ≡ false → Lapses q b p leader ts → Lapses q b p leader (armed now u ts)
    arm_ends now u ts other A = record { by = λ is out end set. A.by is out end (sym (still_ends now timer.Lease u ts (eqb-false (index_of timer.Lease) (index_of u) other)) ∙ set) }

    pub disarm_ends : (u : Timer) (ts : Timers) → eqb (index_of timer.Lease) (index_of u) ≡ false → Lapses q b p leader ts → Lapses q b p leader (disarmed u ts)
    disarm_ends u ts other A = record { by = λ is out end set. A.by is out end (sym (still_on timer.Lease u ts (eqb-false (index_of timer.Lease) (index_of u) other)) ∙ set) }

    pub arm_if_ends : (test : Bool) (now : ℕ) (u : Timer) (ts : Timers) → eqb (index_of timer.Lease) (index_of u) ≡ false → Lapses q b p leader ts → Lapses q b p leader (cond test (armed now u ts) ts)
    arm_if_ends test now u ts other A = cond_both test (armed now u ts) ts (Lapses q b p leader) (λ _. arm_ends now u ts other A) (λ _. A)

  of_stage : (s : LeaderStage) → same_phase (phase_of s) phase.Peon ≡ false
  of_stage stage.Collecting = refl
  of_stage stage.Previous = refl
  of_stage stage.Active = refl
  of_stage stage.Updating = refl

  nothing : (v : ℕ) (values : List (List Op)) (x : Course) → Then (λ y. Unit {0}) (learn v values x)
  nothing v values x = learn_stays (λ s. Unit {0}) v values x tt

  module _ (me : Me) (now : ℕ) where
    -- ---- leading

    pub be_active_ends : (x : Course) → Ends (be_active me now x)
    unfolding be_active extend
    be_active_ends x = away phase.Active refl

    pub commit_ends : (value : List Op) (x : Course) → Then Ends (commit me now value x)
    unfolding commit
    commit_ends value x = and_then (λ y. Unit {0}) Ends (learn (suc x.readings.last) (value ∷ []) x) _ (nothing (suc x.readings.last) (value ∷ []) x) (λ y H. done (be_active_ends _))

    begin_alone_ends : (v : ℕ) (value : List Op) (o : Option Origin) (x : Course) → Then Ends (begin_alone me v value o x)
    unfolding begin_alone
    begin_alone_ends v value o x = and_then (λ y. Unit {0}) Ends (learn v (value ∷ []) x) _ (nothing v (value ∷ []) x) (λ y H. done (away phase.Active refl))

    begin_with_ends : (s : LeaderStage) (v : ℕ) (value : List Op) (o : Option Origin) (x : Course) → Ends (begin_with me now s v value o x)
    unfolding begin_with
    begin_with_ends s v value o x = away (phase_of s) (of_stage s)

    pub begin_ends : (s : LeaderStage) (value : List Op) (o : Option Origin) (x : Course) → Then Ends (begin me now s value o x)
    unfolding begin
    begin_ends s value o x =
        let v = suc x.readings.last in
        where_fits Ends which.Version v _ (λ _. by_test (is_alone me x.state.leader.quorum) (λ a. begin_alone_ends v value o x) (λ _. done (begin_with_ends s v value o x)))

    -- ---- collecting

    begin_found_ends : (found : Option Found) (x : Course) → Then Ends (begin_found me now found x)
    begin_found_ends None x = done (be_active_ends x)
    begin_found_ends (Some f) x = by_test (eqb f.version (suc x.readings.last)) (λ _. begin_ends stage.Previous f.value None x) (λ _. done (be_active_ends x))

    pub settle_ends : (x : Course) → Then Ends (settle me now x)
    unfolding settle
    settle_ends x = begin_found_ends x.state.leader.found _

    collect_with_ends : (ranks : List Bool) (pn : ℕ) (x : Course) → Ends (collect_with me now ranks pn x)
    unfolding collect_with
    collect_with_ends ranks pn x = away phase.Collecting refl

    pub collect_ends : (ranks : List Bool) (above : ℕ) (x : Course) → Then Ends (collect me now ranks above x)
    unfolding collect
    collect_ends ranks above x =
        let pn = next_number (or_zero x.readings.last_pn) (max (promise_of x.readings) above) me.member.rank in
        where_fits Ends which.Pn pn _ (λ _. by_test (is_alone me ranks) (λ _. settle_ends (collect_with me now ranks pn x)) (λ _. done (collect_with_ends ranks pn x)))

    reign_ends : (ranks : List Bool) (x : Course) → Then Ends (reign me now ranks x)
    unfolding reign
    reign_ends ranks x = collect_ends ranks 0 _

    -- ---- elections

    in_next : (x : Course) → Then (λ (y : Course). Unit {0}) (in_next_epoch x)
    in_next x = where_fits (λ (y : Course). Unit {0}) which.Epoch (suc (epoch_of x.readings)) (λ n. Ok (change (Epoch n) x)) (λ _. done tt)

    in_odd : (x : Course) → Then (λ (y : Course). Unit {0}) (in_odd_epoch x)
    unfolding in_odd_epoch
    in_odd x = by_test (is_even (epoch_of x.readings)) (λ _. in_next x) (λ _. done tt)

    pub elect_ends : (x : Course) → Then Ends (elect me now x)
    unfolding elect
    elect_ends x = and_then (λ y. Unit {0}) Ends (in_odd_epoch x) _ (in_odd x) (λ y H. done (away phase.Electing refl))

    pub adopt_ends : (e : ℕ) (x : Course) → Ends (adopt now e x)
    unfolding adopt
    adopt_ends e x = away phase.Electing refl

    pub win_ends : (ranks : List Bool) (x : Course) → Then Ends (win me now ranks x)
    unfolding win
    win_ends ranks x = and_then (λ y. Unit {0}) Ends (in_next_epoch x) _ (in_next x) (λ y H. reign_ends ranks y)

    -- ---- probing and synchronization

    pub bootstrap_ends : ltb 1 me.member.monitors ≡ true → (x : Course) → Then Ends (bootstrap me now x)
    unfolding bootstrap
    bootstrap_ends many x = by_test (ltb 1 me.member.monitors) (λ _. done (away phase.Probing refl)) (λ e. absurd (false≢true (sym e ∙ many)))

    pub full_sync_ends : (f : ℕ) (x : Course) → Ends (full_sync me now f x)
    unfolding full_sync
    full_sync_ends f x = away phase.Synchronizing refl

    pub recent_sync_ends : (f : ℕ) (x : Course) → Ends (recent_sync me now f x)
    unfolding recent_sync
    recent_sync_ends f x = away phase.Synchronizing refl
