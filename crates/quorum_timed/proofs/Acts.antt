-- The acts leave a monitor that waits for a timer.
use Rattle.law_names.proofs.Table.{Course, Epoch, Found, LeaderStage, Me, Op, Origin, State, SyncStage, adopt, be_active, begin, begin_alone, begin_found, begin_with, bootstrap, change, collect, collect_with, commit, elect, epoch_of, extend, full_sync, has_queue, in_next_epoch, in_odd_epoch, is_alone, is_empty, is_even, learn, members, next_number, or_zero, phase_of, promise_of, recent_sync, reign, settle, win}
use Rattle.mon_msg.specs.declared.paxos.LeaderStage.TheVariants as stage
use Rattle.mon_types.specs.declared.names.Which.TheVariants as which
use Rattle.mon_wire.specs.declared.phase.Phase.TheVariants as phase
use Rattle.mon_wire.specs.declared.phase.Timer.TheVariants as timer
use Rattle.quorum_timed.proofs.Armed.{Good, Rests, alone_rests, arm_if_rests, arm_once_if_rests, disarmed_good, fresh, in_good}
use Rattle.quorum_timed.specs.Waiting.{timer_of}
use Rattle.quorum_walk.proofs.Walk.{Then, and_then, by_test, done, where_fits}
use Rattle.std.proofs.Common.{Bool, List, None, Ok, Option, Some, [], eqb, length, ltb, max, not, refl, suc, sym, true, ℕ, ◌+◌, ◌∙◌, ◌∷◌, ◌≡◌, ◌≤◌}
use Rattle.std.proofs.lemmas.Bool.{false≢true}

-- a course whose monitor waits, and one whose timers are good
module _ (me : Me) (b : ℕ) where
  abbrev pub Waiting : Course → Type 0
  Waiting x = Rests me b x.state.phase x.state.requester.stage x.state.leader.quorum x.state.timers

  abbrev pub Timed : Course → Type 0
  Timed x = Good b x.state.timers

-- learning changes only the store
pub learn_stays : (P : State → Type 0) (v : ℕ) (values : List (List Op)) (x : Course) → P x.state → Then (λ y. P y.state) (learn v values x)
unfolding learn
learn_stays P v [] x A = done A
learn_stays P v (value ∷ values) x A = where_fits (λ y. P y.state) which.Version (v + length values) _ (λ _. done A)

module _ (me : Me) (b now : ℕ) (le : now ≤ b) (many : ltb 1 me.member.monitors ≡ true) where
  -- ---- leading

  pub be_active_waits : (x : Course) → Timed me b x → Waiting me b (be_active me now x)
  unfolding be_active extend
  be_active_waits x G =
      arm_if_rests me b now le (has_queue x) timer.Propose _ (arm_once_if_rests me b now le (not (is_empty (members me x.state.leader.quorum))) timer.LeaseAck _
      (fresh me b now le timer.Renew _ refl (in_good b phase.Active x.state G)))

  pub commit_waits : (value : List Op) (x : Course) → Timed me b x → Then (Waiting me b) (commit me now value x)
  unfolding commit
  commit_waits value x G =
      and_then (Timed me b) (Waiting me b) (learn (suc x.readings.last) (value ∷ []) x) _ (learn_stays (λ s. Good b s.timers) (suc x.readings.last) (value ∷ []) x G) (λ y H.
      done (be_active_waits _ (disarmed_good b timer.Accept y.state.timers H)))

  begin_alone_waits : (v : ℕ) (value : List Op) (o : Option Origin) (x : Course) → Timed me b x → is_alone me x.state.leader.quorum ≡ true → Then (Waiting me b) (begin_alone me v value o x)
  unfolding begin_alone
  begin_alone_waits v value o x G a =
      and_then (λ y. Good b y.state.timers × (is_alone me y.state.leader.quorum ≡ true)) (Waiting me b) (learn v (value ∷ []) x) _
      (learn_stays (λ s. Good b s.timers × (is_alone me s.leader.quorum ≡ true)) v (value ∷ []) x (G, a))
      (λ y H. done (alone_rests me b _ (in_good b phase.Active y.state H.0) H.1))

  begin_with_waits : (s : LeaderStage) → ((z : SyncStage) → timer_of (phase_of s) z ≡ timer.Accept) → (v : ℕ) (value : List Op) (o : Option Origin) (x : Course) → Timed me b x → Waiting me b (begin_with me now s v value o x)
  unfolding begin_with
  begin_with_waits s own v value o x G =
      fresh me b now le timer.Accept _ (own x.state.requester.stage) (disarmed_good b timer.LeaseAck _ (disarmed_good b timer.Renew _ (in_good b (phase_of s) x.state G)))

  pub begin_waits : (s : LeaderStage) → ((z : SyncStage) → timer_of (phase_of s) z ≡ timer.Accept) → (value : List Op) (o : Option Origin) (x : Course) → Timed me b x → Then (Waiting me b) (begin me now s value o x)
  unfolding begin
  begin_waits s own value o x G =
      let v = suc x.readings.last in
      where_fits (Waiting me b) which.Version v _ (λ _. by_test (is_alone me x.state.leader.quorum) (λ a. begin_alone_waits v value o x G a) (λ _. done (begin_with_waits s own v value o x G)))

  -- ---- collecting

  begin_found_waits : (found : Option Found) (x : Course) → Timed me b x → Then (Waiting me b) (begin_found me now found x)
  begin_found_waits None x G = done (be_active_waits x G)
  begin_found_waits (Some f) x G = by_test (eqb f.version (suc x.readings.last)) (λ _. begin_waits stage.Previous (λ _. refl) f.value None x G) (λ _. done (be_active_waits x G))

  pub settle_waits : (x : Course) → Timed me b x → Then (Waiting me b) (settle me now x)
  unfolding settle
  settle_waits x G = begin_found_waits x.state.leader.found _ (disarmed_good b timer.Collect x.state.timers G)

  collect_with_waits : (q : List Bool) (pn : ℕ) (x : Course) → Timed me b x → Waiting me b (collect_with me now q pn x)
  unfolding collect_with
  collect_with_waits q pn x G = fresh me b now le timer.Collect _ refl (in_good b phase.Collecting x.state G)

  pub collect_waits : (q : List Bool) (above : ℕ) (x : Course) → Timed me b x → Then (Waiting me b) (collect me now q above x)
  unfolding collect
  collect_waits q above x G =
      let pn = next_number (or_zero x.readings.last_pn) (max (promise_of x.readings) above) me.member.rank in
      where_fits (Waiting me b) which.Pn pn _ (λ _.
      let B = collect_with_waits q pn x G in
      by_test (is_alone me q) (λ _. settle_waits (collect_with me now q pn x) B.good) (λ _. done B))

  reign_waits : (q : List Bool) (x : Course) → Timed me b x → Then (Waiting me b) (reign me now q x)
  unfolding reign
  reign_waits q x G = collect_waits q 0 _ (in_good b phase.Collecting x.state G)

  -- ---- elections

  pub bootstrap_waits : (x : Course) → Timed me b x → Then (Waiting me b) (bootstrap me now x)
  unfolding bootstrap
  bootstrap_waits x G =
      by_test (ltb 1 me.member.monitors) (λ _. done (fresh me b now le timer.Probe _ refl (in_good b phase.Probing x.state G)))
      (λ e. absurd (false≢true (sym e ∙ many)))

  in_next_epoch_stays : (x : Course) → Timed me b x → Then (Timed me b) (in_next_epoch x)
  in_next_epoch_stays x G = where_fits (Timed me b) which.Epoch (suc (epoch_of x.readings)) (λ n. Ok (change (Epoch n) x)) (λ _. done G)

  in_odd_epoch_stays : (x : Course) → Timed me b x → Then (Timed me b) (in_odd_epoch x)
  unfolding in_odd_epoch
  in_odd_epoch_stays x G = by_test (is_even (epoch_of x.readings)) (λ _. in_next_epoch_stays x G) (λ _. done G)

  pub elect_waits : (x : Course) → Timed me b x → Then (Waiting me b) (elect me now x)
  unfolding elect
  elect_waits x G = and_then (Timed me b) (Waiting me b) (in_odd_epoch x) _ (in_odd_epoch_stays x G) (λ y H. done (fresh me b now le timer.Election _ refl (in_good b phase.Electing y.state H)))

  pub adopt_waits : (e : ℕ) (x : Course) → Timed me b x → Waiting me b (adopt now e x)
  unfolding adopt
  adopt_waits e x G = fresh me b now le timer.Election _ refl (in_good b phase.Electing x.state G)

  pub win_waits : (q : List Bool) (x : Course) → Timed me b x → Then (Waiting me b) (win me now q x)
  unfolding win
  win_waits q x G = and_then (Timed me b) (Waiting me b) (in_next_epoch x) _ (in_next_epoch_stays x G) (λ y H. reign_waits q y H)

  -- ---- synchronization

  pub full_sync_waits : (f : ℕ) (x : Course) → Timed me b x → Waiting me b (full_sync me now f x)
  unfolding full_sync
  full_sync_waits f x G = fresh me b now le timer.Sync _ refl (in_good b phase.Synchronizing x.state G)

  pub recent_sync_waits : (f : ℕ) (x : Course) → Timed me b x → Waiting me b (recent_sync me now f x)
  unfolding recent_sync
  recent_sync_waits f x G = fresh me b now le timer.Sync _ refl (in_good b phase.Synchronizing x.state G)
