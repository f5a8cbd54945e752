-- The leader of a quorum that lost a peon lacks an acknowledgement for too long, and probes.
use Rattle.law_names.proofs.Runs.{Arrives, Envelope, Monitors, Ring, message_at, messages_of}
use Rattle.law_names.proofs.Table.{AllByRecursion, Course, Me, Phase, Readings, State, Timer, armed, at_rest, count_of, disarm, disarmed, end_of, epoch_of, has, message_to, no_ranks, only, only_ping, others, react, readings_of, same_phase, shared_entries}
use Rattle.log_model.proofs.Lists.{all_append}
use Rattle.mon_msg.specs.declared.input.Input.TheVariants as input
use Rattle.mon_wire.specs.declared.body.Body.TheVariants as body
use Rattle.mon_wire.specs.declared.phase.Phase.TheVariants as phase
use Rattle.mon_wire.specs.declared.phase.Timer.TheVariants as timer
use Rattle.quorum_elects.proofs.Ranks.{one_counts}
use Rattle.quorum_elects.proofs.Standing.{among_map, among_others}
use Rattle.quorum_model.proofs.Members.{member_of}
use Rattle.quorum_stays.proofs.Riding.{list_is, still_there as old_there}
use Rattle.quorum_stays.proofs.Stepping.{Did, did}
use Rattle.quorum_stays.proofs.Timers.{ends, only_ping_is, same_kind_or, still_ends, still_on}
use Rattle.quorum_stays.proofs.UnderWay.{all_numbers, all_owed, new_there, numbers}
use Rattle.quorum_stays.specs.Reading.{ClocksGoOn}
use Rattle.quorum_stays.specs.Steady.{Reign, Round}
use Rattle.quorum_timed.proofs.Armed.{Timers}
use Rattle.quorum_timed.specs.Timed.{MayBe, Owed, Pace, Timed, Went, at_time, owed_by}
use Rattle.quorum_walk.proofs.Ranks.{has_only, has_only_is}
use Rattle.std.proofs.Common.{Bool, IsSomeAnd, List, None, Ok, Option, Some, [], ap, arith, cond, inl, inr, is_some, length, ltb, map, refl, slice_get, subst, suc, sym, true, ℕ, ◌*◌, ◌+◌, ◌<◌, ◌∙◌, ◌∷◌, ◌≡◌, ◌≤◌}
use Rattle.std.proofs.lemmas.Bool.{cases_eq, le-ltb, lt-ltb}
use Rattle.std.proofs.lemmas.List.{length-set}
use Rattle.table_rows.proofs.Electing.{probes, probing}
use Rattle.table_rows.proofs.Hearing.{rings}
use Rattle.timed_election.proofs.Lists.{among_sent, arrives_after, arrives_new, at_place, place_of}
use Rattle.timed_election.specs.Election.{ArrivesBy}
use Rattle.timed_election.specs.Probing.{IsProbe, IsProbing}
use Rattle.timed_failover.proofs.Waning.{Waning}
use Rattle.timed_failover.proofs.WaningFrame.{Renewer}
use Rattle.timed_failover.proofs.WaningTimes.{few, inside, leading}

module _ (ms : Monitors) (full q : List Bool) (pace : Pace) (reign : Reign) (r : Round) (t : Timed) (S : Waning ms full q pace reign r t) (several : 1 < ms.count) (u : ℕ) (M : MayBe ms q pace t u) (room : ClocksGoOn q pace u)
    (next : Timed) (end : ℕ) (set : end_of timer.LeaseAck (leading ms full q pace reign r t S).0.timers ≡ Some end)
    (went : Went ms q pace (at_time ms q pace u t) (Arrives (Ring reign.leader timer.LeaseAck (u + pace.clock reign.leader))) t.under_way next) where
  abbrev L : (s : State) × (t.world.state reign.leader ≡ Some s) × Renewer ms full q pace reign r s
  L = leading ms full q pace reign r t S

  abbrev s : State
  s = L.0

  R : Renewer ms full q pace reign r s
  R = L.2

  abbrev now : ℕ
  now = u + pace.clock reign.leader

  abbrev here : ltb reign.leader ms.count ≡ true
  here = inside ms full q pace reign r t S reign.leader S.leads

  abbrev me : Me
  me = member_of ms reign.leader here

  abbrev w : Readings
  w = readings_of (t.world.store reign.leader)

  abbrev pub probe_to : ℕ → Envelope
  probe_to to = record { to = to; message = record { from = reign.leader; monitors = ms.count; epoch = epoch_of w; body = body.Probe } }

  -- ---- it probes

  abbrev y : Course
  y = probing me now (disarm timer.LeaseAck (at_rest w s))

  reacts : react me (shared_entries (t.world.store reign.leader)) now w s (input.Timer timer.LeaseAck) ≡ Ok y
  reacts =
      rings me (shared_entries (t.world.store reign.leader)) now w s timer.LeaseAck (ap (λ (p : Phase). same_phase p phase.Booting) R.leads) (ap is_some set)
      ∙ probes me now (disarm timer.LeaseAck (at_rest w s)) (lt-ltb 1 ms.count several)

  abbrev pub es : List Envelope
  es = messages_of (map (message_to me (epoch_of w) body.Probe) (others me))

  D : Did t.world next.world reign.leader y.state [] es
  D = did ms t.world next.world (Ring reign.leader timer.LeaseAck now) reign.leader here now (input.Timer timer.LeaseAck) s refl L.1 went.happened y reacts

  abbrev bare_timers : Timers
  bare_timers = only_ping (disarmed timer.LeaseAck s.timers)

  bare_size : length bare_timers ≡ 11
  bare_size = refl

  -- it did not probe before
  armed_is : y.state.timers ≡ armed now timer.Probe bare_timers
  armed_is = ap (λ (p : Phase). armed now timer.Probe (cond (same_phase p phase.Probing) (disarmed timer.LeaseAck s.timers) (only_ping (disarmed timer.LeaseAck s.timers)))) R.leads

  -- no PING is due
  no_ping : (end : ℕ) → end_of timer.Ping (disarmed timer.LeaseAck s.timers) ≡ Some end → ⊥
  no_ping end on = elim (R.only timer.Ping end (sym (still_on timer.Ping timer.LeaseAck s.timers (λ e. omega arith)) ∙ on)) [
    | inl k ↦ cc
    | inr o ↦ elim o [ inl k ↦ cc | inr k ↦ cc ]
  ]

  timers_are : (kind : Timer) (end : ℕ) → end_of kind y.state.timers ≡ Some end → (kind ≡ timer.Probe) × (end ≡ now + 2000)
  timers_are kind end on = elim (same_kind_or kind timer.Probe) [
    | inl same ↦ (same, (let two : Some end ≡ Some (now + 2000) = sym on ∙ ap (λ (k : Timer). end_of k y.state.timers) same ∙ ap (end_of timer.Probe) armed_is ∙ ends now timer.Probe bare_timers bare_size (let k = room reign.leader S.leads in omega arith) in cc))
    | inr ne ↦ absurd (let k = only_ping_is (disarmed timer.LeaseAck s.timers) kind end (sym (still_ends now kind timer.Probe bare_timers ne) ∙ sym (ap (end_of kind) armed_is) ∙ on) in no_ping end k.1)
  ]

  is_probing : IsProbing ms pace reign.leader u y.state
  is_probing = record {
    probes = refl;
    ranks = length-set no_ranks reign.leader true;
    own = has_only reign.leader (few ms full q pace reign r t S);
    few = le-ltb ms.count (2 * count_of (only reign.leader)) (let f = one_counts (only reign.leader) reign.leader (λ m h. has_only_is reign.leader m h) in omega arith);
    timers = λ kind end on. (let z = (timers_are kind end on).1 in omega arith);
  }

  calm : (o : Option ℕ) → end_of timer.Ping y.state.timers ≡ o → o ≡ None
  calm None z = refl
  calm (Some end) z = absurd (let k = (timers_are timer.Ping end z).0 in cc)

  pub now_probing : IsSomeAnd (next.world.state reign.leader) (λ s. IsProbing ms pace reign.leader u s × (end_of timer.Ping s.timers ≡ None))
  now_probing = subst (λ (o : Option State). IsSomeAnd o (λ s. IsProbing ms pace reign.leader u s × (end_of timer.Ping s.timers ≡ None))) (sym D.up) (is_probing, calm (end_of timer.Ping y.state.timers) refl)

  -- ---- nothing else changes

  pub other_states : (j : ℕ) → (j ≡ reign.leader → ⊥) → next.world.state j ≡ t.world.state j
  other_states = D.others

  pub stores_are : (j : ℕ) → readings_of (next.world.store j) ≡ readings_of (t.world.store j)
  stores_are j = elim (cases_eq j reign.leader) [
    | inl same ↦ subst (λ (k : ℕ). readings_of (next.world.store k) ≡ readings_of (t.world.store k)) (sym same) (D.kept tt)
    | inr ne ↦ ap readings_of (D.stores j ne)
  ]

  pub still_there : (k : ℕ) (m : Envelope) → message_at t.world.messages k ≡ Some m → message_at next.world.messages k ≡ Some m
  still_there k m there = old_there ms q pace t next u es D.messages k m there

  -- ---- what is under way

  probes_all : (Q : Envelope → Type 0) → ((to : ℕ) → Q (probe_to to)) → (ks : List ℕ)
      → AllByRecursion Q (messages_of (map (message_to me (epoch_of w) body.Probe) ks))
  probes_all Q f [] = tt
  probes_all Q f (k ∷ ks) = (f k, probes_all Q f ks)

  -- a fact of all that was under way and of its PROBEs
  pub all_next : (P : Owed → Type 0) (f j : ℕ) → AllByRecursion P (t.under_way f j)
      → ((k to : ℕ) → f ≡ reign.leader → to ≡ j → message_at next.world.messages k ≡ Some (probe_to to)
      → P (record { number = k; by = u + pace.delay })) → AllByRecursion P (next.under_way f j)
  all_next P f j old new = subst (AllByRecursion P) (sym (list_is ms q pace t next u es D.messages _ t.under_way went f j))
      (all_append P (t.under_way f j) (owed_by (u + pace.delay) (numbers f j (suc (length t.world.messages)) es)) old
      (all_owed (u + pace.delay) (numbers f j (suc (length t.world.messages)) es) (λ k. P (record { number = k; by = u + pace.delay })) P (λ k h. h)
      (all_numbers f j (suc (length t.world.messages)) es (λ k. P (record { number = k; by = u + pace.delay })) (λ d m there from to. of d m there from to))))
    where
      new_at : (d : ℕ) (m : Envelope) → slice_get es d ≡ Some m → message_at next.world.messages (suc (length t.world.messages) + d) ≡ Some m
      new_at d m there =
          let number : suc (length t.world.messages) + d ≡ suc (length t.world.messages + d) = omega arith in
          ap (message_at next.world.messages) number ∙ ap (λ (z : List Envelope). slice_get z (length t.world.messages + d)) D.messages ∙ new_there t.world.messages es d m there

      of : (d : ℕ) (m : Envelope) → slice_get es d ≡ Some m → m.message.from ≡ f → m.to ≡ j → P (record { number = suc (length t.world.messages) + d; by = u + pace.delay })
      of d m there from to =
          let k : m ≡ probe_to m.to =
          at_place (λ (z : Envelope). z ≡ probe_to z.to) es d m (probes_all (λ (z : Envelope). z ≡ probe_to z.to) (λ to. refl) (others me)) there in
          let sender : f ≡ reign.leader = sym from ∙ ap (λ (z : Envelope). z.message.from) k in
          new (suc (length t.world.messages) + d) m.to sender to (new_at d m there ∙ ap Some k)

  -- each other member gets one
  pub probe_comes : (j : ℕ) → has q j ≡ true → (j ≡ reign.leader → ⊥) → AllByRecursion (λ o. o.by ≤ u + pace.delay) (t.under_way reign.leader j)
      → ArrivesBy (u + pace.delay) (IsProbe ms pace reign.leader u next.world.messages j) (next.under_way reign.leader j)
  probe_comes j qj ne soon =
      let said : Envelope = probe_to j in
      let place = place_of said es (among_sent j said.message (map (message_to me (epoch_of w) body.Probe) (others me)) (among_map (message_to me (epoch_of w) body.Probe) j (others me) (among_others me j (S.members j (S.within j qj)) ne))) in
      let number : suc (length t.world.messages) + place.0 ≡ suc (length t.world.messages + place.0) = omega arith in
      subst (ArrivesBy (u + pace.delay) (IsProbe ms pace reign.leader u next.world.messages j)) (sym (list_is ms q pace t next u es D.messages _ t.under_way went reign.leader j))
      (arrives_after (u + pace.delay) (IsProbe ms pace reign.leader u next.world.messages j) (t.under_way reign.leader j) (owed_by (u + pace.delay) (numbers reign.leader j (suc (length t.world.messages)) es)) soon
      (arrives_new (u + pace.delay) (IsProbe ms pace reign.leader u next.world.messages j) reign.leader j (suc (length t.world.messages)) es place.0 said place.1 refl refl
      (record { epoch = epoch_of w; there = ap (message_at next.world.messages) number ∙ ap (λ (z : List Envelope). slice_get z (length t.world.messages + place.0)) D.messages ∙ new_there t.world.messages es place.0 said place.1 })))
