-- The leader of a quorum that lost a peon takes an acknowledgement, and renews the leases.
use Rattle.law_names.proofs.Runs.{Arrives, Deliver, Envelope, Monitors, Ring, message_at}
use Rattle.law_names.proofs.Table.{AllByRecursion, Body, Me, Readings, State, Timer, Waiting, are_within, armed, disarmed, end_of, epoch_of, has, index_of, is_armed, is_empty, members, no_ranks, readings_of, shared_entries, with_rank}
use Rattle.mon_msg.specs.Protocol.Timers.{armed_once}
use Rattle.mon_msg.specs.declared.input.Input.TheVariants as input
use Rattle.mon_wire.specs.declared.body.Body.TheVariants as body
use Rattle.mon_wire.specs.declared.phase.Timer.TheVariants as timer
use Rattle.quorum_model.proofs.Members.{member_of}
use Rattle.quorum_stays.proofs.Giving.{each_hands_on_none, gives_apart, new_leases, renewed, renewed_peon, renewer}
use Rattle.quorum_stays.proofs.Leaders.{answered_peon, one_answer}
use Rattle.quorum_stays.proofs.Onward.{other_left, pack}
use Rattle.quorum_stays.proofs.Peering.{PeonIn}
use Rattle.quorum_stays.proofs.Rows.{ack_row}
use Rattle.quorum_stays.proofs.Sending.{each}
use Rattle.quorum_stays.proofs.States.{has_self}
use Rattle.quorum_stays.proofs.Stepping.{Did, brought, did}
use Rattle.quorum_stays.proofs.Timers.{armed_size, disarmed_size, ends, extended_timers, maybe_armed, no_end, off, one_end, same_kind_or, still_ends, still_on}
use Rattle.quorum_stays.proofs.Turning.{on_state, same_carried}
use Rattle.quorum_stays.specs.Reading.{ClocksGoOn}
use Rattle.quorum_stays.specs.Steady.{Carries, IsItem, Item, Noted, Reign, Round, in_reign, item, said, to_leader}
use Rattle.quorum_timed.proofs.Armed.{Timers}
use Rattle.quorum_timed.specs.Begins.{IsQuick}
use Rattle.quorum_timed.specs.Calls.{IsCall}
use Rattle.quorum_timed.specs.Timed.{MayBe, Owed, Pace, Timed, Went, at_time, without_first}
use Rattle.quorum_walk.proofs.Ranks.{has_with}
use Rattle.std.proofs.Common.{Bool, List, None, Some, [], ap, arith, cond, drop, false, inl, inr, is_some, length, ltb, not, option_map, refl, subst, suc, sym, take, true, zero, ℕ, ◌*◌, ◌+◌, ◌<◌, ◌^◌, ◌∙◌, ◌∷◌, ◌≡◌, ◌≤◌, ◌⊎◌}
use Rattle.std.proofs.lemmas.List.{length-set}
use Rattle.timed_failover.proofs.Waning.{RenewsSince, Waning, calm}
use Rattle.timed_failover.proofs.WaningFrame.{IsCalm, Renewer, about_peon, calm_now, calm_on, calm_popped}
use Rattle.timed_failover.proofs.WaningTimes.{by_ack, by_lease, by_renewal, inside, leading}

-- ---- what the leader remembers

-- it got an acknowledgement, the last one or another
acknowledged : (reign : Reign) (full : List Bool) (at least : ℕ) (s : State) → RenewsSince reign full at least s → (f : ℕ) (b : Bool)
    → RenewsSince reign full at least (record s { leader = record s.leader { acks = with_rank s.leader.acks f }; timers = cond b (disarmed timer.LeaseAck s.timers) s.timers })
acknowledged reign full at least s L f true = record {
  leads = L.leads;
  quorum = L.quorum;
  number = L.number;
  queue = L.queue;
  ranks = length-set s.leader.acks f true ∙ L.ranks;
  kinds = disarmed_size timer.LeaseAck s.timers L.kinds;
  renews = still_on timer.Renew timer.LeaseAck s.timers (λ e. omega arith) ∙ L.renews;
  awaits = λ end e. no_end _ end (off timer.LeaseAck s.timers L.kinds) e;
  only = λ kind end e. elim (same_kind_or kind timer.LeaseAck) [
    | inl same ↦ inr (inl same)
    | inr other ↦ L.only kind end (sym (still_on kind timer.LeaseAck s.timers other) ∙ e)
  ];
}
acknowledged reign full at least s L f false = record {
  leads = L.leads;
  quorum = L.quorum;
  number = L.number;
  queue = L.queue;
  ranks = length-set s.leader.acks f true ∙ L.ranks;
  kinds = L.kinds;
  renews = L.renews;
  awaits = L.awaits;
  only = L.only;
}

-- the others, when that of the next renewal fired
bare_of : (reign : Reign) (full : List Bool) (at least : ℕ) (s : State) → RenewsSince reign full at least s → (kind : Timer) (end : ℕ) → end_of kind (disarmed timer.Renew s.timers) ≡ Some end
    → (kind ≡ timer.LeaseAck) ⊎ (kind ≡ timer.Propose)
bare_of reign full at least s R kind end e = elim (same_kind_or kind timer.Renew) [
  | inl same ↦ no_end _ end (off timer.Renew s.timers R.kinds) (subst (λ (z : Timer). end_of z (disarmed timer.Renew s.timers) ≡ Some end) same e)
  | inr ne ↦ elim (R.only kind end (sym (still_on kind timer.Renew s.timers ne) ∙ e)) [ inl is ↦ absurd (ne (ap index_of is)) | inr k ↦ k ]
]

-- its timers after it renewed the leases, whether it still awaited acknowledgements or not
module _ (now : ℕ) (room : now + 10000 ≤ 2 ^ 62) (ts : Timers) (size : length ts ≡ 11)
    (bare : (kind : Timer) (end : ℕ) → end_of kind ts ≡ Some end → (kind ≡ timer.LeaseAck) ⊎ (kind ≡ timer.Propose)) where
  record Extends (after : Timers) : Type 0 where
    kinds : length after ≡ 11
    renews : end_of timer.Renew after ≡ Some (now + 3000)
    awaits : (end : ℕ) → end_of timer.LeaseAck after ≡ Some end → (end_of timer.LeaseAck ts ≡ Some end) ⊎ (end ≡ now + 10000)
    only : (kind : Timer) (end : ℕ) → end_of kind after ≡ Some end → (kind ≡ timer.Renew) ⊎ (kind ≡ timer.LeaseAck) ⊎ (kind ≡ timer.Propose)

  renewing : Extends (armed now timer.Renew ts)
  renewing = record {
    kinds = armed_size now timer.Renew ts size;
    renews = ends now timer.Renew ts size (omega arith);
    awaits = λ end e. inl (sym (still_ends now timer.LeaseAck timer.Renew ts (λ z. omega arith)) ∙ e);
    only = λ kind end e. elim (same_kind_or kind timer.Renew) [
      | inl same ↦ inl same
      | inr ne ↦ inr (bare kind end (sym (still_ends now kind timer.Renew ts ne) ∙ e))
    ];
  }

  awaiting : Extends (armed now timer.LeaseAck (armed now timer.Renew ts))
  awaiting =
      let X = renewing in record {
        kinds = armed_size now timer.LeaseAck (armed now timer.Renew ts) X.kinds;
        renews = still_ends now timer.Renew timer.LeaseAck (armed now timer.Renew ts) (λ e. omega arith) ∙ X.renews;
        awaits = λ end e. inr (one_end _ end (now + 10000) e (ends now timer.LeaseAck (armed now timer.Renew ts) X.kinds room));
        only = λ kind end e. elim (same_kind_or kind timer.LeaseAck) [
          | inl same ↦ inr (inl same)
          | inr ne ↦ X.only kind end (sym (still_ends now kind timer.LeaseAck (armed now timer.Renew ts) ne) ∙ e)
        ];
      }

  extends : (empty : Bool) → Extends (extended_timers now empty ts)
  extends true = renewing
  extends false = by (is_armed timer.LeaseAck (armed now timer.Renew ts)) refl
    where
      by : (b : Bool) → is_armed timer.LeaseAck (armed now timer.Renew ts) ≡ b → Extends (armed_once now timer.LeaseAck (armed now timer.Renew ts))
      by true e = rw e renewing
      by false e = rw e awaiting

-- ---- what it sends

-- no call for an election
each_calls_none : (me : Me) (e : ℕ) (b : Body) → (IsCall b → ⊥) → (ks : List ℕ) → AllByRecursion (λ (m : Envelope). IsCall m.message.body → ⊥) (each me e b ks)
each_calls_none me e b nil [] = tt
each_calls_none me e b nil (k ∷ ks) = (nil, each_calls_none me e b nil ks)

module _ (ms : Monitors) (full q : List Bool) (pace : Pace) (reign : Reign) (K : IsQuick pace) (r : Round) (t : Timed) (S : Waning ms full q pace reign r t) (u : ℕ) (M : MayBe ms q pace t u)
    (room : ClocksGoOn q pace u) (next : Timed) where
  abbrev L : (s : State) × (t.world.state reign.leader ≡ Some s) × Renewer ms full q pace reign r s
  L = leading ms full q pace reign r t S

  abbrev s : State
  s = L.0

  abbrev now : ℕ
  now = u + pace.clock reign.leader

  abbrev store : Readings
  store = readings_of (t.world.store reign.leader)

  -- ---- an acknowledgement

  module _ (f : ℕ) (qf : has q f ≡ true) (nf : f ≡ reign.leader → ⊥) (F : PeonIn ms full pace reign (calm r) t f t.under_way) (o : Owed) (others : List Owed) (first : t.under_way f reign.leader ≡ o ∷ others)
      (x : Item) (rest : List Item) (items : drop F.taken (take (said F.heard) (to_leader reign pace (calm r))) ≡ x ∷ rest) (it : IsItem ms reign t.world.messages f reign.leader (t.time + pace.delay) x o)
      (C : Carries ms reign t.world.messages f reign.leader (t.time + pace.delay) rest others)
      (went : Went ms q pace (at_time ms q pace u t) (Arrives (Deliver o.number now)) (without_first f reign.leader others t.under_way) next) where
    shape : (F.taken ≡ 0) × (2 ≤ F.heard) × (item (body.LeaseAck r.version) (r.latest + 2 * pace.delay) ≡ x) × (rest ≡ [])
    shape = one_answer x _ rest F.heard F.taken items

    body_is : x.body ≡ body.LeaseAck store.last
    body_is = ap (λ (y : Item). y.body) (sym shape.2) ∙ ap body.LeaseAck (sym S.last)

    abbrev after : State
    after = record s {
      leader = record s.leader { acks = with_rank s.leader.acks f };
      timers = cond (are_within ms.count s.leader.quorum (with_rank s.leader.acks f)) (disarmed timer.LeaseAck s.timers) s.timers;
    }

    comes : option_map (brought now) (message_at t.world.messages o.number)
        ≡ Some (record { rank = reign.leader; at = now; input = input.Deliver (in_reign ms reign f reign.leader (body.LeaseAck store.last)).message })
    comes = ap (option_map (brought now)) (it.there ∙ ap (λ (z : Body). Some (in_reign ms reign f reign.leader z)) body_is)

    D : Did t.world next.world reign.leader after [] []
    D = let R = L.2 in
        let here = inside ms full q pace reign r t S reign.leader S.leads in
        did ms t.world next.world (Deliver o.number now) reign.leader here now (input.Deliver (in_reign ms reign f reign.leader (body.LeaseAck store.last)).message) s comes L.1 went.happened _
        (ack_row ms reign.leader here (shared_entries (t.world.store reign.leader)) now store s f reign.epoch nf (subst (λ (z : List Bool). has z f ≡ true) (sym R.quorum) (S.within f qf)) S.epoch R.leads)

    said_some : (h : ℕ) → 2 ≤ h → 1 ≤ said h
    said_some zero le = absurd (omega arith)
    said_some (suc h) le = omega arith

    empty : (h : ℕ) → drop (suc zero) (take (said h) (to_leader reign pace (calm r))) ≡ []
    empty zero = refl
    empty (suc zero) = refl
    empty (suc (suc zero)) = refl
    empty (suc (suc (suc h))) = refl

    pub ack_comes : Waning ms full q pace reign r next
    ack_comes =
        let R = L.2 in
        let few : f < length s.leader.acks = (let a = S.members f (S.within f qf) in let b = ms.most in let c = R.ranks in omega arith) in
        about_peon ms full q pace reign r t S next u M.later _ (without_first f reign.leader others t.under_way) went [] reign.leader s after [] L.1 D f nf (inr refl)
        (answered_peon ms full q pace reign (calm r) t u M.later next f nf F o others rest C went s after L.1 D 1 (said_some F.heard shape.1) (λ _. has_self s.leader.acks f few) (shape.3 ∙ sym (empty F.heard)))
        (λ j ne nj. (other_left f reign.leader others t.under_way reign.leader j (λ _ b. nj b), other_left f reign.leader others t.under_way j reign.leader (λ a _. ne a)))
        (λ g j a. other_left f reign.leader others t.under_way g j (λ y z. nf (sym y ∙ a.1 z)))
        (subst (λ (z : Readings). epoch_of z ≡ reign.epoch) (sym (D.kept tt)) S.epoch, subst (λ (z : Readings). z.last ≡ r.version) (sym (D.kept tt)) S.last)
        (pack (Renewer ms full q pace reign r) (next.world.state reign.leader) after D.up (acknowledged reign full _ _ s R f (are_within ms.count s.leader.quorum (with_rank s.leader.acks f))))
        (λ j ne taken k. on_state ms q pace reign t next u M.later _ _ went reign.leader s after [] [] L.1 D (Noted j taken None) (Noted j taken None) reign.leader (λ _ N one. has_with s.leader.acks f j (N one)) (λ ne2 z k. absurd (ne2 refl)) k)
        (λ g j _ _. refl) (calm_popped ms full q pace reign r t S f reign.leader qf S.leads o others first) (tt, tt)

  -- ---- the leases are renewed

  module _ (end : ℕ) (set : end_of timer.Renew s.timers ≡ Some end) (due : end ≤ now) (went : Went ms q pace (at_time ms q pace u t) (Arrives (Ring reign.leader timer.Renew now)) t.under_way next) where
    late : r.latest + 3000 ≤ u
    late = let R = L.2 in let z : Some (r.latest + pace.clock reign.leader + 3000) ≡ Some end = sym R.renews ∙ set in let y : r.latest + pace.clock reign.leader + 3000 ≡ end = cc in omega arith

    -- all LEASEs and all acknowledgements of members have arrived
    arrived : (j : ℕ) → has q j ≡ true → (F : PeonIn ms full pace reign (calm r) t j t.under_way) → (F.heard ≡ 2) × (F.taken ≡ 1)
    arrived j qj F =
        let two : F.heard ≤ 2 = (let a = F.sent in omega arith) in
        by F.heard F.taken two F.answered (λ le. by_lease ms full q pace reign r t S K u M j qj F le) (λ le z. by_ack ms full q pace reign r t S K u M j qj F le z)
      where
        by : (h g : ℕ) → h ≤ 2 → g ≤ said h → (h ≤ 1 → u ≤ r.latest + pace.delay) → (2 ≤ h → g ≡ 0 → u ≤ r.latest + 2 * pace.delay) → (h ≡ 2) × (g ≡ 1)
        by zero g le two l a = let z = l (omega arith) in let x = late in let k = K.leases in absurd (omega arith)
        by (suc zero) g le two l a = let z = l (omega arith) in let x = late in let k = K.leases in absurd (omega arith)
        by (suc (suc zero)) zero le two l a = let z = a (omega arith) refl in let x = late in let k = K.elections in let m = K.leases in absurd (omega arith)
        by (suc (suc zero)) (suc zero) le two l a = (refl, refl)
        by (suc (suc zero)) (suc (suc g)) le two l a = absurd (omega arith)
        by (suc (suc (suc h))) g le two l a = absurd (omega arith)

    abbrev here : ltb reign.leader ms.count ≡ true
    here = inside ms full q pace reign r t S reign.leader S.leads

    abbrev me : Me
    me = member_of ms reign.leader here

    R : Renewer ms full q pace reign r s
    R = L.2

    on : is_some (end_of timer.Renew s.timers) ≡ true
    on = ap is_some set

    abbrev bare : Timers
    bare = disarmed timer.Renew s.timers

    abbrev lasting : State
    lasting = renewer ms full q pace reign r t u M.later next here s L.1 R.leads R.quorum on S.epoch S.last went

    abbrev es : List Envelope
    es = new_leases ms full q pace reign r t u M.later next here s L.1 R.leads R.quorum on S.epoch S.last went

    E : Did t.world next.world reign.leader lasting [] es
    E = renewed ms full q pace reign r t u M.later next here s L.1 R.leads R.quorum on S.epoch S.last went

    X : Extends now (room reign.leader S.leads) bare (disarmed_size timer.Renew s.timers R.kinds) (bare_of reign full _ _ s R) (extended_timers now (is_empty (members me s.leader.quorum)) bare)
    X = extends now (room reign.leader S.leads) bare (disarmed_size timer.Renew s.timers R.kinds) (bare_of reign full _ _ s R) (is_empty (members me s.leader.quorum))

    -- no command waits
    timers_are : lasting.timers ≡ extended_timers now (is_empty (members me s.leader.quorum)) bare
    timers_are = ap (λ (ws : List Waiting). maybe_armed (not (is_empty ws)) now (extended_timers now (is_empty (members me s.leader.quorum)) bare)) R.queue

    leads_on : Renewer ms full q pace reign (record r { latest = u; before = r.latest }) lasting
    leads_on = record {
      leads = R.leads;
      quorum = R.quorum;
      number = R.number;
      queue = R.queue;
      ranks = length-set no_ranks reign.leader true;
      kinds = ap length timers_are ∙ X.kinds;
      renews = ap (end_of timer.Renew) timers_are ∙ X.renews ∙ ap Some (omega arith);
      awaits = λ end e. elim (X.awaits end (sym (ap (end_of timer.LeaseAck) timers_are) ∙ e)) [
        | inl old ↦ R.awaits end (sym (still_on timer.LeaseAck timer.Renew s.timers (λ z. omega arith)) ∙ old)
        | inr new ↦ (let a = S.renewed in let b = late in omega arith)
      ];
      only = λ kind end e. X.only kind end (sym (ap (end_of kind) timers_are) ∙ e);
    }

    quiet_on : IsCalm ms full q pace reign r next.world.messages next.under_way
    quiet_on = calm_on ms full q pace reign r t S next u M.later _ t.under_way went es E.messages (calm_now ms full q pace reign r t S)
        (each_hands_on_none me reign.epoch (body.Lease r.version) (λ k. k) (members me full), each_calls_none me reign.epoch (body.Lease r.version) (λ k. k) (members me full))

    pub renews : Waning ms full q pace reign (record r { latest = u; before = r.latest }) next
    renews = record {
      leads = S.leads;
      within = S.within;
      second = S.second;
      second_in = S.second_in;
      second_is = S.second_is;
      members = S.members;
      short = S.short;
      since = (let a = S.since in let b = late in omega arith);
      reached = (let c = went.time in omega arith);
      ordered = (let b = late in omega arith);
      renewed = (let a = S.renewed in let b = late in omega arith);
      apart = (let a = by_renewal ms full q pace reign r t S K u M in omega arith);
      epoch = ap epoch_of (E.kept tt) ∙ S.epoch;
      last = ap (λ (z : Readings). z.last) (E.kept tt) ∙ S.last;
      fits = S.fits;
      lead = pack (Renewer ms full q pace reign (record r { latest = u; before = r.latest })) (next.world.state reign.leader) lasting E.up leads_on;
      peons = λ j qj nj. (let F = S.peons j qj nj in let k = arrived j qj F in
          renewed_peon ms full q pace reign r t u M.later next here s L.1 R.leads R.quorum on S.epoch S.last went j (S.within j qj) (S.members j (S.within j qj)) nj F k.0 k.1);
      others = λ f j qf qj a. same_carried ms q pace reign t next u M.later _ t.under_way went reign.leader s lasting [] es L.1 E f j [] (S.others f j qf qj a) (gives_apart ms full reign here _ f j a);
      quiet = quiet_on.0;
      uncalled = quiet_on.1;
    }
