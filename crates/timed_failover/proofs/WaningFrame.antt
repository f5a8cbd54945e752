-- An event at one member of a quorum that lost a peon.
use Rattle.law_names.proofs.Runs.{Envelope, Event, Monitors, message_at}
use Rattle.law_names.proofs.Table.{AllByRecursion, Change, State, epoch_of, has, length_of, readings_of}
use Rattle.mon_wire.specs.declared.phase.Timer.TheVariants as timer
use Rattle.quorum_stays.proofs.Carrying.{Gives}
use Rattle.quorum_stays.proofs.Onward.{all_left}
use Rattle.quorum_stays.proofs.Peering.{AllApart, AllPeons, PeonIn, peons_on}
use Rattle.quorum_stays.proofs.Resting.{popped_nothing, sent_nothing}
use Rattle.quorum_stays.proofs.Stepping.{Did}
use Rattle.quorum_stays.specs.Serving.{HandsOnNothing, IsForward}
use Rattle.quorum_stays.specs.Steady.{AreApart, Noted, Reign, Round}
use Rattle.quorum_timed.specs.Calls.{IsCall}
use Rattle.quorum_timed.specs.Timed.{Owed, Pace, Timed, Went, at_time, without_first}
use Rattle.std.proofs.Common.{Bool, IsSomeAnd, List, None, Some, [], arith, subst, true, ℕ, ◌++◌, ◌+◌, ◌∷◌, ◌≡◌, ◌≤◌, ◌⊎◌}
use Rattle.timed_failover.proofs.Waning.{RenewsSince, Waning, calm}
use Rattle.timed_failover.proofs.WaningCalls.{CallsNone, calls_on}

module _ (ms : Monitors) (full q : List Bool) (pace : Pace) (reign : Reign) (r : Round) where
  -- the state of the leader
  abbrev pub Renewer : State → Type 0
  Renewer = RenewsSince reign full (r.latest + pace.clock reign.leader) (r.committed + pace.clock reign.leader + length_of timer.LeaseAck)

  -- no command is handed on to the leader, and no election is called
  abbrev pub IsCalm : List Envelope → (ℕ → ℕ → List Owed) → Type 0
  IsCalm messages left = ((i : ℕ) → has q i ≡ true → HandsOnNothing messages (left i reign.leader)) × ((f i : ℕ) → has q f ≡ true → has q i ≡ true → CallsNone messages (left f i))

  -- none of these messages hands on a command or calls an election
  abbrev pub Sends : List Envelope → Type 0
  Sends es = AllByRecursion (λ (m : Envelope). IsForward m.message.body → ⊥) es × AllByRecursion (λ (m : Envelope). IsCall m.message.body → ⊥) es

  module _ (t : Timed) (S : Waning ms full q pace reign r t) where
    pub calm_now : IsCalm t.world.messages t.under_way
    calm_now = (S.quiet, S.uncalled)

    -- the same without the first message from f to i
    pub calm_popped : (f i : ℕ) → has q f ≡ true → has q i ≡ true → (o : Owed) (others : List Owed) → t.under_way f i ≡ o ∷ others → IsCalm t.world.messages (without_first f i others t.under_way)
    calm_popped f i qf qi o others first = (
      popped_nothing ms q pace reign t.world.messages t.under_way S.quiet f i qf o others first,
      (λ g j qg qj. all_left f i others t.under_way (λ g j o. IsSomeAnd (message_at t.world.messages o.number) (λ m. IsCall m.message.body → ⊥)) g j (let all : CallsNone t.world.messages (o ∷ others) = subst (CallsNone t.world.messages) first (S.uncalled f i qf qi) in all.1) (S.uncalled g j qg qj)),
    )

    -- ---- the same in another world

    pub wanes_on : (next : Timed) → t.time ≤ next.time → epoch_of (readings_of (next.world.store reign.leader)) ≡ reign.epoch → (readings_of (next.world.store reign.leader)).last ≡ r.version → IsSomeAnd (next.world.state reign.leader) Renewer
        → AllPeons ms full pace reign (calm r) next q next.under_way × AllApart ms full pace reign (calm r) next q next.under_way → IsCalm next.world.messages next.under_way → Waning ms full q pace reign r next
    wanes_on next later epoch last lead k c = record {
      leads = S.leads;
      within = S.within;
      second = S.second;
      second_in = S.second_in;
      second_is = S.second_is;
      members = S.members;
      short = S.short;
      since = S.since;
      reached = (let a = S.reached in omega arith);
      ordered = S.ordered;
      renewed = S.renewed;
      apart = S.apart;
      epoch = epoch;
      last = last;
      fits = S.fits;
      lead = lead;
      peons = k.0;
      others = k.1;
      quiet = c.0;
      uncalled = c.1;
    }

    -- ---- an event at a member

    module _ (next : Timed) (u : ℕ) (later : t.time ≤ u) (e : Event) (left : ℕ → ℕ → List Owed) (went : Went ms q pace (at_time ms q pace u t) e left next) (es : List Envelope) where
      pub went_full : Went ms full pace (at_time ms full pace u t) e left next
      went_full = record { happened = went.happened; time = went.time; sent = went.sent; calls = went.calls }

      pub calm_on : next.world.messages ≡ t.world.messages ++ es → IsCalm t.world.messages left → Sends es → IsCalm next.world.messages next.under_way
      calm_on messages c silent = (
        (λ i qi. sent_nothing ms q pace reign t u next es messages silent.0 e left went i (c.0 i qi)),
        (λ f i qf qi. calls_on ms q pace t next u e left went es messages silent.1 f i (c.1 f i qf qi)),
      )

      -- the event is at peon i or at the leader, about that peon
      pub about_peon : (at : ℕ) (s after : State) (cs : List Change) → t.world.state at ≡ Some s → Did t.world next.world at after cs es
          → (i : ℕ) → (i ≡ reign.leader → ⊥) → ((at ≡ i) ⊎ (at ≡ reign.leader)) → PeonIn ms full pace reign (calm r) next i next.under_way
          → ((j : ℕ) → (j ≡ i → ⊥) → (j ≡ reign.leader → ⊥) → (left reign.leader j ≡ t.under_way reign.leader j) × (left j reign.leader ≡ t.under_way j reign.leader))
          → ((f j : ℕ) → AreApart reign.leader f j → left f j ≡ t.under_way f j)
          → (epoch_of (readings_of (next.world.store reign.leader)) ≡ reign.epoch) × ((readings_of (next.world.store reign.leader)).last ≡ r.version)
          → IsSomeAnd (next.world.state reign.leader) Renewer
          → ((j : ℕ) → (j ≡ i → ⊥) → (taken : ℕ) → IsSomeAnd (t.world.state reign.leader) (Noted j taken None) → IsSomeAnd (next.world.state reign.leader) (Noted j taken None))
          → ((f j : ℕ) → (f ≡ reign.leader → j ≡ i → ⊥) → (f ≡ i → j ≡ reign.leader → ⊥) → Gives ms reign f j [] es)
          → IsCalm t.world.messages left → Sends es → Waning ms full q pace reign r next
      about_peon at s after cs up D i ni which F same apart keeps lead noted gives c silent =
          wanes_on next (let b = went.time in omega arith) keeps.0 keeps.1 lead
          (peons_on ms full pace reign (calm r) t next u later e left went_full at s after cs es up D q S.peons S.others i ni which F same apart noted gives)
          (calm_on D.messages c silent)
