-- A leader proposes the value that it found: what is known of its members, and what changes nothing.
use Rattle.law_names.proofs.Runs.{Envelope, Event, Monitors}
use Rattle.law_names.proofs.Table.{AllByRecursion, Change, Clients, Phase, Readings, State, epoch_of, has, promise_of, quorum_of, readings_of, same_phase}
use Rattle.mon_wire.specs.declared.phase.Phase.TheVariants as phase
use Rattle.quorum_stays.proofs.Carrying.{Gives, first_by, gives_none}
use Rattle.quorum_stays.proofs.Onward.{one_state, unpack}
use Rattle.quorum_stays.proofs.States.{Missing, one_missing, quiet_follows, quiet_proposes}
use Rattle.quorum_stays.proofs.Stepping.{Did}
use Rattle.quorum_stays.proofs.Timers.{Tidy}
use Rattle.quorum_stays.proofs.Turning.{every_store, on_state, other_state, other_store, same_carried}
use Rattle.quorum_stays.specs.Steady.{AreApart, Carries, FollowsSince, IsOfClients, Item, ProposesSince, Reign}
use Rattle.quorum_timed.proofs.Armed.{Timers}
use Rattle.quorum_timed.specs.Calls.{Calls}
use Rattle.quorum_timed.specs.Timed.{MayBe, Owed, Pace, Timed, Went, at_time}
use Rattle.std.proofs.Common.{Bool, IsSomeAnd, List, Some, [], ap, arith, false, inl, inr, ltb, refl, subst, sym, true, ℕ, ◌*◌, ◌+◌, ◌<◌, ◌∙◌, ◌∷◌, ◌≡◌, ◌≤◌, ◌⊎◌}
use Rattle.std.proofs.lemmas.Bool.{cases_eq, false≢true, lt-ltb}
use Rattle.timed_failover.specs.Settling.{Accepted, Behind, Counted, KeepsAs, Level, Progress, Settler, Settles, Settling, from_such, is_counted, to_such}

module _ (ms : Monitors) (q : List Bool) (pace : Pace) (reign : Reign) (x : Settling) where
  -- a peon in a world
  abbrev pub PeerAt : Timed → ℕ → (ℕ → ℕ → List Owed) → Type 0
  PeerAt t j left = Settler ms q pace reign x t.world.messages (t.time + pace.delay) j (t.world.state j) (t.world.state reign.leader)
      (readings_of (t.world.store j)) (left reign.leader j) (left j reign.leader)

  -- the state of the leader
  abbrev pub Proposer : State → Type 0
  Proposer s = ProposesSince phase.Previous ms.count reign q x.found.value (x.found.at + pace.clock reign.leader) s

  -- ---- what is known

  module _ (t : Timed) (S : Settles ms q pace reign x t) where
    pub inside : (i : ℕ) → has q i ≡ true → ltb i ms.count ≡ true
    inside i qi = lt-ltb i ms.count (S.members i qi)

    pub few : reign.leader < 15
    few = let z = S.members reign.leader S.leads in let m = ms.most in omega arith

    pub leading : (s : State) × (t.world.state reign.leader ≡ Some s) × Proposer s
    leading = unpack Proposer (t.world.state reign.leader) S.lead

    -- a member, which is up, not active, and takes no part in an election
    pub record Member (i : ℕ) : Type 0 where
      pub state : State
      pub up : t.world.state i ≡ Some state
      pub awake : same_phase state.phase phase.Booting ≡ false
      pub settled : same_phase state.phase phase.Electing ≡ false
      pub idle : same_phase state.phase phase.Active ≡ false
      pub quorum : quorum_of state ≡ q
      pub epoch : epoch_of (readings_of (t.world.store i)) ≡ reign.epoch

    pub member : (i : ℕ) → has q i ≡ true → Member i
    member i qi = by (cases_eq i reign.leader)
      where
        by : (i ≡ reign.leader) ⊎ (i ≡ reign.leader → ⊥) → Member i
        by (inr ne) =
            let F = S.peons i qi ne in
            let l = unpack (FollowsSince reign.leader q (x.won + pace.clock i)) (t.world.state i) F.follows in
            let p = l.2.follows in
            record { state = l.0; up = l.1; awake = rw p refl; settled = rw p refl; idle = rw p refl; quorum = rw p l.2.quorum; epoch = F.epoch }
        by (inl e) =
            let l = leading in
            let p = l.2.leads in
            record {
              state = l.0;
              up = subst (λ (z : ℕ). t.world.state z ≡ Some l.0) (sym e) l.1;
              awake = rw p refl;
              settled = rw p refl;
              idle = rw p refl;
              quorum = rw p l.2.quorum;
              epoch = subst (λ (z : ℕ). epoch_of (readings_of (t.world.store z)) ≡ reign.epoch) (sym e) S.epoch;
            }

    pub no_call : (k f i : ℕ) → has q f ≡ true → Calls t.world k f i → ⊥
    no_call k f i qf C =
        let C2 = C.still in
        let m = member f qf in
        let same : m.state ≡ C2.state = one_state (t.world.state f) m.state C2.state m.up C2.up in
        false≢true (sym m.settled ∙ ap (λ (z : State). same_phase z.phase phase.Electing) same ∙ ap (λ (z : Phase). same_phase z phase.Electing) C2.elects)

    -- ---- how far time may have gone

    module _ (u : ℕ) (M : MayBe ms q pace t u) where
      pub first_of : (f i : ℕ) → has q f ≡ true → has q i ≡ true → (y : Item) (rest : List Item) → Carries ms reign t.world.messages f i (t.time + pace.delay) (y ∷ rest) (t.under_way f i) → u ≤ y.by
      first_of f i qf qi y rest C = first_by ms reign f i t.world.messages (t.time + pace.delay) u y rest (t.under_way f i) C (λ o others e. M.messages f i qf qi o others e)

      -- a member that hasn't accepted the value yet gets it, or its acceptance is under way
      pub over : u ≤ x.found.at + 2 * pace.delay
      over = by F.progress (sym counted ∙ m.missing) F.to_come F.to_take
        where
          l : (s : State) × (t.world.state reign.leader ≡ Some s) × Proposer s
          l = leading

          m : Missing q l.0.leader.accepted
          m = let P = l.2 in one_missing ms.count q l.0.leader.accepted P.more

          other : m.rank ≡ reign.leader → ⊥
          other e = let P = l.2 in false≢true (sym m.missing ∙ subst (λ (z : ℕ). has l.0.leader.accepted z ≡ true) (sym e) P.own)

          F : PeerAt t m.rank t.under_way
          F = S.peons m.rank m.member other

          counted : has l.0.leader.accepted m.rank ≡ is_counted F.progress
          counted =
              let n = unpack (λ (s : State). has s.leader.accepted m.rank ≡ is_counted F.progress) (t.world.state reign.leader) F.noted in
              subst (λ (s : State). has s.leader.accepted m.rank ≡ is_counted F.progress) (one_state (t.world.state reign.leader) n.0 l.0 n.1 l.1) n.2

          by : (p : Progress) → is_counted p ≡ false → Carries ms reign t.world.messages reign.leader m.rank (t.time + pace.delay) (to_such reign pace x p) (t.under_way reign.leader m.rank)
              → Carries ms reign t.world.messages m.rank reign.leader (t.time + pace.delay) (from_such reign pace x p) (t.under_way m.rank reign.leader) → u ≤ x.found.at + 2 * pace.delay
          by Behind isnt down up = let z = first_of reign.leader m.rank S.leads m.member _ _ down in omega arith
          by Level isnt down up = let z = first_of reign.leader m.rank S.leads m.member _ _ down in omega arith
          by Accepted isnt down up = first_of m.rank reign.leader m.member S.leads _ _ up
          by Counted isnt down up = absurd (false≢true (sym isnt))

    -- ---- the same in another world

    module _ (next : Timed) (later : t.time ≤ next.time) where
      pub goes_on : epoch_of (readings_of (next.world.store reign.leader)) ≡ reign.epoch → (readings_of (next.world.store reign.leader)).last ≡ x.version → IsSomeAnd (next.world.state reign.leader) Proposer
          → ((j : ℕ) → has q j ≡ true → (j ≡ reign.leader → ⊥) → PeerAt next j next.under_way)
          → ((f j : ℕ) → has q f ≡ true → has q j ≡ true → AreApart reign.leader f j → Carries ms reign next.world.messages f j (next.time + pace.delay) [] (next.under_way f j)) → Settles ms q pace reign x next
      goes_on epoch last lead peons others = record {
        leads = S.leads;
        second = S.second;
        second_in = S.second_in;
        second_is = S.second_is;
        members = S.members;
        short = S.short;
        since = S.since;
        won = S.won;
        soon = S.soon;
        reached = (let a = S.reached in omega arith);
        epoch = epoch;
        last = last;
        made = S.made;
        fits = S.fits;
        lead = lead;
        peons = peons;
        others = others;
      }

  -- ---- an event at one member

  module _ (t next : Timed) (u : ℕ) (later : t.time ≤ u) (e : Event) (left : ℕ → ℕ → List Owed) (went : Went ms q pace (at_time ms q pace u t) e left next)
      (i : ℕ) (s after : State) (cs : List Change) (es : List Envelope) (up : t.world.state i ≡ Some s) (D : Did t.world next.world i after cs es) where
    -- a peon at which nothing happened, if this is under way to it and from it, and the leader knows how far it is
    pub rests : (j : ℕ) → (j ≡ i → ⊥) → (F : PeerAt t j t.under_way) → (p : Progress) → KeepsAs reign pace x p (readings_of (t.world.store j))
        → Carries ms reign t.world.messages reign.leader j (t.time + pace.delay) (to_such reign pace x p) (left reign.leader j) → Carries ms reign t.world.messages j reign.leader (t.time + pace.delay) (from_such reign pace x p) (left j reign.leader)
        → IsSomeAnd (next.world.state reign.leader) (λ (z : State). has z.leader.accepted j ≡ is_counted p) → Gives ms reign reign.leader j [] es → Gives ms reign j reign.leader [] es → PeerAt next j next.under_way
    rests j ne F p keeps down back noted gives_down gives_back = record {
      progress = p;
      follows = other_state ms q pace reign t next u later e left went i s after cs es up D (FollowsSince reign.leader q (x.won + pace.clock j)) j ne F.follows;
      epoch = other_store ms q pace reign t next u later e left went i s after cs es up D (λ w. epoch_of w ≡ reign.epoch) j ne F.epoch;
      promise = other_store ms q pace reign t next u later e left went i s after cs es up D (λ w. promise_of w ≡ reign.pn) j ne F.promise;
      keeps = other_store ms q pace reign t next u later e left went i s after cs es up D (KeepsAs reign pace x p) j ne keeps;
      noted = noted;
      to_come = same_carried ms q pace reign t next u later e left went i s after cs es up D reign.leader j _ down gives_down;
      to_take = same_carried ms q pace reign t next u later e left went i s after cs es up D j reign.leader _ back gives_back;
    }

  -- clients' commands are remembered and answered
  module _ (t : Timed) (S : Settles ms q pace reign x t) (next : Timed) (u : ℕ) (later : t.time ≤ u) (e : Event) (went : Went ms q pace (at_time ms q pace u t) e t.under_way next)
      (i : ℕ) (s : State) (clients : Clients) (ts : Timers) (T : Tidy s.timers ts) (es : List Envelope) (up : t.world.state i ≡ Some s)
      (D : Did t.world next.world i (record s { clients = clients; timers = ts }) [] es) (about : AllByRecursion (λ (m : Envelope). IsOfClients m.message.body) es) where
    abbrev after : State
    after = record s { clients = clients; timers = ts }

    store : (P : Readings → Type 0) (j : ℕ) → P (readings_of (t.world.store j)) → P (readings_of (next.world.store j))
    store P j k = every_store ms q pace reign t next u later e t.under_way went i s after [] es up D refl P j k

    pub stays_quiet : Settles ms q pace reign x next
    stays_quiet = goes_on t S next (let c = went.time in omega arith) (store (λ w. epoch_of w ≡ reign.epoch) reign.leader S.epoch) (store (λ w. w.last ≡ x.version) reign.leader S.last)
        (on_state ms q pace reign t next u later e t.under_way went i s after [] es up D Proposer Proposer reign.leader
        (λ _ F. quiet_proposes phase.Previous ms.count reign q x.found.value (x.found.at + pace.clock reign.leader) s F clients ts T) (λ _ _ F. F) S.lead)
        (λ j qj nj. (let F = S.peons j qj nj in record {
          progress = F.progress;
          follows = on_state ms q pace reign t next u later e t.under_way went i s after [] es up D (FollowsSince reign.leader q (x.won + pace.clock j)) (FollowsSince reign.leader q (x.won + pace.clock j)) j
              (λ _ G. quiet_follows reign.leader q (x.won + pace.clock j) s G clients ts T) (λ _ _ G. G) F.follows;
          epoch = store (λ w. epoch_of w ≡ reign.epoch) j F.epoch;
          promise = store (λ w. promise_of w ≡ reign.pn) j F.promise;
          keeps = store (KeepsAs reign pace x F.progress) j F.keeps;
          noted = on_state ms q pace reign t next u later e t.under_way went i s after [] es up D (λ (z : State). has z.leader.accepted j ≡ is_counted F.progress) (λ (z : State). has z.leader.accepted j ≡ is_counted F.progress) reign.leader
              (λ _ G. G) (λ _ _ G. G) F.noted;
          to_come = same_carried ms q pace reign t next u later e t.under_way went i s after [] es up D reign.leader j _ F.to_come (gives_none ms reign reign.leader j es about);
          to_take = same_carried ms q pace reign t next u later e t.under_way went i s after [] es up D j reign.leader _ F.to_take (gives_none ms reign j reign.leader es about);
        }))
        (λ f j qf qj apart. same_carried ms q pace reign t next u later e t.under_way went i s after [] es up D f j [] (S.others f j qf qj apart) (gives_none ms reign f j es about))
