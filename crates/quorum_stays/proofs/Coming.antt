-- What arrives at a member of a quorum that is led.
use Rattle.law_names.proofs.Runs.{Arrival, Arrives, Client, Deliver, Envelope, Event, Monitors, Plain, Ring, World, arrival, message_at, messages_of, replies_of, state_at}
use Rattle.law_names.proofs.Table.{AllByRecursion, Change, Clients, Course, Input, Origin, Phase, Reply, Request, Session, State, Store, Timer, end_of, epoch_of, has, index_of, is_alone, is_member, quorum_of, react, readings_of, same_phase, shared_entries}
use Rattle.mon_msg.specs.declared.input.Input.TheVariants as input
use Rattle.mon_wire.specs.declared.phase.Phase.TheVariants as phase
use Rattle.mon_wire.specs.declared.phase.Timer.TheVariants as timer
use Rattle.quorum_model.proofs.Members.{member_of}
use Rattle.quorum_stays.proofs.Bounds.{by_renewal, inside, leading, waits}
use Rattle.quorum_stays.proofs.Onward.{one_state, unpack}
use Rattle.quorum_stays.proofs.Outcomes.{AsksAs, Begins, BringsNone, BringsRoute, Fate, NobodyAsks, Outcome, aside_row, client_row, messages_for_clients, propose_row}
use Rattle.quorum_stays.proofs.Peering.{PeonIn, pop_down, pop_other, pop_up, popped}
use Rattle.quorum_stays.proofs.Quiets.{stays_quiet}
use Rattle.quorum_stays.proofs.Sending.{not_alone}
use Rattle.quorum_stays.proofs.Serving.{Goes, Marking, Served, Turn, aside, messages_carry}
use Rattle.quorum_stays.proofs.Sharing.{HandsOnNoneOf, Share, Shares, elsewhere}
use Rattle.quorum_stays.proofs.Stepping.{Did, brought, did, reacted, reacts, replied}
use Rattle.quorum_stays.proofs.Taking.{taken_by, taken_from, taken_here}
use Rattle.quorum_stays.proofs.Timers.{same_kind_or}
use Rattle.quorum_stays.proofs.Turns.{Ties, client_ties, hands_on_none, hands_on_own, marked, message_ties, shared, timer_ties, turned}
use Rattle.quorum_stays.specs.Reading.{ClocksGoOn}
use Rattle.quorum_stays.specs.Serving.{CarriesAnswer, IsForward, Writes}
use Rattle.quorum_stays.specs.Steady.{AreApart, Begun, Carries, FollowsSince, IsAside, IsItem, Item, Leads, Reign, Round, Steady, leased, said, to_leader, to_peon}
use Rattle.quorum_timed.proofs.Armed.{Timers}
use Rattle.quorum_timed.specs.Begins.{IsQuick}
use Rattle.quorum_timed.specs.Calls.{Calls}
use Rattle.quorum_timed.specs.Timed.{Again, Arriving, Asking, Comes, Firing, MayBe, Owed, Pace, Timed, Went, at_time, without_first}
use Rattle.quorum_walk.proofs.Walk.{Then}
use Rattle.std.proofs.Common.{Bool, IsSomeAnd, List, None, Ok, Option, Some, [], ap, arith, drop, false, inl, inr, ltb, option_map, refl, subst, sym, take, true, ℕ, ◌++◌, ◌+◌, ◌<◌, ◌∙◌, ◌∷◌, ◌≡◌, ◌≤◌, ◌⊎◌}
use Rattle.std.proofs.lemmas.Bool.{cases_eq, false≢true}

-- a candidate is electing
not_electing : (p : Phase) → same_phase p phase.Electing ≡ false → p ≡ phase.Electing → ⊥
not_electing p e is = false≢true (sym e ∙ ap (λ (z : Phase). same_phase z phase.Electing) is)

-- what a leader is
leads_in : (n : ℕ) (q : List Bool) (pace : Pace) (reign : Reign) (r : Round) (o : Option Begun) (s : State) → Leads n q pace reign r o s → (s.leader.quorum ≡ q) × ((s.phase ≡ phase.Active) ⊎ (s.phase ≡ phase.Updating))
leads_in n q pace reign r None s F = (F.quorum, inl F.leads)
leads_in n q pace reign r (Some b) s P = let X = P.proposes in (X.quorum, inr X.leads)

-- ---- one round after another

-- versions never fall, the time of the last commit changes with the version alone, and a value stays in progress until it
-- is committed
pub record Onward (r later : Round) : Type 0 where
  pub rises : r.version ≤ later.version
  pub kept : later.version ≡ r.version → later.committed ≡ r.committed
  pub same : (b : Begun) → r.next ≡ Some b → (later.next ≡ Some b) ⊎ (r.version < later.version)

pub still : (r : Round) → Onward r r
still r = record { rises = omega arith; kept = λ e. refl; same = λ b is. inl is }

pub onward : (a b c : Round) → Onward a b → Onward b c → Onward a c
onward a b c x y = record {
  rises = (let u = x.rises in let v = y.rises in omega arith);
  kept = λ e. (let u = x.rises in
      let v = y.rises in
      let first : b.version ≡ a.version = omega arith in
      y.kept (e ∙ sym first) ∙ x.kept first);
  same = λ g is. elim (x.same g is) [
    | inl k ↦ elim (y.same g k) [ inl z ↦ inl z | inr z ↦ inr (let u = x.rises in omega arith) ]
    | inr k ↦ inr (let v = y.rises in omega arith)
  ];
}

-- ---- what holds in all rounds

module _ (ms : Monitors) (q : List Bool) (pace : Pace) (reign : Reign) (r : Round) (t : Timed) (S : Steady ms q pace reign r t) where
  -- a member, which is up and takes no part in an election
  pub record Member (i : ℕ) (here : ltb i ms.count ≡ true) : Type 0 where
    pub state : State
    pub up : t.world.state i ≡ Some state
    pub awake : same_phase state.phase phase.Booting ≡ false
    pub settled : same_phase state.phase phase.Electing ≡ false
    pub in_quorum : is_member state.phase ≡ true
    pub several : same_phase state.phase phase.Active ≡ true → is_alone (member_of ms i here) state.leader.quorum ≡ false
    pub peon : (i ≡ reign.leader → ⊥) → same_phase state.phase phase.Active ≡ false
    pub quorum : quorum_of state ≡ q
    pub epoch : epoch_of (readings_of (t.world.store i)) ≡ reign.epoch

  pub member : (i : ℕ) → has q i ≡ true → (here : ltb i ms.count ≡ true) → Member i here
  member i qi here = by (cases_eq i reign.leader)
    where
      by : (i ≡ reign.leader) ⊎ (i ≡ reign.leader → ⊥) → Member i here
      by (inr ne) =
          let F = S.peons i qi ne in
          let l = unpack (FollowsSince reign.leader q (leased r F.heard + pace.clock i)) (t.world.state i) F.follows in
          let p = l.2.follows in
          let idle : same_phase l.0.phase phase.Active ≡ false = rw p refl in
          record { state = l.0; up = l.1; awake = rw p refl; settled = rw p refl; in_quorum = rw p refl; several = λ e. absurd (false≢true (sym idle ∙ e)); peon = λ _. idle; quorum = rw p l.2.quorum; epoch = F.epoch }
      by (inl e) =
          let l = leading ms q pace reign r t S in
          let up : t.world.state i ≡ Some l.0 = subst (λ (z : ℕ). t.world.state z ≡ Some l.0) (sym e) l.1 in
          let k = leads_in ms.count q pace reign r r.next l.0 l.2 in
          let epoch : epoch_of (readings_of (t.world.store i)) ≡ reign.epoch = subst (λ (z : ℕ). epoch_of (readings_of (t.world.store z)) ≡ reign.epoch) (sym e) S.epoch in
          elim k.1 [
            | inl p ↦ record {
              state = l.0;
              up = up;
              awake = rw p refl;
              settled = rw p refl;
              in_quorum = rw p refl;
              several = λ _. (let g = k.0 in rw g (not_alone (member_of ms i here) q S.second S.second_in (λ z. S.second_is (z ∙ e)) (S.members S.second S.second_in)));
              peon = λ ne. absurd (ne e);
              quorum = rw p k.0;
              epoch = epoch;
            }
            | inr p ↦ (let idle : same_phase l.0.phase phase.Active ≡ false = rw p refl in record {
              state = l.0;
              up = up;
              awake = rw p refl;
              settled = rw p refl;
              in_quorum = rw p refl;
              several = λ z. absurd (false≢true (sym idle ∙ z));
              peon = λ ne. absurd (ne e);
              quorum = rw p k.0;
              epoch = epoch;
            })
          ]

  pub no_call : (k f i : ℕ) → has q f ≡ true → Calls t.world k f i → ⊥
  no_call k f i qf C =
      let C2 = C.still in
      let m = member f qf (inside ms q pace reign r t S f qf) in
      let same : m.state ≡ C2.state = one_state (t.world.state f) m.state C2.state m.up C2.up in
      not_electing m.state.phase m.settled (ap (λ (z : State). z.phase) same ∙ C2.elects)

  -- ---- clients' commands

  -- a member begins a value
  pub record BeginsAt (i u : ℕ) (e : Event) (next : Timed) : Type 0 where
    pub here : ltb i ms.count ≡ true
    pub state : State
    pub up : t.world.state i ≡ Some state
    pub course : Course
    pub taken : Option Origin
    pub taken_is : taken_by (member_of ms i here) t.world i state e ≡ taken
    pub input : Plain
    pub event_is : e ≡ Arrives input
    pub coming : Arrival
    pub arrives : arrival t.world input ≡ Some coming
    pub rank_is : coming.rank ≡ i
    pub begins : Begins (member_of ms i here) (shared_entries (t.world.store i)) (u + pace.clock i) (readings_of (t.world.store i)) state taken course
    pub did_it : Did t.world next.world i course.state course.changes (messages_of course.out)

  -- a member goes on as before
  pub record QuietAt (i u : ℕ) (e : Event) (next : Timed) : Type 0 where
    pub here : ltb i ms.count ≡ true
    pub state : State
    pub up : t.world.state i ≡ Some state
    pub course : Course
    pub taken : Option Origin
    pub taken_is : taken_by (member_of ms i here) t.world i state e ≡ taken
    pub clients : Clients
    pub timers : Timers
    pub state_is : course.state ≡ record state { clients = clients; timers = timers }
    pub fate : Fate (member_of ms i here) (shared_entries (t.world.store i)) (u + pace.clock i) (readings_of (t.world.store i)) state taken clients timers course.out
    pub plain : AllByRecursion (λ (m : Envelope). IsForward m.message.body → ⊥) (messages_of course.out) ⊎ Writes e
    pub marks : (f : ℕ) → Marking ms pace reign f taken state (record state { clients = clients; timers = timers })
    pub routes : AllByRecursion (λ (m : Envelope). CarriesAnswer m.message.body) (messages_of course.out)
    pub peons : (f : ℕ) → (f ≡ i → ⊥) → Shares ms reign t.world next.world e (messages_of course.out) f
    pub did_it : Did t.world next.world i course.state course.changes (messages_of course.out)
    pub event : ℕ
    pub store : Store
    pub replied : next.world.replied ≡ t.world.replied ++ replies_of event i store course.out

  -- what becomes of the commands that wait
  module _ (u : ℕ) (soon : r.next ≡ None → u ≤ r.latest + 3000 + pace.late) (quick : pace.delay + pace.late < 2000) (room : ClocksGoOn q pace u) (e : Event) (next : Timed) where
    quiet_leader : QuietAt reign.leader u e next → Served ms pace reign e u t.world next.world r r
    quiet_leader A =
        let E = A.did_it in
        let w = readings_of (t.world.store reign.leader) in
        let sh = shared_entries (t.world.store reign.leader) in
        let L : Leads ms.count q pace reign r r.next A.state = subst (λ (o : Option State). IsSomeAnd o (Leads ms.count q pace reign r r.next)) A.up S.lead in
        record {
          here = A.here;
          was = A.state;
          is = record (A.state) { clients = A.clients; timers = A.timers };
          up = A.up;
          up_after = E.up ∙ ap Some A.state_is;
          es = messages_of A.course.out;
          messages = E.messages;
          plain = A.plain;
          version = λ _. refl;
          marks = λ f. subst (λ (z : Option Origin). Marking ms pace reign f z A.state (record (A.state) { clients = A.clients; timers = A.timers })) (sym A.taken_is) (A.marks f);
          routes = A.routes;
          peons = A.peons;
          turn = subst (λ (z : Option Origin). Turn ms pace reign u t.world next.world r r z A.state (record (A.state) { clients = A.clients; timers = A.timers }) (messages_of A.course.out)) (sym A.taken_is)
              (turned ms q pace reign r u soon quick room S.leads A.here sh w S.epoch A.state L t.world next.world A.event A.store A.taken A.clients A.timers A.course.out A.replied A.fate);
        }

  module _ (u : ℕ) (later : t.time ≤ u) (soon : r.next ≡ None → u ≤ r.latest + 3000 + pace.late) (quick : pace.delay + pace.late < 2000) (room : ClocksGoOn q pace u)
      (next : Timed) (p : Plain) (went : Went ms q pace (at_time ms q pace u t) (Arrives p) t.under_way next)
      (i : ℕ) (qi : has q i ≡ true) (came : Input) (comes : arrival t.world p ≡ Some (record { rank = i; at = u + pace.clock i; input = came }))
      (plain : (s : State) → state_at i (Some s) came ≡ Some s) (Asks : Session → Type 0) (Brings : State → ℕ → Reply → Type 0) (ties : (s : State) → t.world.state i ≡ Some s → Ties ms reign t.world p i (readings_of (t.world.store i)) s Asks (Brings s))
      (row : (here : ltb i ms.count ≡ true) (m : Member i here) → Then (Outcome (member_of ms i here) (shared_entries (t.world.store i)) (u + pace.clock i) (readings_of (t.world.store i)) m.state
      (taken_from (member_of ms i here) (readings_of (t.world.store i)) m.state came) Asks (Brings m.state))
      (react (member_of ms i here) (shared_entries (t.world.store i)) (u + pace.clock i) (readings_of (t.world.store i)) m.state came)) where
    abbrev at : ltb i ms.count ≡ true
    at = inside ms q pace reign r t S i qi

    m1 : Member i (inside ms q pace reign r t S i qi)
    m1 = member i qi (inside ms q pace reign r t S i qi)

    state_is : state_at i (t.world.state i) came ≡ Some m1.state
    state_is = ap (λ (z : Option State). state_at i z came) m1.up ∙ plain m1.state

    Y : (y : Course) × (reacted ms t.world next.world p i (inside ms q pace reign r t S i qi) (u + pace.clock i) came m1.state comes state_is went.happened ≡ Ok y)
    Y = reacts ms t.world next.world p i (inside ms q pace reign r t S i qi) (u + pace.clock i) came m1.state comes state_is went.happened

    D : Did t.world next.world i Y.0.state Y.0.changes (messages_of Y.0.out)
    D = did ms t.world next.world p i (inside ms q pace reign r t S i qi) (u + pace.clock i) came m1.state comes state_is went.happened Y.0 Y.1

    R : (event : ℕ) × (m : Store) × (next.world.replied ≡ t.world.replied ++ replies_of event i m Y.0.out)
    R = replied ms t.world next.world p i (inside ms q pace reign r t S i qi) (u + pace.clock i) came m1.state comes state_is went.happened Y.0 Y.1

    abbrev takes : Option Origin
    takes = taken_from (member_of ms i (inside ms q pace reign r t S i qi)) (readings_of (t.world.store i)) m1.state came

    takes_is : taken_by (member_of ms i (inside ms q pace reign r t S i qi)) t.world i m1.state (Arrives p) ≡ taken_from (member_of ms i (inside ms q pace reign r t S i qi)) (readings_of (t.world.store i)) m1.state came
    takes_is = taken_here (member_of ms i (inside ms q pace reign r t S i qi)) t.world i m1.state (arrival t.world p) _ comes refl

    abbrev Out : Type 0
    Out = Outcome (member_of ms i (inside ms q pace reign r t S i qi)) (shared_entries (t.world.store i)) (u + pace.clock i) (readings_of (t.world.store i)) m1.state takes Asks (Brings m1.state) Y.0

    outcome : Out
    outcome = let z = subst (Then (Outcome (member_of ms i (inside ms q pace reign r t S i qi)) (shared_entries (t.world.store i)) (u + pace.clock i) (readings_of (t.world.store i)) m1.state takes Asks (Brings m1.state))) Y.1 (row (inside ms q pace reign r t S i qi) m1) in z.holds

    pub turns : Goes ms q pace reign t.world u (Arrives p) r r next ⊎ BeginsAt reign.leader u (Arrives p) next
    turns = by outcome (cases_eq i reign.leader)
      where
        by : Out → (i ≡ reign.leader) ⊎ (i ≡ reign.leader → ⊥) → Goes ms q pace reign t.world u (Arrives p) r r next ⊎ BeginsAt reign.leader u (Arrives p) next
        by (inl Q) k =
            let E : Did t.world next.world i (record (m1.state) { clients = Q.clients; timers = Q.timers }) [] (messages_of Y.0.out) =
            subst (λ (cs : List Change). Did t.world next.world i (record (m1.state) { clients = Q.clients; timers = Q.timers }) cs (messages_of Y.0.out)) Q.unwritten
            (subst (λ (z : State). Did t.world next.world i z Y.0.changes (messages_of Y.0.out)) Q.state D) in
            inl (stays_quiet ms q pace reign r t next u later (Arrives p) went i m1.state Q.clients Q.timers Q.tidy (messages_of Y.0.out) m1.up E (messages_for_clients Y.0.out Q.about) S, served k)
          where
            tie : Ties ms reign t.world p i (readings_of (t.world.store i)) m1.state Asks (Brings m1.state)
            tie = ties m1.state m1.up

            plainly : AllByRecursion (λ (m : Envelope). IsForward m.message.body → ⊥) (messages_of Y.0.out) ⊎ Writes (Arrives p)
            plainly = let T = tie in hands_on_none (member_of ms i (inside ms q pace reign r t S i qi)) (shared_entries (t.world.store i)) (u + pace.clock i) (readings_of (t.world.store i)) m1.state Asks (Brings m1.state) (Writes (Arrives p)) Q.clients Y.0.out T.writes Q.hand

            only_own : (f : ℕ) → (f ≡ i → ⊥) → HandsOnNoneOf f (messages_of Y.0.out)
            only_own = hands_on_own (member_of ms i (inside ms q pace reign r t S i qi)) (shared_entries (t.world.store i)) (u + pace.clock i) (readings_of (t.world.store i)) m1.state Asks (Brings m1.state) Q.clients Y.0.out Q.hand

            elsewhere_it : (f : ℕ) → (f ≡ i → ⊥) → Shares ms reign t.world next.world (Arrives p) (messages_of Y.0.out) f
            elsewhere_it f ne = elsewhere ms reign t.world next.world p _ comes i refl Y.0.state Y.0.changes (messages_of Y.0.out) D f ne (only_own f ne)

            mine : (i ≡ reign.leader → ⊥) → Shares ms reign t.world next.world (Arrives p) (messages_of Y.0.out) i
            mine ne z up =
                let F = S.peons i qi ne in
                let G : FollowsSince reign.leader q (leased r F.heard + pace.clock i) m1.state = subst (λ (o : Option State). IsSomeAnd o (FollowsSince reign.leader q (leased r F.heard + pace.clock i))) m1.up F.follows in
                let same : m1.state ≡ z = one_state (t.world.state i) m1.state z m1.up up in
                let h = shared ms reign i ne (inside ms q pace reign r t S i qi) (shared_entries (t.world.store i)) (u + pace.clock i) (readings_of (t.world.store i)) m1.state G.follows G.leader_is F.epoch Asks (Brings m1.state) t.world next.world p tie R.0 R.1 Q.clients Q.timers Y.0.out R.2 Q.hand in (
                  record (m1.state) { clients = Q.clients; timers = Q.timers },
                  D.up ∙ ap Some Q.state,
                  subst (λ (y : State). Share ms reign t.world next.world (Arrives p) i y (record (m1.state) { clients = Q.clients; timers = Q.timers }) (messages_of Y.0.out)) same h,
                )

            served : (i ≡ reign.leader) ⊎ (i ≡ reign.leader → ⊥) → Served ms pace reign (Arrives p) u t.world next.world r r
            served (inl e) = quiet_leader u soon quick room (Arrives p) next (subst (λ (z : ℕ). QuietAt z u (Arrives p) next) e (record {
              here = inside ms q pace reign r t S i qi;
              state = m1.state;
              up = m1.up;
              course = Y.0;
              taken = takes;
              taken_is = takes_is;
              clients = Q.clients;
              timers = Q.timers;
              state_is = Q.state;
              fate = Q.fate;
              plain = plainly;
              marks = marked (member_of ms i (inside ms q pace reign r t S i qi)) (shared_entries (t.world.store i)) (u + pace.clock i) (readings_of (t.world.store i)) m1.state ms pace reign takes Q.clients Q.timers Q.marks;
              routes = messages_carry Y.0.out Q.routes;
              peons = elsewhere_it;
              did_it = D;
              event = R.0;
              store = R.1;
              replied = R.2;
            }))
            served (inr ne) =
                let l = leading ms q pace reign r t S in
                aside ms pace reign (inside ms q pace reign r t S reign.leader S.leads) r u t.world next.world p _ comes l.0 l.1 i refl ne Y.0.state Y.0.changes (messages_of Y.0.out) D plainly
                only_own (messages_carry Y.0.out Q.routes) (mine ne)
        by (inr B) (inl e) = inr (subst (λ (z : ℕ). BeginsAt z u (Arrives p) next) e (record {
          here = inside ms q pace reign r t S i qi;
          state = m1.state;
          up = m1.up;
          course = Y.0;
          taken = takes;
          taken_is = takes_is;
          input = p;
          event_is = refl;
          coming = record { rank = i; at = u + pace.clock i; input = came };
          arrives = comes;
          rank_is = refl;
          begins = B;
          did_it = D;
        }))
        by (inr B) (inr ne) = absurd (false≢true (sym (m1.peon ne) ∙ B.active))

-- ---- what comes

module _ (ms : Monitors) (q : List Bool) (pace : Pace) (reign : Reign) where
  -- after an event at time u
  abbrev pub Stays : World → (u : ℕ) → Event → Round → Timed → Type 0
  Stays w u e r next = (later : Round) × Goes ms q pace reign w u e r later next × Onward r later

  -- what depends on whether a value is in progress: the leader begins one, a message of the round comes, and a timer of the
  -- leader fires
  pub record Handles (r : Round) (t : Timed) (S : Steady ms q pace reign r t) (u : ℕ) (next : Timed) : Type 0 where
    pub begins : (left : ℕ → ℕ → List Owed) (T : Steady ms q pace reign r (record t { under_way = left })) (e : Event) → Went ms q pace (at_time ms q pace u (record t { under_way = left })) e left next
        → BeginsAt ms q pace reign r (record t { under_way = left }) T reign.leader u e next → Stays t.world u e r next
    pub down : (i : ℕ) (qi : has q i ≡ true) (ni : i ≡ reign.leader → ⊥) (F : PeonIn ms q pace reign r t i t.under_way) (o : Owed) (others : List Owed) (x : Item) (rest : List Item)
        → drop F.heard (to_peon reign pace r) ≡ x ∷ rest → IsItem ms reign t.world.messages reign.leader i (t.time + pace.delay) x o → Carries ms reign t.world.messages reign.leader i (t.time + pace.delay) rest others
        → Went ms q pace (at_time ms q pace u t) (Arrives (Deliver o.number (u + pace.clock i))) (without_first reign.leader i others t.under_way) next → Stays t.world u (Arrives (Deliver o.number (u + pace.clock i))) r next
    pub up : (f : ℕ) (qf : has q f ≡ true) (nf : f ≡ reign.leader → ⊥) (F : PeonIn ms q pace reign r t f t.under_way) (o : Owed) (others : List Owed) (x : Item) (rest : List Item)
        → drop F.taken (take (said F.heard) (to_leader reign pace r)) ≡ x ∷ rest → IsItem ms reign t.world.messages f reign.leader (t.time + pace.delay) x o → Carries ms reign t.world.messages f reign.leader (t.time + pace.delay) rest others
        → Went ms q pace (at_time ms q pace u t) (Arrives (Deliver o.number (u + pace.clock reign.leader))) (without_first f reign.leader others t.under_way) next → Stays t.world u (Arrives (Deliver o.number (u + pace.clock reign.leader))) r next
    pub timer : (s : State) → t.world.state reign.leader ≡ Some s → (kind : Timer) (end : ℕ) → (kind ≡ timer.Propose → ⊥) → end_of kind s.timers ≡ Some end → end ≤ u + pace.clock reign.leader
        → Went ms q pace (at_time ms q pace u t) (Arrives (Ring reign.leader kind (u + pace.clock reign.leader))) t.under_way next → Stays t.world u (Arrives (Ring reign.leader kind (u + pace.clock reign.leader))) r next

  module _ (K : IsQuick pace) (r : Round) (t : Timed) (S : Steady ms q pace reign r t) (u : ℕ) (M : MayBe ms q pace t u) (room : ClocksGoOn q pace u) (next : Timed) (H : Handles r t S u next) where
    abbrev tu : Timed
    tu = at_time ms q pace u t

    soon : r.next ≡ None → u ≤ r.latest + 3000 + pace.late
    soon none = by_renewal ms q pace reign r t S K u M none

    quick : pace.delay + pace.late < 2000
    quick = K.leases

    resolved : (left : ℕ → ℕ → List Owed) (T : Steady ms q pace reign r (record t { under_way = left })) (e : Event) → Went ms q pace (at_time ms q pace u (record t { under_way = left })) e left next
        → Goes ms q pace reign t.world u e r r next ⊎ BeginsAt ms q pace reign r (record t { under_way = left }) T reign.leader u e next → Stays t.world u e r next
    resolved left T e went (inl k) = (r, k, still r)
    resolved left T e went (inr B) = H.begins left T e went B

    moved : (left : ℕ → ℕ → List Owed) (e : Event) → Went ms q pace (at_time ms q pace u t) e left next → Went ms q pace (at_time ms q pace u (record t { under_way = left })) e left next
    moved left e went = record { happened = went.happened; time = went.time; sent = went.sent; calls = went.calls }

    -- a message of no round
    comes_aside : (f i : ℕ) → has q f ≡ true → has q i ≡ true → (o : Owed) (others : List Owed) → (T : Steady ms q pace reign r (record t { under_way = without_first f i others t.under_way })) → IsAside reign.epoch t.world.messages f i o
        → Went ms q pace (at_time ms q pace u t) (Arrives (Deliver o.number (u + pace.clock i))) (without_first f i others t.under_way) next → Stays t.world u (Arrives (Deliver o.number (u + pace.clock i))) r next
    comes_aside f i qf qi o others T c went =
        let left = without_first f i others t.under_way in
        let went2 = moved (without_first f i others t.under_way) (Arrives (Deliver o.number (u + pace.clock i))) went in
        resolved (without_first f i others t.under_way) T _ went2
        (turns ms q pace reign r (record t { under_way = without_first f i others t.under_way }) T u M.later soon quick room next (Deliver o.number (u + pace.clock i)) went2 i qi (input.Deliver c.envelope.message) comes (λ s. refl) NobodyAsks (λ s. BringsRoute (member_of ms i at) (readings_of (t.world.store i)) s c.envelope.message c.envelope.message.body)
        (λ s _. message_ties ms reign t.world i (u + pace.clock i) at (readings_of (t.world.store i)) s o.number c.envelope c.there)
        (λ here m. aside_row (member_of ms i here) (shared_entries (t.world.store i)) (u + pace.clock i) (readings_of (t.world.store i)) m.state m.several m.awake reign.epoch f c.envelope.message m.epoch (subst (λ (z : List Bool). has z f ≡ true) (sym m.quorum) qf) c.aside))
      where
        at : ltb i ms.count ≡ true
        at = inside ms q pace reign r t S i qi

        comes : option_map (brought (u + pace.clock i)) (message_at t.world.messages o.number)
            ≡ Some (record { rank = i; at = u + pace.clock i; input = input.Deliver c.envelope.message })
        comes = ap (option_map (brought (u + pace.clock i))) c.there
            ∙ (λ d. Some (record { rank = c.receiver d; at = u + pace.clock i; input = input.Deliver c.envelope.message }))

    down : (i : ℕ) → has q i ≡ true → (i ≡ reign.leader → ⊥) → (o : Owed) (others : List Owed) → t.under_way reign.leader i ≡ o ∷ others
        → Went ms q pace (at_time ms q pace u t) (Arrives (Deliver o.number (u + pace.clock i))) (without_first reign.leader i others t.under_way) next → Stays t.world u (Arrives (Deliver o.number (u + pace.clock i))) r next
    down i qi ni o others first went = by (S.peons i qi ni) (subst (Carries ms reign t.world.messages reign.leader i (t.time + pace.delay) (drop (S.peons i qi ni).heard (to_peon reign pace r))) first (S.peons i qi ni).to_come)
      where
        by : (F : PeonIn ms q pace reign r t i t.under_way) → Carries ms reign t.world.messages reign.leader i (t.time + pace.delay) (drop F.heard (to_peon reign pace r)) (o ∷ others) → Stays t.world u (Arrives (Deliver o.number (u + pace.clock i))) r next
        by F (le, inl k) = comes_aside reign.leader i S.leads qi o others (popped ms q pace reign r t S (without_first reign.leader i others t.under_way) (pop_down ms q pace reign r t q S.peons S.others i ni others F k.2)) k.0 went
        by F (le, inr k) = H.down i qi ni F o others k.0 k.1 k.2 k.3 k.4 went

    up : (f : ℕ) → has q f ≡ true → (f ≡ reign.leader → ⊥) → (o : Owed) (others : List Owed) → t.under_way f reign.leader ≡ o ∷ others
        → Went ms q pace (at_time ms q pace u t) (Arrives (Deliver o.number (u + pace.clock reign.leader))) (without_first f reign.leader others t.under_way) next → Stays t.world u (Arrives (Deliver o.number (u + pace.clock reign.leader))) r next
    up f qf nf o others first went = by (S.peons f qf nf) (subst (Carries ms reign t.world.messages f reign.leader (t.time + pace.delay) (drop (S.peons f qf nf).taken (take (said (S.peons f qf nf).heard) (to_leader reign pace r)))) first (S.peons f qf nf).to_take)
      where
        by : (F : PeonIn ms q pace reign r t f t.under_way) → Carries ms reign t.world.messages f reign.leader (t.time + pace.delay) (drop F.taken (take (said F.heard) (to_leader reign pace r))) (o ∷ others) → Stays t.world u (Arrives (Deliver o.number (u + pace.clock reign.leader))) r next
        by F (le, inl k) = comes_aside f reign.leader qf S.leads o others (popped ms q pace reign r t S (without_first f reign.leader others t.under_way) (pop_up ms q pace reign r t q S.peons S.others f nf others F k.2)) k.0 went
        by F (le, inr k) = H.up f qf nf F o others k.0 k.1 k.2 k.3 k.4 went

    apart : (f i : ℕ) → has q f ≡ true → has q i ≡ true → AreApart reign.leader f i → (o : Owed) (others : List Owed) → t.under_way f i ≡ o ∷ others
        → Went ms q pace (at_time ms q pace u t) (Arrives (Deliver o.number (u + pace.clock i))) (without_first f i others t.under_way) next → Stays t.world u (Arrives (Deliver o.number (u + pace.clock i))) r next
    apart f i qf qi a o others first went = by (subst (Carries ms reign t.world.messages f i (t.time + pace.delay) []) first (S.others f i qf qi a))
      where
        by : Carries ms reign t.world.messages f i (t.time + pace.delay) [] (o ∷ others) → Stays t.world u (Arrives (Deliver o.number (u + pace.clock i))) r next
        by (le, inl k) = comes_aside f i qf qi o others (popped ms q pace reign r t S (without_first f i others t.under_way) (pop_other ms q pace reign r t q S.peons S.others f i a others k.2)) k.0 went
        by (le, inr k) = absurd (no_item k.0 k.1 k.2)
          where
            no_item : (x : Item) (rest : List Item) → [] ≡ x ∷ rest → ⊥
            no_item x rest e = absurd cc

    arrives : (f i : ℕ) → has q f ≡ true → has q i ≡ true → (o : Owed) (others : List Owed) → t.under_way f i ≡ o ∷ others
        → Went ms q pace (at_time ms q pace u t) (Arrives (Deliver o.number (u + pace.clock i))) (without_first f i others t.under_way) next → Stays t.world u (Arrives (Deliver o.number (u + pace.clock i))) r next
    arrives f i qf qi o others first went = by (cases_eq f reign.leader) (cases_eq i reign.leader)
      where
        by : (f ≡ reign.leader) ⊎ (f ≡ reign.leader → ⊥) → (i ≡ reign.leader) ⊎ (i ≡ reign.leader → ⊥) → Stays t.world u (Arrives (Deliver o.number (u + pace.clock i))) r next
        by (inl a) (inl b) = apart f i qf qi ((λ _. b), (λ _. a)) o others first went
        by (inr a) (inr b) = apart f i qf qi ((λ z. absurd (a z)), (λ z. absurd (b z))) o others first went
        by (inl a) (inr b) = down i qi b o others (subst (λ (z : ℕ). t.under_way z i ≡ o ∷ others) a first)
            (subst (λ (z : ℕ). Went ms q pace (at_time ms q pace u t) (Arrives (Deliver o.number (u + pace.clock i))) (without_first z i others t.under_way) next) a went)
        by (inr a) (inl b) = subst (λ (z : ℕ). Stays t.world u (Arrives (Deliver o.number (u + pace.clock z))) r next) (sym b)
            (up f qf a o others (subst (λ (z : ℕ). t.under_way f z ≡ o ∷ others) b first)
            (subst (λ (z : ℕ). Went ms q pace (at_time ms q pace u t) (Arrives (Deliver o.number (u + pace.clock z))) (without_first f z others t.under_way) next) b went))

    -- the timer of commands that wait
    proposes : (i : ℕ) → has q i ≡ true → Went ms q pace (at_time ms q pace u t) (Arrives (Ring i timer.Propose (u + pace.clock i))) t.under_way next → Stays t.world u (Arrives (Ring i timer.Propose (u + pace.clock i))) r next
    proposes i qi went = resolved t.under_way S _ went
        (turns ms q pace reign r t S u M.later soon quick room next (Ring i timer.Propose (u + pace.clock i)) went i qi (input.Timer timer.Propose) refl (λ s. refl) NobodyAsks (λ s. BringsNone)
        (λ s _. timer_ties ms reign t.world i (u + pace.clock i) (inside ms q pace reign r t S i qi) (readings_of (t.world.store i)) s timer.Propose)
        (λ here m. propose_row (member_of ms i here) (shared_entries (t.world.store i)) (u + pace.clock i) (readings_of (t.world.store i)) m.state m.several m.awake))

    fires : (i : ℕ) → has q i ≡ true → (s : State) → t.world.state i ≡ Some s → (kind : Timer) (end : ℕ) → end_of kind s.timers ≡ Some end → end ≤ u + pace.clock i
        → Went ms q pace (at_time ms q pace u t) (Arrives (Ring i kind (u + pace.clock i))) t.under_way next → Stays t.world u (Arrives (Ring i kind (u + pace.clock i))) r next
    fires i qi s is kind end set due went = by (same_kind_or kind timer.Propose) (cases_eq i reign.leader)
      where
        by : (kind ≡ timer.Propose) ⊎ (index_of kind ≡ index_of timer.Propose → ⊥) → (i ≡ reign.leader) ⊎ (i ≡ reign.leader → ⊥) → Stays t.world u (Arrives (Ring i kind (u + pace.clock i))) r next
        by (inl same) k = subst (λ (z : Timer). Stays t.world u (Arrives (Ring i z (u + pace.clock i))) r next) (sym same)
            (proposes i qi (subst (λ (z : Timer). Went ms q pace (at_time ms q pace u t) (Arrives (Ring i z (u + pace.clock i))) t.under_way next) same went))
        by (inr ne) (inl e) = subst (λ (z : ℕ). Stays t.world u (Arrives (Ring z kind (u + pace.clock z))) r next) (sym e)
            (H.timer s (subst (λ (z : ℕ). t.world.state z ≡ Some s) e is) kind end (λ z. ne (ap index_of z)) set (subst (λ (z : ℕ). end ≤ u + pace.clock z) e due)
            (subst (λ (z : ℕ). Went ms q pace (at_time ms q pace u t) (Arrives (Ring z kind (u + pace.clock z))) t.under_way next) e went))
        by (inr ne) (inr nl) =
            let F = S.peons i qi nl in
            let G : FollowsSince reign.leader q (leased r F.heard + pace.clock i) s = subst (λ (o : Option State). IsSomeAnd o (FollowsSince reign.leader q (leased r F.heard + pace.clock i))) is F.follows in
            elim (G.only kind end set) [
              | inl z ↦ (let a = G.waits end (subst (λ (y : Timer). end_of y s.timers ≡ Some end) z set) in let b = waits ms q pace reign r t S K u M i qi F in absurd (omega arith))
              | inr z ↦ absurd (ne (ap index_of z))
            ]

    asks : (i : ℕ) → has q i ≡ true → (session : Session) (request : Request) → Went ms q pace (at_time ms q pace u t) (Arrives (Client i (u + pace.clock i) session request)) t.under_way next → Stays t.world u (Arrives (Client i (u + pace.clock i) session request)) r next
    asks i qi session request went = resolved t.under_way S _ went
        (turns ms q pace reign r t S u M.later soon quick room next (Client i (u + pace.clock i) session request) went i qi (input.Client session request) refl (λ s. refl) (AsksAs session request) (λ s. BringsNone)
        (λ s _. client_ties ms reign t.world i (u + pace.clock i) (inside ms q pace reign r t S i qi) (readings_of (t.world.store i)) s session request)
        (λ here m. client_row (member_of ms i here) (shared_entries (t.world.store i)) (u + pace.clock i) (readings_of (t.world.store i)) m.state m.several m.awake session request))

    pub handled : (e : Event) → Comes ms q pace tu next e → Stays t.world u e r next
    handled e (Arriving f i qf qi o others first is went) = subst (λ (z : Event). Stays t.world u z r next) (sym is) (arrives f i qf qi o others first (subst (λ (z : Event). Went ms q pace tu z (without_first f i others t.under_way) next) is went))
    handled e (Again f i qf qi n calls is went) = absurd (no_call ms q pace reign r t S n f i qf calls)
    handled e (Firing i qi s is kind end set due event went) = subst (λ (z : Event). Stays t.world u z r next) (sym event) (fires i qi s is kind end set due (subst (λ (z : Event). Went ms q pace tu z t.under_way next) event went))
    handled e (Asking i qi session request is went) = subst (λ (z : Event). Stays t.world u z r next) (sym is) (asks i qi session request (subst (λ (z : Event). Went ms q pace tu z t.under_way next) is went))
