-- An event at a member of a quorum that lost a peon changes nothing but what is remembered of clients.
use Rattle.law_names.proofs.Runs.{Arrives, Envelope, Event, Monitors, Plain, arrival, messages_of, state_at}
use Rattle.law_names.proofs.Table.{AllByRecursion, Body, Change, Clients, Course, Input, Origin, Phase, Readings, Reply, Session, State, Waiting, epoch_of, has, index_of, is_alone, quorum_of, react, readings_of, same_phase, shared_entries}
use Rattle.log_model.proofs.Lists.{all_map}
use Rattle.mon_wire.specs.declared.body.Body.TheVariants as body
use Rattle.mon_wire.specs.declared.phase.Phase.TheVariants as phase
use Rattle.mon_wire.specs.declared.phase.Timer.TheVariants as timer
use Rattle.quorum_model.proofs.Members.{member_of}
use Rattle.quorum_stays.proofs.Carrying.{gives_none}
use Rattle.quorum_stays.proofs.Onward.{one_state, unpack}
use Rattle.quorum_stays.proofs.Outcomes.{Answered, AtOnce, Fate, Kept, Lapsed, Next, Outcome, Queued, Refused, Start, messages_for_clients}
use Rattle.quorum_stays.proofs.Quiets.{quiet_peon}
use Rattle.quorum_stays.proofs.Sending.{not_alone}
use Rattle.quorum_stays.proofs.Stepping.{Did, did, reacted, reacts}
use Rattle.quorum_stays.proofs.Taking.{taken_from}
use Rattle.quorum_stays.proofs.Timers.{Tidy, same_kind_or}
use Rattle.quorum_stays.proofs.Turning.{every_store, on_state, same_carried}
use Rattle.quorum_stays.proofs.Turns.{hands_on_none}
use Rattle.quorum_stays.specs.Serving.{IsForward}
use Rattle.quorum_stays.specs.Steady.{FollowsSince, IsOfClients, Reign, Round, leased}
use Rattle.quorum_timed.proofs.Armed.{Timers}
use Rattle.quorum_timed.specs.Calls.{Calls, IsCall}
use Rattle.quorum_timed.specs.Timed.{Pace, Timed, Went, at_time}
use Rattle.quorum_walk.proofs.Walk.{Then}
use Rattle.std.proofs.Common.{Bool, List, None, Ok, Option, Some, [], ap, arith, false, inl, inr, ltb, refl, subst, sym, true, ℕ, ◌+◌, ◌∙◌, ◌∷◌, ◌≡◌, ◌≤◌, ◌⊎◌}
use Rattle.std.proofs.lemmas.Bool.{cases_eq, false≢true}
use Rattle.timed_failover.proofs.Waning.{RenewsSince, Waning, calm}
use Rattle.timed_failover.proofs.WaningFrame.{Renewer, calm_now, calm_on, wanes_on, went_full}
use Rattle.timed_failover.proofs.WaningTimes.{inside, leading}

-- clients' commands are remembered and answered, and none waits
pub quiet_renews : (reign : Reign) (full : List Bool) (at least : ℕ) (s : State) → RenewsSince reign full at least s → (clients : Clients) (ts : Timers) → clients.queue ≡ [] → Tidy s.timers ts → RenewsSince reign full at least (record s { clients = clients; timers = ts })
quiet_renews reign full at least s F clients ts empty T = record {
  leads = F.leads;
  quorum = F.quorum;
  number = F.number;
  queue = empty;
  ranks = F.ranks;
  kinds = T.size ∙ F.kinds;
  renews = T.same timer.Renew (λ e. (let z : index_of timer.Renew ≡ index_of timer.Propose = ap index_of e in omega arith)) ∙ F.renews;
  awaits = λ end e. F.awaits end (sym (T.same timer.LeaseAck (λ e. (let z : index_of timer.LeaseAck ≡ index_of timer.Propose = ap index_of e in omega arith))) ∙ e);
  only = λ kind end e. elim (same_kind_or kind timer.Propose) [
    | inl same ↦ inr (inr same)
    | inr ne ↦ F.only kind end (sym (T.same kind (λ z. ne (ap index_of z))) ∙ e)
  ];
}

-- a message about a client's command calls no election
calls_none : (b : Body) → IsOfClients b → IsCall b → ⊥
calls_none (body.Propose table) k c = k
calls_none other k c = c

module _ (ms : Monitors) (full q : List Bool) (pace : Pace) (reign : Reign) (r : Round) where
  -- ---- what is known

  module _ (t : Timed) (S : Waning ms full q pace reign r t) where
    -- a member, which is up and takes no part in an election
    pub record Member (i : ℕ) (here : ltb i ms.count ≡ true) : Type 0 where
      pub state : State
      pub up : t.world.state i ≡ Some state
      pub awake : same_phase state.phase phase.Booting ≡ false
      pub settled : same_phase state.phase phase.Electing ≡ false
      pub several : same_phase state.phase phase.Active ≡ true → is_alone (member_of ms i here) state.leader.quorum ≡ false
      pub peon : (i ≡ reign.leader → ⊥) → same_phase state.phase phase.Active ≡ false
      pub empty : i ≡ reign.leader → state.clients.queue ≡ []
      pub quorum : quorum_of state ≡ full
      pub epoch : epoch_of (readings_of (t.world.store i)) ≡ reign.epoch

    pub member : (i : ℕ) → has q i ≡ true → (here : ltb i ms.count ≡ true) → Member i here
    member i qi here = by (cases_eq i reign.leader)
      where
        by : (i ≡ reign.leader) ⊎ (i ≡ reign.leader → ⊥) → Member i here
        by (inr ne) =
            let F = S.peons i qi ne in
            let l = unpack (FollowsSince reign.leader full (leased (calm r) F.heard + pace.clock i)) (t.world.state i) F.follows in
            let p = l.2.follows in
            let idle : same_phase l.0.phase phase.Active ≡ false = rw p refl in
            record {
              state = l.0;
              up = l.1;
              awake = rw p refl;
              settled = rw p refl;
              several = λ e. absurd (false≢true (sym idle ∙ e));
              peon = λ _. idle;
              empty = λ e. absurd (ne e);
              quorum = rw p l.2.quorum;
              epoch = F.epoch;
            }
        by (inl e) =
            let l = leading ms full q pace reign r t S in
            let p = l.2.leads in
            let g = l.2.quorum in record {
              state = l.0;
              up = subst (λ (z : ℕ). t.world.state z ≡ Some l.0) (sym e) l.1;
              awake = rw p refl;
              settled = rw p refl;
              several = λ _. rw g (not_alone (member_of ms i here) full S.second S.second_in (λ z. S.second_is (z ∙ e)) (S.members S.second S.second_in));
              peon = λ ne. absurd (ne e);
              empty = λ _. l.2.queue;
              quorum = rw p g;
              epoch = subst (λ (z : ℕ). epoch_of (readings_of (t.world.store z)) ≡ reign.epoch) (sym e) S.epoch;
            }

    pub no_call : (k f i : ℕ) → has q f ≡ true → Calls t.world k f i → ⊥
    no_call k f i qf C =
        let C2 = C.still in
        let m = member f qf (inside ms full q pace reign r t S f qf) in
        let same : m.state ≡ C2.state = one_state (t.world.state f) m.state C2.state m.up C2.up in
        false≢true (sym m.settled ∙ ap (λ (z : State). same_phase z.phase phase.Electing) same ∙ ap (λ (z : Phase). same_phase z phase.Electing) C2.elects)

    -- ---- clients' commands are remembered and answered

    module _ (next : Timed) (u : ℕ) (later : t.time ≤ u) (e : Event) (went : Went ms q pace (at_time ms q pace u t) e t.under_way next)
        (i : ℕ) (s : State) (clients : Clients) (ts : Timers) (T : Tidy s.timers ts) (empty : i ≡ reign.leader → clients.queue ≡ []) (es : List Envelope) (up : t.world.state i ≡ Some s)
        (D : Did t.world next.world i (record s { clients = clients; timers = ts }) [] es) (about : AllByRecursion (λ (m : Envelope). IsOfClients m.message.body) es) (plain : AllByRecursion (λ (m : Envelope). IsForward m.message.body → ⊥) es) where
      abbrev after : State
      after = record s { clients = clients; timers = ts }

      went_on : Went ms full pace (at_time ms full pace u t) e t.under_way next
      went_on = went_full ms full q pace reign r t S next u later e t.under_way went es

      store : (P : Readings → Type 0) (j : ℕ) → P (readings_of (t.world.store j)) → P (readings_of (next.world.store j))
      store P j k = every_store ms full pace reign t next u later e t.under_way went_on i s after [] es up D refl P j k

      pub stays_quiet : Waning ms full q pace reign r next
      stays_quiet = wanes_on ms full q pace reign r t S next (let c = went.time in omega arith) (store (λ w. epoch_of w ≡ reign.epoch) reign.leader S.epoch) (store (λ w. w.last ≡ r.version) reign.leader S.last)
          (on_state ms full pace reign t next u later e t.under_way went_on i s after [] es up D (Renewer ms full q pace reign r) (Renewer ms full q pace reign r) reign.leader
          (λ same F. quiet_renews reign full _ _ s F clients ts (empty (sym same)) T) (λ _ _ F. F) S.lead) (
            (λ j qj nj. quiet_peon ms full pace reign (calm r) t next u later e went_on i s clients ts T es up D about j (S.peons j qj nj)),
            (λ f j qf qj apart. same_carried ms full pace reign t next u later e t.under_way went_on i s after [] es up D f j [] (S.others f j qf qj apart) (gives_none ms reign f j es about)),
          )
          (calm_on ms full q pace reign r t S next u later e t.under_way went es D.messages (calm_now ms full q pace reign r t S) (plain, all_map _ _ (λ (m : Envelope) k. calls_none m.message.body k) es about))

    -- ---- an event that begins nothing

    module _ (u : ℕ) (later : t.time ≤ u) (next : Timed) (p : Plain) (went : Went ms q pace (at_time ms q pace u t) (Arrives p) t.under_way next) (i : ℕ) (qi : has q i ≡ true) (came : Input)
        (comes : arrival t.world p ≡ Some (record { rank = i; at = u + pace.clock i; input = came })) (plain : (s : State) → state_at i (Some s) came ≡ Some s)
        (Asks : Session → Type 0) (Brings : State → ℕ → Reply → Type 0) (silent : (z : Session) → Asks z → ⊥)
        (nil : (s : State) → i ≡ reign.leader → taken_from (member_of ms i (inside ms full q pace reign r t S i qi)) (readings_of (t.world.store i)) s came ≡ None)
        (row : (m : Member i (inside ms full q pace reign r t S i qi)) → Then (Outcome (member_of ms i (inside ms full q pace reign r t S i qi)) (shared_entries (t.world.store i)) (u + pace.clock i) (readings_of (t.world.store i)) m.state
        (taken_from (member_of ms i (inside ms full q pace reign r t S i qi)) (readings_of (t.world.store i)) m.state came) Asks (Brings m.state))
        (react (member_of ms i (inside ms full q pace reign r t S i qi)) (shared_entries (t.world.store i)) (u + pace.clock i) (readings_of (t.world.store i)) m.state came)) where
      abbrev here : ltb i ms.count ≡ true
      here = inside ms full q pace reign r t S i qi

      m : Member i (inside ms full q pace reign r t S i qi)
      m = member i qi (inside ms full q pace reign r t S i qi)

      abbrev s : State
      s = m.state

      state_is : state_at i (t.world.state i) came ≡ Some m.state
      state_is = ap (λ (z : Option State). state_at i z came) m.up ∙ plain m.state

      Y : (y : Course) × (reacted ms t.world next.world p i (inside ms full q pace reign r t S i qi) (u + pace.clock i) came m.state comes state_is went.happened ≡ Ok y)
      Y = reacts ms t.world next.world p i (inside ms full q pace reign r t S i qi) (u + pace.clock i) came m.state comes state_is went.happened

      D : Did t.world next.world i Y.0.state Y.0.changes (messages_of Y.0.out)
      D = did ms t.world next.world p i (inside ms full q pace reign r t S i qi) (u + pace.clock i) came m.state comes state_is went.happened Y.0 Y.1

      abbrev taken : Option Origin
      taken = taken_from (member_of ms i (inside ms full q pace reign r t S i qi)) (readings_of (t.world.store i)) m.state came

      abbrev Out : Course → Type 0
      Out y = Outcome (member_of ms i (inside ms full q pace reign r t S i qi)) (shared_entries (t.world.store i)) (u + pace.clock i) (readings_of (t.world.store i)) m.state taken Asks (Brings m.state) y

      outcome : Out Y.0
      outcome = let z = subst (Then Out) Y.1 (row m) in z.holds

      -- nothing waits at the leader, and it takes nothing
      wrong : {B : Type 0} (o : Origin) → i ≡ reign.leader → taken ≡ Some o → B
      wrong o e took = let two : None ≡ Some o = sym (nil m.state e) ∙ took in absurd cc

      gone : {B : Type 0} (one : Waiting) (more : List Waiting) → i ≡ reign.leader → m.state.clients.queue ≡ one ∷ more → B
      gone one more e is = let two : [] ≡ one ∷ more = sym (m.empty e) ∙ is in absurd cc

      still_empty : (clients : Clients) (timers : Timers) → Fate (member_of ms i here) (shared_entries (t.world.store i)) (u + pace.clock i) (readings_of (t.world.store i)) m.state taken clients timers Y.0.out → i ≡ reign.leader → clients.queue ≡ []
      still_empty clients timers (Kept none queue same) e = queue ∙ m.empty e
      still_empty clients timers (Lapsed none queue lapsed) e = queue ∙ m.empty e
      still_empty clients timers (Answered o x took k is queue same) e = wrong o e took
      still_empty clients timers (Queued one took queue few waits same) e = wrong one.origin e took
      still_empty clients timers (Refused one x none queue k is active armed) e = gone one clients.queue e queue

      begins_nothing : (from : Origin) (clients : Clients) → Start (member_of ms i here) (shared_entries (t.world.store i)) (u + pace.clock i) (readings_of (t.world.store i)) m.state taken from clients → i ≡ reign.leader → ⊥
      begins_nothing from clients (AtOnce took old new) e = wrong from e took
      begins_nothing from clients (Next one none queue whose) e = gone one clients.queue e queue

      pub quiet : Waning ms full q pace reign r next
      quiet = by outcome
        where
          by : Out Y.0 → Waning ms full q pace reign r next
          by (inl Q) =
              let E : Did t.world next.world i (record (m.state) { clients = Q.clients; timers = Q.timers }) [] (messages_of Y.0.out) =
              subst (λ (cs : List Change). Did t.world next.world i (record (m.state) { clients = Q.clients; timers = Q.timers }) cs (messages_of Y.0.out)) Q.unwritten
              (subst (λ (z : State). Did t.world next.world i z Y.0.changes (messages_of Y.0.out)) Q.state D) in
              let none : AllByRecursion (λ (m : Envelope). IsForward m.message.body → ⊥) (messages_of Y.0.out) =
              elim (hands_on_none (member_of ms i here) (shared_entries (t.world.store i)) (u + pace.clock i) (readings_of (t.world.store i)) m.state Asks (Brings m.state) ⊥ Q.clients Y.0.out silent Q.hand) [ inl all ↦ all | inr none ↦ absurd none ] in
              stays_quiet next u later (Arrives p) went i m.state Q.clients Q.timers Q.tidy (still_empty Q.clients Q.timers Q.fate) (messages_of Y.0.out) m.up E (messages_for_clients Y.0.out Q.about) none
          by (inr B) = elim (cases_eq i reign.leader) [
            | inl e ↦ absurd (begins_nothing B.from B.clients B.start e)
            | inr ne ↦ absurd (false≢true (sym (m.peon ne) ∙ B.active))
          ]
