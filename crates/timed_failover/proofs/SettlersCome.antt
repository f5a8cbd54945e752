-- What arrives at a quorum whose leader proposes the value that it found, until it is committed.
use Rattle.law_names.proofs.Runs.{Arrives, Client, Deliver, Event, Monitors, Plain, Ring, arrival, message_at, messages_of, state_at}
use Rattle.law_names.proofs.Table.{Change, Course, Input, Origin, Readings, Reply, Request, Session, State, Timer, are_within, end_of, has, index_of, is_alone, react, readings_of, same_phase, shared_entries, with_rank}
use Rattle.mon_msg.specs.declared.input.Input.TheVariants as input
use Rattle.mon_wire.specs.declared.phase.Phase.TheVariants as phase
use Rattle.mon_wire.specs.declared.phase.Timer.TheVariants as timer
use Rattle.quorum_model.proofs.Members.{member_of}
use Rattle.quorum_stays.proofs.Onward.{here_left, list_left, other_left}
use Rattle.quorum_stays.proofs.Outcomes.{AsksAs, BringsNone, BringsRoute, NobodyAsks, Outcome, aside_row, client_row, messages_for_clients, propose_row}
use Rattle.quorum_stays.proofs.Staying.{goes_on, time_of_next}
use Rattle.quorum_stays.proofs.Stepping.{Did, brought, did, reacted, reacts}
use Rattle.quorum_stays.proofs.SteppingDown.{here}
use Rattle.quorum_stays.proofs.Taking.{taken_from}
use Rattle.quorum_stays.proofs.Timers.{same_kind_or}
use Rattle.quorum_stays.specs.Reading.{ClocksGoOn}
use Rattle.quorum_stays.specs.Steady.{AreApart, Carries, FollowsSince, IsAside, IsItem, Item, Reign, Round, Steady}
use Rattle.quorum_timed.specs.Begins.{IsQuick}
use Rattle.quorum_timed.specs.Timed.{Again, Arriving, Asking, Comes, Firing, Leads, MayBe, Owed, Pace, Timed, Went, at_time, without_first}
use Rattle.quorum_walk.proofs.Walk.{Then}
use Rattle.std.proofs.Common.{Bool, IsSomeAnd, List, None, Ok, Option, Some, [], ap, arith, false, inl, inr, option_map, refl, subst, suc, sym, true, ℕ, ◌*◌, ◌+◌, ◌<◌, ◌∙◌, ◌∷◌, ◌≡◌, ◌≤◌, ◌⊎◌}
use Rattle.std.proofs.lemmas.Bool.{cases_eq, false≢true}
use Rattle.timed_failover.proofs.Settlers as settlers
use Rattle.timed_failover.proofs.Settlers.{Member, PeerAt, Proposer, inside, leading, member, no_call, over, stays_quiet}
use Rattle.timed_failover.proofs.SettlersCount.{counts, settles}
use Rattle.timed_failover.proofs.SettlersHear.{hears}
use Rattle.timed_failover.specs.Settling.{Accepted, Behind, Counted, IsSettledBy, Level, Progress, Settles, Settling, accept_item, from_such, to_such}

module _ (ms : Monitors) (q : List Bool) (pace : Pace) (quick : IsQuick pace) (short : 4 * pace.delay ≤ 3000) (reign : Reign) (x : Settling) where
  -- the round that begins when the value is committed
  abbrev pub first_round : (at : ℕ) → Round
  first_round at = record { version = suc x.version; value = x.found.value; committed = at; latest = at; before = x.won; next = None }

  -- the value isn't committed yet, or is now
  abbrev pub After : (u : ℕ) → Timed → Type 0
  After u next = Settles ms q pace reign x next ⊎ Steady ms q pace reign (first_round u) next

  -- ---- a message is gone that is of no round

  module _ (t : Timed) (S : Settles ms q pace reign x t) (f i : ℕ) (others : List Owed) where
    abbrev left : ℕ → ℕ → List Owed
    left = without_first f i others t.under_way

    abbrev Down : ℕ → Progress → List Owed → Type 0
    Down j p os = Carries ms reign t.world.messages reign.leader j (t.time + pace.delay) (to_such reign pace x p) os

    abbrev Up : ℕ → Progress → List Owed → Type 0
    Up j p os = Carries ms reign t.world.messages j reign.leader (t.time + pace.delay) (from_such reign pace x p) os

    popped : ((j : ℕ) → has q j ≡ true → (j ≡ reign.leader → ⊥) → PeerAt ms q pace reign x t j left)
        → ((g j : ℕ) → has q g ≡ true → has q j ≡ true → AreApart reign.leader g j → Carries ms reign t.world.messages g j (t.time + pace.delay) [] (left g j)) → Settles ms q pace reign x (record t { under_way = left })
    popped peons others = settlers.goes_on ms q pace reign x t S (record t { under_way = left }) (omega arith) S.epoch S.last S.lead peons others

    with_lists : (j : ℕ) (F : PeerAt ms q pace reign x t j t.under_way) → Down j F.progress (left reign.leader j) → Up j F.progress (left j reign.leader) → PeerAt ms q pace reign x t j left
    with_lists j F down up = record {
      progress = F.progress;
      follows = F.follows;
      epoch = F.epoch;
      promise = F.promise;
      keeps = F.keeps;
      noted = F.noted;
      to_come = down;
      to_take = up;
    }

    -- the others have the same lists
    same_lists : (j : ℕ) (F : PeerAt ms q pace reign x t j t.under_way) → left reign.leader j ≡ t.under_way reign.leader j → left j reign.leader ≡ t.under_way j reign.leader → PeerAt ms q pace reign x t j left
    same_lists j F down up = with_lists j F (subst (Down j F.progress) (sym down) F.to_come) (subst (Up j F.progress) (sym up) F.to_take)

    one_peer : (k : ℕ) → PeerAt ms q pace reign x t k left → ((j : ℕ) → (j ≡ reign.leader → ⊥) → (j ≡ k → ⊥) → (left reign.leader j ≡ t.under_way reign.leader j) × (left j reign.leader ≡ t.under_way j reign.leader))
        → (j : ℕ) → has q j ≡ true → (j ≡ reign.leader → ⊥) → PeerAt ms q pace reign x t j left
    one_peer k G same j qj nj = elim (cases_eq j k) [
      | inl e ↦ subst (λ (z : ℕ). PeerAt ms q pace reign x t z left) (sym e) G
      | inr ne ↦ (let l = same j nj ne in same_lists j (S.peons j qj nj) l.0 l.1)
    ]

  module _ (t : Timed) (S : Settles ms q pace reign x t) where
    pop_down : (i : ℕ) (ni : i ≡ reign.leader → ⊥) (F : PeerAt ms q pace reign x t i t.under_way) (others : List Owed) → Down t S reign.leader i others i F.progress others
        → Settles ms q pace reign x (record t { under_way = without_first reign.leader i others t.under_way })
    pop_down i ni F others C = popped t S reign.leader i others
        (one_peer t S reign.leader i others i
        (with_lists t S reign.leader i others i F (subst (Down t S reign.leader i others i F.progress) (sym (here_left reign.leader i others t.under_way)) C)
        (subst (Up t S reign.leader i others i F.progress) (sym (other_left reign.leader i others t.under_way i reign.leader (λ a _. ni a))) F.to_take))
        (λ j nj ne. (other_left reign.leader i others t.under_way reign.leader j (λ _ b. ne b), other_left reign.leader i others t.under_way j reign.leader (λ a _. nj a))))
        (λ g j qg qj a. subst (Carries ms reign t.world.messages g j (t.time + pace.delay) []) (sym (other_left reign.leader i others t.under_way g j (λ y z. ni (sym z ∙ a.0 y)))) (S.others g j qg qj a))

    pop_up : (f : ℕ) (nf : f ≡ reign.leader → ⊥) (F : PeerAt ms q pace reign x t f t.under_way) (others : List Owed) → Up t S f reign.leader others f F.progress others
        → Settles ms q pace reign x (record t { under_way = without_first f reign.leader others t.under_way })
    pop_up f nf F others C = popped t S f reign.leader others
        (one_peer t S f reign.leader others f
        (with_lists t S f reign.leader others f F (subst (Down t S f reign.leader others f F.progress) (sym (other_left f reign.leader others t.under_way reign.leader f (λ _ b. nf b))) F.to_come)
        (subst (Up t S f reign.leader others f F.progress) (sym (here_left f reign.leader others t.under_way)) C))
        (λ j nj ne. (other_left f reign.leader others t.under_way reign.leader j (λ _ b. nj b), other_left f reign.leader others t.under_way j reign.leader (λ a _. ne a))))
        (λ g j qg qj a. subst (Carries ms reign t.world.messages g j (t.time + pace.delay) []) (sym (other_left f reign.leader others t.under_way g j (λ y z. nf (sym y ∙ a.1 z)))) (S.others g j qg qj a))

    pop_other : (f i : ℕ) → AreApart reign.leader f i → (others : List Owed) → Carries ms reign t.world.messages f i (t.time + pace.delay) [] others
        → Settles ms q pace reign x (record t { under_way = without_first f i others t.under_way })
    pop_other f i apart others C = popped t S f i others
        (λ j qj nj. same_lists t S f i others j (S.peons j qj nj) (other_left f i others t.under_way reign.leader j (λ a b. nj (b ∙ apart.0 (sym a)))) (other_left f i others t.under_way j reign.leader (λ a b. nj (a ∙ apart.1 (sym b)))))
        (λ g j qg qj a. list_left f i others t.under_way (λ g j os. Carries ms reign t.world.messages g j (t.time + pace.delay) [] os) g j C (S.others g j qg qj a))

  -- ---- an event that changes nothing but what is remembered of clients

  module _ (t : Timed) (S : Settles ms q pace reign x t) (u : ℕ) (later : t.time ≤ u) (next : Timed) (p : Plain) (went : Went ms q pace (at_time ms q pace u t) (Arrives p) t.under_way next)
      (i : ℕ) (qi : has q i ≡ true) (came : Input) (comes : arrival t.world p ≡ Some (record { rank = i; at = u + pace.clock i; input = came })) (plain : (s : State) → state_at i (Some s) came ≡ Some s)
      (taken : Readings → State → Option Origin) (Asks : Session → Type 0) (Brings : State → ℕ → Reply → Type 0)
      (row : (several : same_phase (member ms q pace reign x t S i qi).state.phase phase.Active ≡ true → is_alone (member_of ms i (inside ms q pace reign x t S i qi)) (member ms q pace reign x t S i qi).state.leader.quorum ≡ false)
      → Then (Outcome (member_of ms i (inside ms q pace reign x t S i qi)) (shared_entries (t.world.store i)) (u + pace.clock i) (readings_of (t.world.store i)) (member ms q pace reign x t S i qi).state
      (taken (readings_of (t.world.store i)) (member ms q pace reign x t S i qi).state) Asks (Brings (member ms q pace reign x t S i qi).state))
      (react (member_of ms i (inside ms q pace reign x t S i qi)) (shared_entries (t.world.store i)) (u + pace.clock i) (readings_of (t.world.store i)) (member ms q pace reign x t S i qi).state came)) where
    m : Member ms q pace reign x t S i
    m = member ms q pace reign x t S i qi

    state_is : state_at i (t.world.state i) came ≡ Some (member ms q pace reign x t S i qi).state
    state_is = ap (λ (z : Option State). state_at i z came) (member ms q pace reign x t S i qi).up ∙ plain (member ms q pace reign x t S i qi).state

    Y : (y : Course) × (reacted ms t.world next.world p i (inside ms q pace reign x t S i qi) (u + pace.clock i) came (member ms q pace reign x t S i qi).state comes state_is went.happened ≡ Ok y)
    Y = reacts ms t.world next.world p i (inside ms q pace reign x t S i qi) (u + pace.clock i) came (member ms q pace reign x t S i qi).state comes state_is went.happened

    D : Did t.world next.world i Y.0.state Y.0.changes (messages_of Y.0.out)
    D = did ms t.world next.world p i (inside ms q pace reign x t S i qi) (u + pace.clock i) came (member ms q pace reign x t S i qi).state comes state_is went.happened Y.0 Y.1

    abbrev s : State
    s = (member ms q pace reign x t S i qi).state

    abbrev Out : Course → Type 0
    Out y = Outcome (member_of ms i (inside ms q pace reign x t S i qi)) (shared_entries (t.world.store i)) (u + pace.clock i) (readings_of (t.world.store i)) s (taken (readings_of (t.world.store i)) s) Asks (Brings s) y

    outcome : Out Y.0
    outcome = let z = subst (Then Out) Y.1 (row (λ e. absurd (false≢true (sym (member ms q pace reign x t S i qi).idle ∙ e)))) in z.holds

    pub quiet : Settles ms q pace reign x next
    quiet = by outcome
      where
        by : Out Y.0 → Settles ms q pace reign x next
        by (inl Q) =
            let E : Did t.world next.world i (record s { clients = Q.clients; timers = Q.timers }) [] (messages_of Y.0.out) =
            subst (λ (cs : List Change). Did t.world next.world i (record s { clients = Q.clients; timers = Q.timers }) cs (messages_of Y.0.out)) Q.unwritten
            (subst (λ (z : State). Did t.world next.world i z Y.0.changes (messages_of Y.0.out)) Q.state D) in
            stays_quiet ms q pace reign x t S next u later (Arrives p) went i s Q.clients Q.timers Q.tidy (messages_of Y.0.out) (member ms q pace reign x t S i qi).up E (messages_for_clients Y.0.out Q.about)
        by (inr B) = absurd (false≢true (sym (member ms q pace reign x t S i qi).idle ∙ B.active))

  -- ---- each event

  module _ (t : Timed) (S : Settles ms q pace reign x t) (u : ℕ) (M : MayBe ms q pace t u) (room : ClocksGoOn q pace u) (next : Timed) where
    moved : (left : ℕ → ℕ → List Owed) (e : Event) → Went ms q pace (at_time ms q pace u t) e left next → Went ms q pace (at_time ms q pace u (record t { under_way = left })) e left next
    moved left e went = record { happened = went.happened; time = went.time; sent = went.sent; calls = went.calls }

    -- a message of no round
    comes_aside : (f i : ℕ) (qf : has q f ≡ true) (qi : has q i ≡ true) (o : Owed) (others : List Owed) (T : Settles ms q pace reign x (record t { under_way = without_first f i others t.under_way })) (c : IsAside reign.epoch t.world.messages f i o)
        → Went ms q pace (at_time ms q pace u t) (Arrives (Deliver o.number (u + pace.clock i))) (without_first f i others t.under_way) next → After u next
    comes_aside f i qf qi o others T c went =
        let z = record t { under_way = without_first f i others t.under_way } in
        let m = member ms q pace reign x z T i qi in
        inl (quiet z T u M.later next (Deliver o.number (u + pace.clock i)) (moved (without_first f i others t.under_way) (Arrives (Deliver o.number (u + pace.clock i))) went) i qi (input.Deliver c.envelope.message) comes (λ s. refl)
        (λ w s. taken_from (member_of ms i (inside ms q pace reign x z T i qi)) w s (input.Deliver c.envelope.message)) NobodyAsks (λ s. BringsRoute (member_of ms i (inside ms q pace reign x z T i qi)) (readings_of (t.world.store i)) s c.envelope.message c.envelope.message.body)
        (λ several. aside_row (member_of ms i (inside ms q pace reign x z T i qi)) (shared_entries (t.world.store i)) (u + pace.clock i) (readings_of (t.world.store i)) m.state several m.awake reign.epoch f c.envelope.message m.epoch
        (subst (λ (a : List Bool). has a f ≡ true) (sym m.quorum) qf) c.aside))
      where
        comes : option_map (brought (u + pace.clock i)) (message_at t.world.messages o.number) ≡ Some (record { rank = i; at = u + pace.clock i; input = input.Deliver c.envelope.message })
        comes = ap (option_map (brought (u + pace.clock i))) c.there ∙ (λ d. Some (record { rank = c.receiver d; at = u + pace.clock i; input = input.Deliver c.envelope.message }))

    down : (i : ℕ) → has q i ≡ true → (i ≡ reign.leader → ⊥) → (o : Owed) (others : List Owed) → t.under_way reign.leader i ≡ o ∷ others
        → Went ms q pace (at_time ms q pace u t) (Arrives (Deliver o.number (u + pace.clock i))) (without_first reign.leader i others t.under_way) next → After u next
    down i qi ni o others first went = by (S.peons i qi ni) (subst (Carries ms reign t.world.messages reign.leader i (t.time + pace.delay) (to_such reign pace x (S.peons i qi ni).progress)) first (S.peons i qi ni).to_come)
      where
        by : (F : PeerAt ms q pace reign x t i t.under_way) → Carries ms reign t.world.messages reign.leader i (t.time + pace.delay) (to_such reign pace x F.progress) (o ∷ others) → After u next
        by F (le, inl k) = comes_aside reign.leader i S.leads qi o others (pop_down t S i ni F others k.2) k.0 went
        by F (le, inr k) = inl (hears ms q pace reign x t S u M next i qi ni F o others went k.0 k.1 k.2 k.3 k.4 first)

    up : (f : ℕ) → has q f ≡ true → (f ≡ reign.leader → ⊥) → (o : Owed) (others : List Owed) → t.under_way f reign.leader ≡ o ∷ others
        → Went ms q pace (at_time ms q pace u t) (Arrives (Deliver o.number (u + pace.clock reign.leader))) (without_first f reign.leader others t.under_way) next → After u next
    up f qf nf o others first went = by (S.peons f qf nf) (subst (Carries ms reign t.world.messages f reign.leader (t.time + pace.delay) (from_such reign pace x (S.peons f qf nf).progress)) first (S.peons f qf nf).to_take)
      where
        -- which answer it is
        answer : (p : Progress) (y : Item) (rest : List Item) → from_such reign pace x p ≡ y ∷ rest → (p ≡ Accepted) × (accept_item reign pace x ≡ y) × ([] ≡ rest)
        answer Behind y rest e = absurd cc
        answer Level y rest e = absurd cc
        answer Accepted y rest e = (refl, cc, cc)
        answer Counted y rest e = absurd cc

        -- all members accepted, or some are missing
        taken : (G : PeerAt ms q pace reign x t f t.under_way) → G.progress ≡ Accepted → IsItem ms reign t.world.messages f reign.leader (t.time + pace.delay) (accept_item reign pace x) o → Carries ms reign t.world.messages f reign.leader (t.time + pace.delay) [] others
            → (z : Bool) → are_within ms.count q (with_rank (leading ms q pace reign x t S).0.leader.accepted f) ≡ z → After u next
        taken G is it C true full = inr (settles ms q pace reign x short t S u M room next f qf nf G o others went is it C full)
        taken G is it C false more = inl (counts ms q pace reign x short t S u M room next f qf nf G o others went is it C more)

        by : (F : PeerAt ms q pace reign x t f t.under_way) → Carries ms reign t.world.messages f reign.leader (t.time + pace.delay) (from_such reign pace x F.progress) (o ∷ others) → After u next
        by G (le, inl k) = comes_aside f reign.leader qf S.leads o others (pop_up t S f nf G others k.2) k.0 went
        by G (le, inr k) =
            let a = answer G.progress k.0 k.1 k.2 in
            taken G a.0 (subst (λ (z : Item). IsItem ms reign t.world.messages f reign.leader (t.time + pace.delay) z o) (sym a.1) k.3)
            (subst (λ (z : List Item). Carries ms reign t.world.messages f reign.leader (t.time + pace.delay) z others) (sym a.2) k.4)
            (are_within ms.count q (with_rank (leading ms q pace reign x t S).0.leader.accepted f)) refl

    apart : (f i : ℕ) → has q f ≡ true → has q i ≡ true → AreApart reign.leader f i → (o : Owed) (others : List Owed) → t.under_way f i ≡ o ∷ others
        → Went ms q pace (at_time ms q pace u t) (Arrives (Deliver o.number (u + pace.clock i))) (without_first f i others t.under_way) next → After u next
    apart f i qf qi a o others first went = by (subst (Carries ms reign t.world.messages f i (t.time + pace.delay) []) first (S.others f i qf qi a))
      where
        by : Carries ms reign t.world.messages f i (t.time + pace.delay) [] (o ∷ others) → After u next
        by (le, inl k) = comes_aside f i qf qi o others (pop_other t S f i a others k.2) k.0 went
        by (le, inr k) = absurd (no_item k.0 k.1 k.2)
          where
            no_item : (y : Item) (rest : List Item) → [] ≡ y ∷ rest → ⊥
            no_item y rest e = absurd cc

    arrives : (f i : ℕ) → has q f ≡ true → has q i ≡ true → (o : Owed) (others : List Owed) → t.under_way f i ≡ o ∷ others
        → Went ms q pace (at_time ms q pace u t) (Arrives (Deliver o.number (u + pace.clock i))) (without_first f i others t.under_way) next → After u next
    arrives f i qf qi o others first went = by (cases_eq f reign.leader) (cases_eq i reign.leader)
      where
        by : (f ≡ reign.leader) ⊎ (f ≡ reign.leader → ⊥) → (i ≡ reign.leader) ⊎ (i ≡ reign.leader → ⊥) → After u next
        by (inl a) (inl b) = apart f i qf qi ((λ _. b), (λ _. a)) o others first went
        by (inr a) (inr b) = apart f i qf qi ((λ z. absurd (a z)), (λ z. absurd (b z))) o others first went
        by (inl a) (inr b) = down i qi b o others (subst (λ (z : ℕ). t.under_way z i ≡ o ∷ others) a first)
            (subst (λ (z : ℕ). Went ms q pace (at_time ms q pace u t) (Arrives (Deliver o.number (u + pace.clock i))) (without_first z i others t.under_way) next) a went)
        by (inr a) (inl b) = up f qf a o others (subst (λ (z : ℕ). t.under_way f z ≡ o ∷ others) b first)
            (subst (λ (z : ℕ). Went ms q pace (at_time ms q pace u t) (Arrives (Deliver o.number (u + pace.clock z))) (without_first f z others t.under_way) next) b went)

    -- the timer of commands that wait
    proposes : (i : ℕ) → has q i ≡ true → Went ms q pace (at_time ms q pace u t) (Arrives (Ring i timer.Propose (u + pace.clock i))) t.under_way next → After u next
    proposes i qi went =
        let m = member ms q pace reign x t S i qi in
        inl (quiet t S u M.later next (Ring i timer.Propose (u + pace.clock i)) went i qi (input.Timer timer.Propose) refl (λ s. refl)
        (λ w s. taken_from (member_of ms i (inside ms q pace reign x t S i qi)) w s (input.Timer timer.Propose)) NobodyAsks (λ s. BringsNone)
        (λ several. propose_row (member_of ms i (inside ms q pace reign x t S i qi)) (shared_entries (t.world.store i)) (u + pace.clock i) (readings_of (t.world.store i)) m.state several m.awake))

    asks : (i : ℕ) → has q i ≡ true → (session : Session) (request : Request) → Went ms q pace (at_time ms q pace u t) (Arrives (Client i (u + pace.clock i) session request)) t.under_way next → After u next
    asks i qi session request went =
        let m = member ms q pace reign x t S i qi in
        inl (quiet t S u M.later next (Client i (u + pace.clock i) session request) went i qi (input.Client session request) refl (λ s. refl)
        (λ w s. taken_from (member_of ms i (inside ms q pace reign x t S i qi)) w s (input.Client session request)) (AsksAs session request) (λ s. BringsNone)
        (λ several. client_row (member_of ms i (inside ms q pace reign x t S i qi)) (shared_entries (t.world.store i)) (u + pace.clock i) (readings_of (t.world.store i)) m.state several m.awake session request))

    -- no other timer ends meanwhile
    fires : (i : ℕ) → has q i ≡ true → (s : State) → t.world.state i ≡ Some s → (kind : Timer) (end : ℕ) → end_of kind s.timers ≡ Some end → end ≤ u + pace.clock i
        → Went ms q pace (at_time ms q pace u t) (Arrives (Ring i kind (u + pace.clock i))) t.under_way next → After u next
    fires i qi s is kind end set due went = by (same_kind_or kind timer.Propose) (cases_eq i reign.leader)
      where
        soon : u ≤ x.won + 6 * pace.delay
        soon = let a = over ms q pace reign x t S u M in let b = S.soon in omega arith

        by : (kind ≡ timer.Propose) ⊎ (index_of kind ≡ index_of timer.Propose → ⊥) → (i ≡ reign.leader) ⊎ (i ≡ reign.leader → ⊥) → After u next
        by (inl same) k = proposes i qi (subst (λ (z : Timer). Went ms q pace (at_time ms q pace u t) (Arrives (Ring i z (u + pace.clock i))) t.under_way next) same went)
        by (inr ne) (inl e) =
            let P : Proposer ms q pace reign x s = subst (λ (o : Option State). IsSomeAnd o (Proposer ms q pace reign x)) (sym (ap (λ (z : ℕ). t.world.state z) e) ∙ is) S.lead in
            elim (P.only kind end set) [
              | inl z ↦ absurd (ne (ap index_of z))
              | inr z ↦ (let a = z.1 in let b = S.won in let c : pace.clock i ≡ pace.clock reign.leader = ap (λ (k : ℕ). pace.clock k) e in let d = soon in absurd (omega arith))
            ]
        by (inr ne) (inr nl) =
            let F = S.peons i qi nl in
            let G : FollowsSince reign.leader q (x.won + pace.clock i) s = subst (λ (o : Option State). IsSomeAnd o (FollowsSince reign.leader q (x.won + pace.clock i))) is F.follows in
            elim (G.only kind end set) [
              | inl z ↦ (let a = G.waits end (subst (λ (y : Timer). end_of y s.timers ≡ Some end) z set) in let d = soon in absurd (omega arith))
              | inr z ↦ absurd (ne (ap index_of z))
            ]

    stepped : (e : Event) → Comes ms q pace (at_time ms q pace u t) next e → After u next
    stepped e (Arriving f i qf qi o others first is went) = arrives f i qf qi o others first (subst (λ (z : Event). Went ms q pace (at_time ms q pace u t) z (without_first f i others t.under_way) next) is went)
    stepped e (Again f i qf qi n calls is went) = absurd (no_call ms q pace reign x t S n f i qf calls)
    stepped e (Firing i qi s is kind end set due event went) = fires i qi s is kind end set due (subst (λ (z : Event). Went ms q pace (at_time ms q pace u t) z t.under_way next) event went)
    stepped e (Asking i qi session request is went) = asks i qi session request (subst (λ (z : Event). Went ms q pace (at_time ms q pace u t) z t.under_way next) is went)

  -- ---- the run

  pub committed : (t last : Timed) (more : List (ℕ × Event)) → Settles ms q pace reign x t → Leads ms q pace t more last → ClocksGoOn q pace last.time → x.found.at + 2 * pace.delay < last.time
      → IsSettledBy ms q pace reign x t last more (x.found.at + 2 * pace.delay)
  committed t last [] S L room late = let k = over ms q pace reign x t S last.time L.0 in absurd (omega arith)
  committed t last ((u, e) ∷ more) S L room late = by (stepped t S u L.0 room_now next e L.1.1) (λ Y. committed L.1.0 last more Y L.1.2 room late)
    where
      M : MayBe ms q pace t u
      M = L.0

      next : Timed
      next = L.1.0

      time_is : next.time ≡ u
      time_is = time_of_next ms q pace reign quick (at_time ms q pace u t) next e L.1.1

      room_now : ClocksGoOn q pace u
      room_now i qi = let k = room i qi in let a = time_is in let c = goes_on ms q pace reign quick more next last L.1.2 in omega arith

      by : After u next → (Settles ms q pace reign x next → IsSettledBy ms q pace reign x next last more (x.found.at + 2 * pace.delay)) → IsSettledBy ms q pace reign x t last ((u, e) ∷ more) (x.found.at + 2 * pace.delay)
      by (inl Y) rest = (let W = rest Y in record {
        before = (u, e) ∷ W.before;
        after = W.after;
        parts = ap (λ (z : List (ℕ × Event)). (u, e) ∷ z) W.parts;
        reached = W.reached;
        run = (M, (next, L.1.1, W.run));
        rest = W.rest;
        by = W.by;
        round = W.round;
        version = W.version;
        value = W.value;
        steady = W.steady;
      })
      by (inr Y) rest = record {
        before = (u, e) ∷ [];
        after = more;
        parts = refl;
        reached = next;
        run = (M, (next, L.1.1, (here ms q pace next last more L.1.2, refl)));
        rest = L.1.2;
        by = (let k = over ms q pace reign x t S u M in let z = time_is in omega arith);
        round = first_round u;
        version = refl;
        value = refl;
        steady = Y;
      }
