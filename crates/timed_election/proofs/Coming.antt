-- What a member is given in a timed run, and what is under way afterwards.
use Rattle.law_names.proofs.Runs.{Arrives, Client, Deliver, Envelope, Event, Monitors, Plain, Ring, arrival, happens, message_at, messages_of, state_at}
use Rattle.law_names.proofs.Table.{AllByRecursion, Course, Input, Message, Request, Session, State, Timer, end_of, has, others, react, readings_of, shared_entries}
use Rattle.log_model.proofs.Lists.{all_append}
use Rattle.mon_msg.specs.declared.input.Input.TheVariants as input
use Rattle.quorum_model.proofs.Members.{member_of}
use Rattle.quorum_stays.proofs.Carrying.{more_messages}
use Rattle.quorum_stays.proofs.Onward.{here_left, one_state, other_left}
use Rattle.quorum_stays.proofs.Stepping.{Did, did, reacts}
use Rattle.quorum_stays.proofs.UnderWay.{all_numbers, all_owed, new_are, new_there, numbers}
use Rattle.quorum_timed.specs.Begins.{IsBetween}
use Rattle.quorum_timed.specs.Calls.{IsCall, IsCandidate, IsDelivery}
use Rattle.quorum_timed.specs.Timed.{Again, Arriving, Asking, Comes, Firing, Owed, Pace, Timed, Went, at_time, new_between, owed_by, without_first}
use Rattle.std.proofs.Common.{Bool, IsSomeAnd, List, Ok, Some, ap, arith, inl, inr, length, option_map, refl, slice_get, subst, suc, sym, true, ℕ, ◌++◌, ◌+◌, ◌<◌, ◌∙◌, ◌∷◌, ◌≡◌, ◌≤◌, ◌⊎◌}
use Rattle.std.proofs.lemmas.Bool.{cases_eq, lt-ltb}
use Rattle.timed_election.proofs.Lists.{closed, opened}
use Rattle.timed_election.specs.Election.{ArrivesBy}

module _ (ms : Monitors) (q : List Bool) (pace : Pace) (t : Timed) (u : ℕ) where
  -- how it reaches member i
  pub data How (i : ℕ) (came : Input) (e : Event) (left : ℕ → ℕ → List Owed) (s : State) : Type 0 where
    first : (f : ℕ) → has q f ≡ true → (o : Owed) (others : List Owed) (m : Message) → t.under_way f i ≡ o ∷ others → message_at t.world.messages o.number ≡ Some (record { to = i; message = m })
        → m.from ≡ f → came ≡ input.Deliver m → e ≡ Arrives (Deliver o.number (u + pace.clock i)) → left ≡ without_first f i others t.under_way → How i came e left s
    again : (k : ℕ) (m : Message) → message_at t.world.messages k ≡ Some (record { to = i; message = m }) → has q m.from ≡ true → IsCall m.body → IsCandidate t.world m.from m.epoch
        → came ≡ input.Deliver m → e ≡ Arrives (Deliver k (u + pace.clock i)) → left ≡ t.under_way → How i came e left s
    fires : (kind : Timer) (end : ℕ) → end_of kind s.timers ≡ Some end → end ≤ u + pace.clock i → came ≡ input.Timer kind → e ≡ Arrives (Ring i kind (u + pace.clock i)) → left ≡ t.under_way → How i came e left s
    asks : (session : Session) (r : Request) → came ≡ input.Client session r → e ≡ Arrives (Client i (u + pace.clock i) session r) → left ≡ t.under_way → How i came e left s

module _ (ms : Monitors) (q : List Bool) (pace : Pace) (t : Timed) (u : ℕ) (next : Timed) (e : Event) (left : ℕ → ℕ → List Owed) (went : Went ms q pace (at_time ms q pace u t) e left next)
    (i : ℕ) (came : Input) (s : State) (y : Course) (how : How ms q pace t u i came e left s) (D : Did t.world next.world i y.state y.changes (messages_of y.out)) where
  abbrev pub es : List Envelope
  es = messages_of y.out

  abbrev pub count : ℕ
  count = length t.world.messages

  abbrev pub due : ℕ
  due = u + pace.delay

  pub time_is : next.time ≡ u
  time_is = went.time

  -- ---- states, stores and messages

  pub on_state : (P Q : State → Type 0) (j : ℕ) → (j ≡ i → Q y.state) → ((j ≡ i → ⊥) → (z : State) → P z → Q z) → IsSomeAnd (t.world.state j) P → IsSomeAnd (next.world.state j) Q
  on_state P Q j mine other k = elim (cases_eq j i) [
    | inl same ↦ closed Q (next.world.state j) y.state (subst (λ (z : ℕ). next.world.state z ≡ Some y.state) (sym same) D.up) (mine same)
    | inr ne ↦ (let o = opened P (t.world.state j) k in closed Q (next.world.state j) o.0 (D.others j ne ∙ o.1) (other ne o.0 o.2))
  ]

  pub still : (k : ℕ) (m : Envelope) → message_at t.world.messages k ≡ Some m → message_at next.world.messages k ≡ Some m
  still k m there = ap (λ (z : List Envelope). message_at z k) D.messages ∙ more_messages t.world.messages es k m there

  -- one that was there before is the same
  pub same_there : (k : ℕ) (m n : Envelope) → message_at t.world.messages k ≡ Some m → message_at next.world.messages k ≡ Some n → m ≡ n
  same_there k m n old new = let two : Some m ≡ Some n = sym (still k m old) ∙ new in cc

  pub new_at : (d : ℕ) (m : Envelope) → slice_get es d ≡ Some m → message_at next.world.messages (suc count + d) ≡ Some m
  new_at d m there =
      let number : suc count + d ≡ suc (count + d) = omega arith in
      ap (λ (z : List Envelope). message_at z (suc count + d)) D.messages ∙ ap (message_at (t.world.messages ++ es)) number ∙ new_there t.world.messages es d m there

  pub under_now : (f j : ℕ) → next.under_way f j ≡ left f j ++ owed_by due (numbers f j (suc count) es)
  under_now f j =
      went.sent f j
      ∙ ap (λ (m : List Envelope). left f j ++ owed_by due (new_between count f j m)) D.messages
      ∙ ap (λ (ns : List ℕ). left f j ++ owed_by due ns) (new_are f j t.world.messages es)

  -- what was under way before, to others
  pub left_same : (f j : ℕ) → (j ≡ i → ⊥) → left f j ≡ t.under_way f j
  left_same f j ne = by how
    where
      by : How ms q pace t u i came e left s → left f j ≡ t.under_way f j
      by (first g qg o others m list there from k at rest) = ap (λ (z : ℕ → ℕ → List Owed). z f j) rest ∙ other_left g i others t.under_way f j (λ _ is. ne is)
      by (again k m there from call epoch h at rest) = ap (λ (z : ℕ → ℕ → List Owed). z f j) rest
      by (fires kind end on over k at rest) = ap (λ (z : ℕ → ℕ → List Owed). z f j) rest
      by (asks session r k at rest) = ap (λ (z : ℕ → ℕ → List Owed). z f j) rest

  pub left_all : (P : Owed → Type 0) (f j : ℕ) → AllByRecursion P (t.under_way f j) → AllByRecursion P (left f j)
  left_all P f j all = elim (cases_eq j i) [
    | inr ne ↦ subst (AllByRecursion P) (sym (left_same f j ne)) all
    | inl is ↦ by is how
  ]
    where
      by : j ≡ i → How ms q pace t u i came e left s → AllByRecursion P (left f j)
      by is (first g qg o others m list there from k at rest) = subst (λ (z : ℕ → ℕ → List Owed). AllByRecursion P (z f j)) (sym rest) (elim (cases_eq f g) [
        | inl same ↦ (let few = (subst (AllByRecursion P) list (subst (λ (z : ℕ). AllByRecursion P (t.under_way z i)) same (subst (λ (z : ℕ). AllByRecursion P (t.under_way f z)) is all))).1 in
            subst (λ (z : ℕ). AllByRecursion P (without_first g i others t.under_way z j)) (sym same) (subst (λ (z : ℕ). AllByRecursion P (without_first g i others t.under_way g z)) (sym is)
            (subst (AllByRecursion P) (sym (here_left g i others t.under_way)) few)))
        | inr ne ↦ subst (AllByRecursion P) (sym (other_left g i others t.under_way f j (λ k _. ne k))) all
      ])
      by is (again k m there from call epoch h at rest) = subst (λ (z : ℕ → ℕ → List Owed). AllByRecursion P (z f j)) (sym rest) all
      by is (fires kind end on over k at rest) = subst (λ (z : ℕ → ℕ → List Owed). AllByRecursion P (z f j)) (sym rest) all
      by is (asks session r k at rest) = subst (λ (z : ℕ → ℕ → List Owed). AllByRecursion P (z f j)) (sym rest) all

  pub next_all : (P : Owed → Type 0) (f j : ℕ) → AllByRecursion P (left f j)
      → ((d : ℕ) (m : Envelope) → slice_get es d ≡ Some m → m.message.from ≡ f → m.to ≡ j → message_at next.world.messages (suc count + d) ≡ Some m → P (record { number = suc count + d; by = due }))
      → AllByRecursion P (next.under_way f j)
  next_all P f j old new = subst (AllByRecursion P) (sym (under_now f j))
      (all_append P (left f j) (owed_by due (numbers f j (suc count) es)) old
      (all_owed due (numbers f j (suc count) es) (λ k. P (record { number = k; by = due })) P (λ k h. h)
      (all_numbers f j (suc count) es (λ k. P (record { number = k; by = due })) (λ d m there from to. new d m there from to (new_at d m there)))))

  -- either the first message of this list came, which has the property, or the others are still under way
  pub came_or_left : (until : ℕ) (P : Owed → Type 0) (f j : ℕ) → j ≡ i → ArrivesBy until P (t.under_way f j)
      → ((o : Owed) × (m : Message) × P o × (o.by ≤ until) × (message_at t.world.messages o.number ≡ Some (record { to = i; message = m })) × (came ≡ input.Deliver m)) ⊎ ArrivesBy until P (left f j)
  came_or_left until P f j is a = of how
    where
      of : How ms q pace t u i came e left s
          → ((o : Owed) × (m : Message) × P o × (o.by ≤ until) × (message_at t.world.messages o.number ≡ Some (record { to = i; message = m })) × (came ≡ input.Deliver m)) ⊎ ArrivesBy until P (left f j)
      of (again n m there from call cand h at_time rest) = inr (subst (λ (z : ℕ → ℕ → List Owed). ArrivesBy until P (z f j)) (sym rest) a)
      of (fires kind end set over h at_time rest) = inr (subst (λ (z : ℕ → ℕ → List Owed). ArrivesBy until P (z f j)) (sym rest) a)
      of (asks session r h at_time rest) = inr (subst (λ (z : ℕ → ℕ → List Owed). ArrivesBy until P (z f j)) (sym rest) a)
      of (first g qg o others m list there from h at_time rest) = elim (cases_eq f g) [
        | inr ne ↦ inr (subst (λ (z : ℕ → ℕ → List Owed). ArrivesBy until P (z f j)) (sym rest) (subst (ArrivesBy until P) (sym (other_left g i others t.under_way f j (λ same _. ne same))) a))
        | inl same ↦ (let here_list : t.under_way f j ≡ o ∷ others = subst (λ (p : ℕ). t.under_way f p ≡ o ∷ others) (sym is) (subst (λ (p : ℕ). t.under_way p i ≡ o ∷ others) (sym same) list) in
            let parts = subst (ArrivesBy until P) here_list a in
            elim parts.1 [
              | inl p ↦ inl (o, m, p, parts.0, there, h)
              | inr rest_of ↦ inr (subst (ArrivesBy until P)
                  (sym (ap (λ (z : ℕ → ℕ → List Owed). z f j) rest ∙ ap (λ (p : ℕ). without_first g i others t.under_way p j) same ∙ ap (λ (p : ℕ). without_first g i others t.under_way g p) is ∙ here_left g i others t.under_way)) rest_of)
            ])
      ]

  -- no event comes without a delivery or a timer
  pub no_delivery : (k : ℕ) → ((m : Message) → came ≡ input.Deliver m → ⊥) → IsDelivery k e → ⊥
  no_delivery k none d = by how
    where
      by : How ms q pace t u i came e left s → ⊥
      by (first f qf o others z list there from h at rest) = none z h
      by (again k z there from call epoch h at rest) = none z h
      by (fires kind end on over h at rest) = subst (IsDelivery k) at d
      by (asks session r h at rest) = subst (IsDelivery k) at d

-- ---- each event of a timed run

-- an event at a member
pub record Handled (ms : Monitors) (q : List Bool) (pace : Pace) (within : (i : ℕ) → has q i ≡ true → i < ms.count) (t : Timed) (u : ℕ) (next : Timed) (e : Event) : Type 0 where
  pub i : ℕ
  pub member : has q i ≡ true
  pub came : Input
  pub left : ℕ → ℕ → List Owed
  pub went : Went ms q pace (at_time ms q pace u t) e left next
  pub state : State
  pub up : t.world.state i ≡ Some state
  pub how : How ms q pace t u i came e left state
  pub course : Course
  pub reacts : react (member_of ms i (lt-ltb i ms.count (within i member))) (shared_entries (t.world.store i)) (u + pace.clock i) (readings_of (t.world.store i)) state came ≡ Ok course
  pub did : Did t.world next.world i course.state course.changes (messages_of course.out)

module _ (ms : Monitors) (q : List Bool) (pace : Pace) (within : (i : ℕ) → has q i ≡ true → i < ms.count) (t : Timed) (u : ℕ)
    (between : (f i : ℕ) → has q f ≡ true → has q i ≡ true → AllByRecursion (λ o. IsBetween t.world f i o.number) (t.under_way f i))
    (ups : (i : ℕ) → has q i ≡ true → IsSomeAnd (t.world.state i) (λ s. Unit {0})) (next : Timed) where
  happens_so : (e : Event) (p : Plain) (is : e ≡ Arrives p) (left : ℕ → ℕ → List Owed) (went : Went ms q pace (at_time ms q pace u t) e left next) (i : ℕ) (qi : has q i ≡ true) (came : Input)
      → arrival t.world p ≡ Some (record { rank = i; at = u + pace.clock i; input = came }) → ((s : State) → t.world.state i ≡ Some s → state_at i (t.world.state i) came ≡ Some s)
      → ((s : State) → t.world.state i ≡ Some s → How ms q pace t u i came e left s) → Handled ms q pace within t u next e
  happens_so e p is left went i qi came a running how =
      let lt = lt-ltb i ms.count (within i qi) in
      let P = opened (λ (s : State). Unit {0}) (t.world.state i) (ups i qi) in
      let happened : happens ms t.world (Arrives p) ≡ Ok next.world = subst (λ (z : Event). happens ms t.world z ≡ Ok next.world) is went.happened in
      let R = reacts ms t.world next.world p i lt (u + pace.clock i) came P.0 a (running P.0 P.1) happened in
      record {
        i = i;
        member = qi;
        came = came;
        left = left;
        went = went;
        state = P.0;
        up = P.1;
        how = how P.0 P.1;
        course = R.0;
        reacts = R.1;
        did = did ms t.world next.world p i lt (u + pace.clock i) came P.0 a (running P.0 P.1) happened R.0 R.1;
      }

  delivered : (e : Event) (i : ℕ) (qi : has q i ≡ true) (k : ℕ) (m : Message) → message_at t.world.messages k ≡ Some (record { to = i; message = m }) → e ≡ Arrives (Deliver k (u + pace.clock i)) → (left : ℕ → ℕ → List Owed)
      → Went ms q pace (at_time ms q pace u t) e left next → ((s : State) → t.world.state i ≡ Some s → How ms q pace t u i (input.Deliver m) e left s) → Handled ms q pace within t u next e
  delivered e i qi k m there is left went how =
      happens_so e (Deliver k (u + pace.clock i)) is left went i qi (input.Deliver m) (ap (option_map (λ (z : Envelope). record { rank = z.to; at = u + pace.clock i; input = input.Deliver z.message })) there) (λ s up. up) how

  -- the message of that number
  envelope_at : (f i k : ℕ) → IsBetween t.world f i k → (m : Message) × (message_at t.world.messages k ≡ Some (record { to = i; message = m })) × (m.from ≡ f)
  envelope_at f i k h =
      let o = opened (λ (m : Envelope). (m.message.from ≡ f) × (m.to ≡ i)) (message_at t.world.messages k) h in
      let m : Message = (o.0).message in
      (m, o.1 ∙ ap (λ (z : ℕ). Some (record { to = z; message = m })) o.2.1, o.2.0)

  pub handled : (e : Event) → Comes ms q pace (at_time ms q pace u t) next e → Handled ms q pace within t u next e
  handled e (Arriving f i qf qi o others list is went) =
      let all = subst (AllByRecursion (λ o. IsBetween t.world f i o.number)) list (between f i qf qi) in
      let m = envelope_at f i o.number all.0 in
      delivered e i qi o.number m.0 m.1 is (without_first f i others t.under_way) went (λ s up. first f qf o others m.0 list m.1 m.2 refl is refl)
  handled e (Again f i qf qi k calls is went) =
      let there : message_at t.world.messages k ≡ Some (record { to = i; message = calls.envelope.message }) = calls.there ∙ ap (λ (z : ℕ). Some (record { to = z; message = calls.envelope.message })) calls.receiver in
      delivered e i qi k calls.envelope.message there is t.under_way went
      (λ s up. again k calls.envelope.message there (subst (λ (z : ℕ). has q z ≡ true) (sym calls.sender) qf) calls.call (subst (λ (z : ℕ). IsCandidate t.world z calls.envelope.message.epoch) (sym calls.sender) calls.still) refl is refl)
  handled e (Firing i qi s up kind end set due is went) =
      happens_so e (Ring i kind (u + pace.clock i)) is t.under_way went i qi (input.Timer kind) refl (λ s up. up) (λ z on. fires kind end (subst (λ (v : State). end_of kind v.timers ≡ Some end) (one_state (t.world.state i) s z up on) set) due refl is refl)
  handled e (Asking i qi session request is went) =
      happens_so e (Client i (u + pace.clock i) session request) is t.under_way went i qi (input.Client session request) refl (λ s up. up) (λ s up. asks session request refl is refl)
