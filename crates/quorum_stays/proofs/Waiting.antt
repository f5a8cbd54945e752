-- A command that waits at the leader is answered in time.
use Rattle.law_names.proofs.Runs.{Envelope, Monitors, World}
use Rattle.law_names.proofs.Table.{Origin, State, Waiting, end_of}
use Rattle.mon_wire.specs.declared.phase.Timer.TheVariants as timer
use Rattle.quorum_stays.proofs.Bounds.{by_progress}
use Rattle.quorum_stays.proofs.Peons.{head_is, rest_is}
use Rattle.quorum_stays.proofs.Serving.{Answered, Answers, Armed, Began, Committed, Kept, Queued, Refused, Renewed, Rests, Turn}
use Rattle.quorum_stays.specs.Steady.{Begun, Reign, Round, Steady}
use Rattle.quorum_timed.specs.Begins.{IsQuick}
use Rattle.quorum_timed.specs.Timed.{MayBe, Pace, Timed}
use Rattle.std.proofs.Common.{Bool, List, None, Option, Some, [], ap, arith, inl, inr, length, subst, suc, sym, zero, ℕ, ◌*◌, ◌++◌, ◌+◌, ◌∙◌, ◌∷◌, ◌≡◌, ◌≤◌, ◌⊎◌}
use Rattle.std.proofs.lemmas.List.{append_assoc}
use Rattle.std.proofs.lemmas.Option.{none-some}

-- ---- lists and options

pub not_empty : {A : Type 0} (xs ys : List A) (x : A) → xs ++ x ∷ ys ≡ [] → ⊥
not_empty [] ys x e = absurd cc
not_empty (y ∷ xs) ys x e = absurd cc

pub neither : {A : Type 0} {B : Type 0} (o : Option A) (a : A) → o ≡ None → o ≡ Some a → B
neither o a x y = absurd (none-some a (sym x ∙ y))

-- ---- how long it waits

-- the longest time from when it may be proposed until it is answered, if that many wait before it
abbrev pub places : Pace → ℕ → ℕ
places pace zero = 2 * pace.delay
places pace (suc k) = 2 * pace.delay + 2 * pace.late + places pace k

module _ (ms : Monitors) (q : List Bool) (pace : Pace) (reign : Reign) where
  -- No value is in progress. The timer of commands that wait ends by `start`, and fires at most `late` after it. If the
  -- leases are renewed before that, it is armed anew, once.
  pub record Idling (D k : ℕ) (r : Round) (s : State) : Type 0 where
    pub none : r.next ≡ None
    pub start : ℕ
    pub end : ℕ
    pub armed : end_of timer.Propose s.timers ≡ Some end
    pub ends : end ≤ start + pace.clock reign.leader
    pub since : pace.since ≤ start
    pub in_time : (start + 2 * pace.late + places pace k ≤ D) ⊎ ((start ≤ r.latest) × (start + pace.late + places pace k ≤ D))

  -- how many wait before it
  abbrev pub Budget : (D k : ℕ) → Round → State → Type 0
  Budget D k r s = Idling D k r s ⊎ ((b : Begun) × (r.next ≡ Some b) × (b.at + 2 * pace.delay + 2 * pace.late + places pace k ≤ D))

  -- Whoever asked is answered by time D: the command waits, or its value is in progress.
  pub data Awaits (D : ℕ) (o : Origin) (r : Round) (s : State) : Type 0 where
    InQueue : (before behind : List Waiting) (one : Waiting) → s.clients.queue ≡ before ++ one ∷ behind → one.origin ≡ o → Budget D (length before) r s → Awaits D o r s
    InProgress : (b : Begun) → r.next ≡ Some b → s.leader.origin ≡ Some o → b.at + 2 * pace.delay ≤ D → Awaits D o r s

  module _ (K : IsQuick pace) (r : Round) (t : Timed) (S : Steady ms q pace reign r t) (u : ℕ) (M : MayBe ms q pace t u) (s : State) (up : t.world.state reign.leader ≡ Some s) where
    idling_until : (D k : ℕ) (I : Idling D k r s) → u ≤ I.start + pace.late
    idling_until D k I =
        let a = M.timers reign.leader S.leads s up timer.Propose I.end I.armed in
        let b = I.ends in
        let c = I.since in
        omega arith

    idling_in_time : (D k : ℕ) → Idling D k r s → u ≤ D
    idling_in_time D k I = let a = idling_until D k I in elim I.in_time [ inl b ↦ omega arith | inr b ↦ (let c = b.1 in omega arith) ]

    budget_in_time : (D k : ℕ) → Budget D k r s → u ≤ D
    budget_in_time D k (inl I) = idling_in_time D k I
    budget_in_time D k (inr B) = let a = by_progress ms q pace reign r t S K u M B.0 B.1 in let b = B.2 in omega arith

    -- it isn't too late yet
    pub in_time : (D : ℕ) (o : Origin) → Awaits D o r s → u ≤ D
    in_time D o (InQueue before behind one queue is budget) = budget_in_time D (length before) budget
    in_time D o (InProgress b is from le) = let a = by_progress ms q pace reign r t S K u M b is in omega arith

    -- ---- an event

    module _ (D : ℕ) (o : Origin) (before after : World) (later : Round) (taken : Option Origin) (is : State) (es : List Envelope) where
      abbrev Goal : Type 0
      Goal = Awaits D o later is ⊎ Answers ms reign before after es o

      since_now : pace.since ≤ u
      since_now = let a = S.since in let b = S.reached in let c = M.later in omega arith

      -- the timer of commands that wait ends now
      idles : (k : ℕ) → later.next ≡ None → Armed ms pace reign u is → (is.clients.queue ≡ [] → ⊥) → (u + 2 * pace.late + places pace k ≤ D) ⊎ ((u ≤ later.latest) × (u + pace.late + places pace k ≤ D)) → Idling D k later is
      idles k none armed some le = record { none = none; start = u; end = u + pace.clock reign.leader; armed = armed some; ends = omega arith; since = since_now; in_time = le }

      some_wait : (xs ys : List Waiting) (x : Waiting) → is.clients.queue ≡ xs ++ x ∷ ys → is.clients.queue ≡ [] → ⊥
      some_wait xs ys x e none = not_empty xs ys x (sym e ∙ none)

      same_budget : (k : ℕ) → Rests ms pace reign r later s is → (is.clients.queue ≡ [] → ⊥) → Budget D k r s → Budget D k later is
      same_budget k R some (inl I) =
          let none = R.next ∙ I.none in
          let latest = R.latest in
          inl (record {
            none = none;
            start = I.start;
            end = I.end;
            armed = R.ends none some ∙ I.armed;
            ends = I.ends;
            since = I.since;
            in_time = elim I.in_time [ inl b ↦ inl b | inr b ↦ inr ((let c = b.0 in omega arith), b.1) ];
          })
      same_budget k R some (inr B) = inr (B.0, R.next ∙ B.1, B.2)

      -- those before it stay, and more may wait after it
      stays : (more : List Waiting) → is.clients.queue ≡ s.clients.queue ++ more → Rests ms pace reign r later s is → Awaits D o r s → Goal
      stays more queue R (InQueue xs ys one old from budget) =
          let list : is.clients.queue ≡ xs ++ one ∷ (ys ++ more) = queue ∙ ap (λ (z : List Waiting). z ++ more) old ∙ append_assoc xs (one ∷ ys) more in
          inl (InQueue xs (ys ++ more) one list from (same_budget (length xs) R (some_wait xs (ys ++ more) one list) budget))
      stays more queue R (InProgress b old from le) = inl (InProgress b (R.next ∙ old) (R.origin ∙ from) le)

      unmoved : is.clients.queue ≡ s.clients.queue → Rests ms pace reign r later s is → Awaits D o r s → Goal
      unmoved queue R (InQueue xs ys one old from budget) =
          let list : is.clients.queue ≡ xs ++ one ∷ ys = queue ∙ old in
          inl (InQueue xs ys one list from (same_budget (length xs) R (some_wait xs ys one list) budget))
      unmoved queue R (InProgress b old from le) = inl (InProgress b (R.next ∙ old) (R.origin ∙ from) le)

      idle_of : (k : ℕ) → r.next ≡ None → Budget D k r s → Idling D k r s
      idle_of k none (inl I) = I
      idle_of k none (inr B) = neither r.next B.0 none B.1

      -- ---- the first one goes

      refused : (first : Waiting) → s.clients.queue ≡ first ∷ is.clients.queue → Answers ms reign before after es first.origin → r.next ≡ None → later.next ≡ None → Armed ms pace reign u is → Awaits D o r s → Goal
      refused first queue answers none later_none armed (InProgress b old from le) = neither r.next b none old
      refused first queue answers none later_none armed (InQueue [] ys one old from budget) =
          let same : first ≡ one = head_is first one is.clients.queue ys (sym queue ∙ old) in
          inr (subst (Answers ms reign before after es) (ap (λ (z : Waiting). z.origin) same ∙ from) answers)
      refused first queue answers none later_none armed (InQueue (x ∷ xs) ys one old from budget) =
          let list : is.clients.queue ≡ xs ++ one ∷ ys = rest_is first x is.clients.queue (xs ++ one ∷ ys) (sym queue ∙ old) in
          let I = idle_of (suc (length xs)) none budget in
          let a = idling_until D (suc (length xs)) I in
          inl (InQueue xs ys one list from (inl (idles (length xs) later_none armed (some_wait xs ys one list) (elim I.in_time [ inl b ↦ inl (omega arith) | inr b ↦ inl (let c = b.1 in omega arith) ]))))

      begins : (from : Origin) (b : Begun) → r.next ≡ None → later.next ≡ Some b → b.at ≡ u → is.leader.origin ≡ Some from → (first : Waiting) → s.clients.queue ≡ first ∷ is.clients.queue → first.origin ≡ from → Awaits D o r s → Goal
      begins asks b none next at origin first queue mine (InProgress c old from le) = neither r.next c none old
      begins asks b none next at origin first queue mine (InQueue [] ys one old from budget) =
          let same : first ≡ one = head_is first one is.clients.queue ys (sym queue ∙ old) in
          let I = idle_of zero none budget in
          let a = idling_until D zero I in
          let who : asks ≡ o = sym mine ∙ ap (λ (z : Waiting). z.origin) same ∙ from in
          inl (InProgress b next (origin ∙ ap Some who) (elim I.in_time [ inl c ↦ omega arith | inr c ↦ (let d = c.1 in omega arith) ]))
      begins asks b none next at origin first queue mine (InQueue (x ∷ xs) ys one old from budget) =
          let list : is.clients.queue ≡ xs ++ one ∷ ys = rest_is first x is.clients.queue (xs ++ one ∷ ys) (sym queue ∙ old) in
          let I = idle_of (suc (length xs)) none budget in
          let a = idling_until D (suc (length xs)) I in
          inl (InQueue xs ys one list from (inr (b, next, elim I.in_time [ inl c ↦ omega arith | inr c ↦ (let d = c.1 in omega arith) ])))

      renewed : is.clients.queue ≡ s.clients.queue → r.next ≡ None → later.next ≡ None → later.latest ≡ u → r.latest + 3000 ≤ u → Armed ms pace reign u is → Awaits D o r s → Goal
      renewed queue none later_none latest late armed (InProgress c old from le) = neither r.next c none old
      renewed queue none later_none latest late armed (InQueue xs ys one old from budget) =
          let list : is.clients.queue ≡ xs ++ one ∷ ys = queue ∙ old in
          let I = idle_of (length xs) none budget in
          let a = idling_until D (length xs) I in
          let k = K.leases in
          inl (InQueue xs ys one list from (inl (idles (length xs) later_none armed (some_wait xs ys one list)
          (elim I.in_time [ inl c ↦ inr (omega arith, omega arith) | inr c ↦ (let d = c.0 in absurd (omega arith)) ]))))

      commits : (b : Begun) → is.clients.queue ≡ s.clients.queue → r.next ≡ Some b → later.next ≡ None → ((x : Origin) → s.leader.origin ≡ Some x → Answers ms reign before after es x) → Armed ms pace reign u is → Awaits D o r s → Goal
      commits b queue next later_none answers armed (InProgress c old from le) = inr (answers o from)
      commits b queue next later_none answers armed (InQueue xs ys one old from (inl I)) = neither r.next b I.none next
      commits b queue next later_none answers armed (InQueue xs ys one old from (inr B)) =
          let list : is.clients.queue ≡ xs ++ one ∷ ys = queue ∙ old in
          let a = by_progress ms q pace reign r t S K u M B.0 B.1 in
          let c = B.2 in
          inl (InQueue xs ys one list from (inl (idles (length xs) later_none armed (some_wait xs ys one list) (inl (omega arith)))))

      pub awaits_on : Awaits D o r s → Turn ms pace reign u before after r later taken s is es → Goal
      awaits_on A (Kept nil queue R) = unmoved queue R A
      awaits_on A (Answered x took answers queue R) = unmoved queue R A
      awaits_on A (Queued one took queue few some R) = stays (one ∷ []) queue R A
      awaits_on A (Refused one nil queue answers none later_none latest armed) = refused one queue answers none later_none armed A
      awaits_on A (Renewed nil queue none later_none latest late armed) = renewed queue none later_none latest late armed A
      awaits_on A (Began from b none next at origin (inl h)) = nobody A h.1
        where
          nobody : Awaits D o r s → s.clients.queue ≡ [] → Goal
          nobody (InProgress c old whose le) empty = neither r.next c none old
          nobody (InQueue xs ys one old whose budget) empty = absurd (not_empty xs ys one (sym old ∙ empty))
      awaits_on A (Began from b none next at origin (inr h)) = begins from b none next at origin h.0 h.2 h.3 A
      awaits_on A (Committed b nil queue next later_none latest answers armed) = commits b queue next later_none answers armed A
