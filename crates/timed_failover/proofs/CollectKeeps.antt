-- What stays as it was while a new leader asks, at an event that sends nothing of its round.
use Rattle.law_names.proofs.Runs.{Envelope, Event, Monitors, messages_of}
use Rattle.law_names.proofs.Table.{AllByRecursion, Body, Change, Course, Fits, Input, Readings, State, Store, played, readings_of}
use Rattle.quorum_stays.proofs.Carrying.{Gives, before_due, carries_append, carries_on, due_at, new_carries}
use Rattle.quorum_stays.proofs.Onward.{one_state, pack, unpack}
use Rattle.quorum_stays.proofs.Stepping.{Did}
use Rattle.quorum_stays.proofs.UnderWay.{all_numbers, all_owed, numbers}
use Rattle.quorum_stays.specs.Steady.{Carries, IsAside, IsOfClients, IsOfEarlier, Item, Reign}
use Rattle.quorum_timed.specs.Timed.{Owed, Pace, Timed, Went, at_time, owed_by}
use Rattle.std.proofs.Common.{Bool, IsSomeAnd, List, Some, [], ap, arith, inl, inr, length, refl, subst, suc, sym, ℕ, ◌++◌, ◌+◌, ◌∙◌, ◌∷◌, ◌≡◌, ◌≤◌, ◌⊎◌}
use Rattle.std.proofs.lemmas.Bool.{cases_eq}
use Rattle.std.proofs.lemmas.List.{append-nil}
use Rattle.timed_election.proofs.Coming.{How, new_at, time_is, under_now}
use Rattle.timed_election.proofs.Lists.{at_place}
use Rattle.timed_failover.specs.Collecting.{Query, reign}

module _ (ms : Monitors) (q : List Bool) (pace : Pace) (x : Query) where
  abbrev pub R : Reign
  R = reign ms.count pace x

  abbrev pub L : ℕ
  L = x.election.best

  -- a message of no round
  abbrev pub IsApart : Envelope → Type 0
  IsApart m = IsOfClients m.message.body ⊎ IsOfEarlier R.epoch m.message.from m.message

  pub asides : (messages : List Envelope) (f j top : ℕ) (os : List Owed) → AllByRecursion (λ o. (o.by ≤ top) × IsAside R.epoch messages f j o) os → Carries ms R messages f j top [] os
  asides messages f j top [] all = refl
  asides messages f j top (o ∷ os) all = (all.0.0, inl (all.0.1, tt, asides messages f j top os all.1))

  module _ (t : Timed) (u : ℕ) (later : t.time ≤ u) (next : Timed) (e : Event) (left : ℕ → ℕ → List Owed) (went : Went ms q pace (at_time ms q pace u t) e left next)
      (i : ℕ) (came : Input) (s : State) (up : t.world.state i ≡ Some s) (y : Course) (how : How ms q pace t u i came e left s) (D : Did t.world next.world i y.state y.changes (messages_of y.out)) where
    abbrev pub es : List Envelope
    es = messages_of y.out

    abbrev count : ℕ
    count = length t.world.messages

    abbrev due : ℕ
    due = u + pace.delay

    pub now_is : next.time ≡ u
    now_is = time_is ms q pace t u next e left went i came s y how D

    -- ---- what is under way

    -- what was left, and then what was sent
    pub carried_on : (f j : ℕ) (xs : List Item) (bs : List Body) → Carries ms R t.world.messages f j (t.time + pace.delay) xs (left f j) → Carries ms R next.world.messages f j due (due_at due bs) (owed_by due (numbers f j (suc count) es))
        → Carries ms R next.world.messages f j (next.time + pace.delay) (xs ++ due_at due bs) (next.under_way f j)
    carried_on f j xs bs old new =
        let more : Carries ms R (t.world.messages ++ es) f j due xs (left f j) = carries_on ms R f j t.world.messages es (t.time + pace.delay) due (omega arith) xs (left f j) old in
        let here : Carries ms R next.world.messages f j due xs (left f j) = subst (λ (z : List Envelope). Carries ms R z f j due xs (left f j)) (sym D.messages) more in
        subst (λ (z : ℕ). Carries ms R next.world.messages f j (z + pace.delay) (xs ++ due_at due bs) (next.under_way f j)) (sym now_is)
        (subst (Carries ms R next.world.messages f j due (xs ++ due_at due bs)) (sym (under_now ms q pace t u next e left went i came s y how D f j))
        (carries_append ms R f j next.world.messages due xs (due_at due bs) (left f j) (owed_by due (numbers f j (suc count) es)) (before_due due due (omega arith) bs) here new))

    -- messages of no round were sent
    pub apart_on : AllByRecursion IsApart es → (f j : ℕ) (xs : List Item) → Carries ms R t.world.messages f j (t.time + pace.delay) xs (left f j) → Carries ms R next.world.messages f j (next.time + pace.delay) xs (next.under_way f j)
    apart_on all f j xs old = subst (λ (z : List Item). Carries ms R next.world.messages f j (next.time + pace.delay) z (next.under_way f j)) (append-nil xs)
        (carried_on f j xs [] old (asides next.world.messages f j due (owed_by due (numbers f j (suc count) es))
        (all_owed due (numbers f j (suc count) es) (λ k. IsAside R.epoch next.world.messages f j (record { number = k; by = due })) (λ o. (o.by ≤ due) × IsAside R.epoch next.world.messages f j o) (λ k h. (omega arith, h))
        (all_numbers f j (suc count) es (λ k. IsAside R.epoch next.world.messages f j (record { number = k; by = due })) (λ d m there from to. record {
          envelope = m;
          there = new_at ms q pace t u next e left went i came s y how D d m there;
          receiver = to;
          aside = elim (at_place IsApart es d m all there) [ inl c ↦ inl c | inr v ↦ inr (record { sender = from; before = v.before; elects = v.elects }) ];
        })))))

    -- these were sent, in this order
    pub gives_on : (f j : ℕ) (xs : List Item) (bs : List Body) → Carries ms R t.world.messages f j (t.time + pace.delay) xs (left f j) → Gives ms R f j bs es
        → Carries ms R next.world.messages f j (next.time + pace.delay) (xs ++ due_at due bs) (next.under_way f j)
    gives_on f j xs bs old G = carried_on f j xs bs old
        (new_carries ms R f j next.world.messages due due (omega arith) (suc count) es (new_at ms q pace t u next e left went i came s y how D) bs G)

    -- ---- states and stores

    pub on_state : (P Q : State → Type 0) (j : ℕ) → (j ≡ i → P s → Q y.state) → ((j ≡ i → ⊥) → (z : State) → P z → Q z) → IsSomeAnd (t.world.state j) P → IsSomeAnd (next.world.state j) Q
    on_state P Q j mine other k = elim (cases_eq j i) [
      | inl same ↦ (let o = unpack P (t.world.state j) k in
          let here : o.0 ≡ s = one_state (t.world.state i) o.0 s (subst (λ (z : ℕ). t.world.state z ≡ Some o.0) same o.1) up in
          pack Q (next.world.state j) y.state (subst (λ (z : ℕ). next.world.state z ≡ Some y.state) (sym same) D.up) (mine same (subst P here o.2)))
      | inr ne ↦ (let o = unpack P (t.world.state j) k in pack Q (next.world.state j) o.0 (D.others j ne ∙ o.1) (other ne o.0 o.2))
    ]

    pub other_store : (P : Readings → Type 0) (j : ℕ) → (j ≡ i → ⊥) → P (readings_of (t.world.store j)) → P (readings_of (next.world.store j))
    other_store P j ne k = subst (λ (m : Store). P (readings_of m)) (sym (D.stores j ne)) k

    -- nothing was written
    pub every_store : y.changes ≡ [] → (P : Readings → Type 0) (j : ℕ) → P (readings_of (t.world.store j)) → P (readings_of (next.world.store j))
    every_store none P j k = elim (cases_eq j i) [
      | inl is ↦ subst (λ (z : ℕ). P (readings_of (next.world.store z))) (sym is) (subst P (sym kept) (subst (λ (z : ℕ). P (readings_of (t.world.store z))) is k))
      | inr ne ↦ other_store P j ne k
    ]
      where
        kept : readings_of (next.world.store i) ≡ readings_of (t.world.store i)
        kept = D.kept (subst (AllByRecursion Fits) (sym none) tt) ∙ ap (λ (z : List Change). played z (readings_of (t.world.store i))) none
