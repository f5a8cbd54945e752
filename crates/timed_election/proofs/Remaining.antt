-- What is still under way when an election ends: calls and acknowledgements alone.
use Rattle.law_names.proofs.Runs.{Envelope, Event, Monitors, message_at, messages_of}
use Rattle.law_names.proofs.Table.{AllByRecursion, Body, has}
use Rattle.log_model.proofs.Lists.{all_append, all_map}
use Rattle.mon_wire.specs.declared.body.Body.TheVariants as body
use Rattle.quorum_stays.proofs.Onward.{list_left}
use Rattle.quorum_stays.proofs.UnderWay.{all_numbers, all_owed, numbers}
use Rattle.quorum_stays.specs.Steady.{IsOfElections}
use Rattle.quorum_timed.specs.Calls.{IsCall}
use Rattle.quorum_timed.specs.Timed.{MayBe, Owed, Pace, Timed, owed_by}
use Rattle.std.proofs.Common.{Bool, IsSomeAnd, List, Some, [], arith, inl, inr, length, refl, subst, suc, sym, true, ℕ, ◌++◌, ◌+◌, ◌<◌, ◌∙◌, ◌∷◌, ◌≡◌, ◌≤◌, ◌⊎◌}
use Rattle.std.proofs.lemmas.Bool.{cases_lt}
use Rattle.timed_election.proofs.Coming.{Handled, How, again, asks, fires, first, left_all, new_at, next_all, still, under_now}
use Rattle.timed_election.proofs.Lists.{at_place, closed, opened}
use Rattle.timed_election.proofs.Outcomes.{Asks, AsksIn, VotesOrAnswers}
use Rattle.timed_election.specs.Election.{Election, Elects, IsOfElection}

-- the message of that number says so
abbrev pub Says : (Body → Type 0) → List Envelope → Owed → Type 0
Says P messages o = IsSomeAnd (message_at messages o.number) (λ m. P m.message.body)

abbrev pub AllVotes : List Envelope → List Owed → Type 0
AllVotes messages = AllByRecursion (Says IsOfElections messages)

module _ (asked : ℕ) (delay : ℕ) where
  -- Messages that arrive soon come first. All others are calls and acknowledgements.
  abbrev pub SoonThenVotes : List Envelope → List Owed → Type 0
  SoonThenVotes messages [] = Unit {0}
  SoonThenVotes messages (o ∷ os) = AllVotes messages (o ∷ os) ⊎ ((o.by ≤ asked + delay) × SoonThenVotes messages os)

  -- Messages that ask arrive by this time, and a delay after it only calls and acknowledgements are left.
  pub record Remains (q : List Bool) (t : Timed) : Type 0 where
    pub asks : (f i : ℕ) → has q f ≡ true → has q i ≡ true
        → AllByRecursion (λ o. Says (λ b. Asks b → o.by ≤ asked) t.world.messages o) (t.under_way f i)
    pub votes : (f i : ℕ) → has q f ≡ true → has q i ≡ true → SoonThenVotes t.world.messages (t.under_way f i)

  -- ---- lists

  all_soon : (messages : List Envelope) (os : List Owed) → AllByRecursion (λ o. o.by ≤ asked + delay) os → SoonThenVotes messages os
  all_soon messages [] k = tt
  all_soon messages (o ∷ os) k = inr (k.0, all_soon messages os k.1)

  fewer : (messages : List Envelope) (o : Owed) (os : List Owed) → SoonThenVotes messages (o ∷ os) → SoonThenVotes messages os
  fewer messages o [] k = tt
  fewer messages o (p ∷ os) (inl k) = inl k.1
  fewer messages o (p ∷ os) (inr k) = k.1

  more_votes : (messages : List Envelope) (os new : List Owed) → SoonThenVotes messages os → AllVotes messages new → SoonThenVotes messages (os ++ new)
  more_votes messages [] [] k n = tt
  more_votes messages [] (o ∷ new) k n = inl n
  more_votes messages (o ∷ os) new (inl k) n = inl (all_append (Says IsOfElections messages) (o ∷ os) new k n)
  more_votes messages (o ∷ os) new (inr k) n = inr (k.0, more_votes messages os new k.1 n)

  same_soon : (old next : List Envelope) → ((o : Owed) → Says IsOfElections old o → Says IsOfElections next o) → (os : List Owed) → SoonThenVotes old os → SoonThenVotes next os
  same_soon old next f [] k = tt
  same_soon old next f (o ∷ os) (inl k) = inl (all_map (Says IsOfElections old) (Says IsOfElections next) f (o ∷ os) k)
  same_soon old next f (o ∷ os) (inr k) = inr (k.0, same_soon old next f os k.1)

  -- ---- at first, and at the end

  module _ (ms : Monitors) (q : List Bool) (pace : Pace) (same : pace.delay ≡ delay) (E : Election) (t : Timed) (X : Elects ms q pace E t) where
    pub remains_at_first : t.time + delay ≤ asked → Remains q t
    remains_at_first late = record {
      asks = λ f i qf qi. all_map (IsOfElection E t.world.messages f i (t.time + pace.delay)) (λ o. Says (λ b. Asks b → o.by ≤ asked) t.world.messages o)
          (λ o O. closed (λ (m : Envelope). Asks m.message.body → o.by ≤ asked) (message_at t.world.messages o.number) O.envelope O.there (λ _. (let k = O.in_time in let z = same in omega arith))) (t.under_way f i) (X.under_way f i qf qi);
      votes = λ f i qf qi. all_soon t.world.messages (t.under_way f i) (all_map (IsOfElection E t.world.messages f i (t.time + pace.delay)) (λ o. o.by ≤ asked + delay) (λ o O. (let k = O.in_time in let z = same in omega arith)) (t.under_way f i) (X.under_way f i qf qi));
    }

  pub votes_alone : (ms : Monitors) (q : List Bool) (pace : Pace) (t : Timed) (u : ℕ) → MayBe ms q pace t u → asked + delay < u → Remains q t
      → (f i : ℕ) → has q f ≡ true → has q i ≡ true → AllVotes t.world.messages (t.under_way f i)
  votes_alone ms q pace t u M late R f i qf qi = by (t.under_way f i) refl (R.votes f i qf qi)
    where
      by : (os : List Owed) → t.under_way f i ≡ os → SoonThenVotes t.world.messages os → AllVotes t.world.messages os
      by [] is k = tt
      by (o ∷ os) is (inl k) = k
      by (o ∷ os) is (inr k) = (let l = M.messages f i qf qi o os is in let m = k.0 in absurd (omega arith))

  -- ---- an event

  module _ (ms : Monitors) (q : List Bool) (pace : Pace) (same : pace.delay ≡ delay) (E : Election) (t : Timed) (X : Elects ms q pace E t) (u : ℕ) (M : MayBe ms q pace t u) (next : Timed) (e : Event)
      (H : Handled ms q pace X.can.members t u next e) (sends : AllByRecursion (VotesOrAnswers H.came) (messages_of H.course.out)) (R : Remains q t) where
    abbrev count : ℕ
    count = length t.world.messages

    abbrev es : List Envelope
    es = messages_of H.course.out

    kept : (P : Body → Type 0) (o : Owed) → Says P t.world.messages o → Says P next.world.messages o
    kept P o k =
        let m = opened (λ (m : Envelope). P m.message.body) (message_at t.world.messages o.number) k in
        closed (λ (m : Envelope). P m.message.body) (message_at next.world.messages o.number) m.0 (still ms q pace t u next e H.left H.went H.i H.came H.state H.course H.how H.did o.number m.0 m.1) m.2

    -- it answers only what comes in time
    in_time : AsksIn H.came → u ≤ asked
    in_time k = by H.how
      where
        by : How ms q pace t u H.i H.came e H.left H.state → u ≤ asked
        by (first f qf o others m list there from came is rest) =
            let all = subst (AllByRecursion (λ o. Says (λ b. Asks b → o.by ≤ asked) t.world.messages o)) list (R.asks f H.i qf H.member) in
            let z = opened (λ (n : Envelope). Asks n.message.body → o.by ≤ asked) (message_at t.world.messages o.number) all.0 in
            let whole : z.0 ≡ record { to = H.i; message = m } = (let two : Some z.0 ≡ Some (record { to = H.i; message = m }) = sym z.1 ∙ there in cc) in
            let l = z.2 (subst (λ (n : Envelope). Asks n.message.body) (sym whole) (subst AsksIn came k)) in
            let w = M.messages f H.i qf H.member o others list in omega arith
        by (again n m there from call cand came is rest) = absurd (none m.body call (subst AsksIn came k))
          where
            none : (b : Body) → IsCall b → Asks b → ⊥
            none (body.Propose table) call a = a
            none other call a = call
        by (fires kind end on over came is rest) = absurd (subst AsksIn came k)
        by (asks session r came is rest) = absurd (subst AsksIn came k)

    asks_nothing : (m : Envelope) → VotesOrAnswers H.came m → Asks m.message.body → ⊥
    asks_nothing m (inl vote) a = none m.message.body vote a
      where
        none : (b : Body) → IsOfElections b → Asks b → ⊥
        none (body.Propose table) vote a = a
        none body.Ack vote a = a
        none other vote a = vote
    asks_nothing m (inr k) a = k.1 a

    asks_next : (f j : ℕ) → has q f ≡ true → has q j ≡ true → AllByRecursion (λ o. Says (λ b. Asks b → o.by ≤ asked) next.world.messages o) (next.under_way f j)
    asks_next f j qf qj = next_all ms q pace t u next e H.left H.went H.i H.came H.state H.course H.how H.did (λ o. Says (λ b. Asks b → o.by ≤ asked) next.world.messages o) f j
        (left_all ms q pace t u next e H.left H.went H.i H.came H.state H.course H.how H.did (λ o. Says (λ b. Asks b → o.by ≤ asked) next.world.messages o) f j
        (all_map (λ o. Says (λ b. Asks b → o.by ≤ asked) t.world.messages o) (λ o. Says (λ b. Asks b → o.by ≤ asked) next.world.messages o) (λ o. kept (λ b. Asks b → o.by ≤ asked) o) (t.under_way f j) (R.asks f j qf qj)))
        (λ d m there from to at. closed (λ (n : Envelope). Asks n.message.body → (u + pace.delay) ≤ asked) (message_at next.world.messages (suc count + d)) m at
        (λ a. absurd (asks_nothing m (at_place (VotesOrAnswers H.came) es d m sends there) a)))

    -- what was under way before
    left_soon : (f j : ℕ) → has q f ≡ true → has q j ≡ true → SoonThenVotes t.world.messages (H.left f j)
    left_soon f j qf qj = by H.how
      where
        by : How ms q pace t u H.i H.came e H.left H.state → SoonThenVotes t.world.messages (H.left f j)
        by (first g qg o others m list there from came is rest) = subst (λ (z : ℕ → ℕ → List Owed). SoonThenVotes t.world.messages (z f j)) (sym rest)
            (list_left g H.i others t.under_way (λ _ _ os. SoonThenVotes t.world.messages os) f j
            (fewer t.world.messages o others (subst (SoonThenVotes t.world.messages) list (R.votes g H.i qg H.member))) (R.votes f j qf qj))
        by (again n m there from call cand came is rest) = subst (λ (z : ℕ → ℕ → List Owed). SoonThenVotes t.world.messages (z f j)) (sym rest) (R.votes f j qf qj)
        by (fires kind end on over came is rest) = subst (λ (z : ℕ → ℕ → List Owed). SoonThenVotes t.world.messages (z f j)) (sym rest) (R.votes f j qf qj)
        by (asks session r came is rest) = subst (λ (z : ℕ → ℕ → List Owed). SoonThenVotes t.world.messages (z f j)) (sym rest) (R.votes f j qf qj)

    votes_next : (f j : ℕ) → has q f ≡ true → has q j ≡ true → SoonThenVotes next.world.messages (next.under_way f j)
    votes_next f j qf qj = elim (cases_lt (asked + delay) (u + pace.delay)) [
      | inr early ↦ all_soon next.world.messages (next.under_way f j)
          (next_all ms q pace t u next e H.left H.went H.i H.came H.state H.course H.how H.did (λ o. o.by ≤ asked + delay) f j
          (left_all ms q pace t u next e H.left H.went H.i H.came H.state H.course H.how H.did (λ o. o.by ≤ asked + delay) f j
          (all_map (IsOfElection E t.world.messages f j (t.time + pace.delay)) (λ o. o.by ≤ asked + delay) (λ o O. (let k = O.in_time in let l = M.later in omega arith)) (t.under_way f j) (X.under_way f j qf qj)))
          (λ d m there from to at. early))
      | inl late ↦ subst (SoonThenVotes next.world.messages) (sym (under_now ms q pace t u next e H.left H.went H.i H.came H.state H.course H.how H.did f j))
          (more_votes next.world.messages (H.left f j) (owed_by (u + pace.delay) (numbers f j (suc count) es))
          (same_soon t.world.messages next.world.messages (kept IsOfElections) (H.left f j) (left_soon f j qf qj)) (new_votes late))
    ]
      where
        vote : asked + delay < u + pace.delay → (m : Envelope) → VotesOrAnswers H.came m → IsOfElections m.message.body
        vote late m (inl k) = k
        vote late m (inr k) = let l = in_time k.0 in let z = same in absurd (omega arith)

        new_votes : asked + delay < u + pace.delay → AllVotes next.world.messages (owed_by (u + pace.delay) (numbers f j (suc count) es))
        new_votes late = all_owed (u + pace.delay) (numbers f j (suc count) es) (λ k. Says IsOfElections next.world.messages (record { number = k; by = u + pace.delay })) (Says IsOfElections next.world.messages) (λ k h. h)
            (all_numbers f j (suc count) es (λ k. Says IsOfElections next.world.messages (record { number = k; by = u + pace.delay }))
            (λ d m there from to. closed (λ (n : Envelope). IsOfElections n.message.body) (message_at next.world.messages (suc count + d)) m (new_at ms q pace t u next e H.left H.went H.i H.came H.state H.course H.how H.did d m there)
            (vote late m (at_place (VotesOrAnswers H.came) es d m sends there))))

    pub remains_next : Remains q next
    remains_next = record { asks = asks_next; votes = votes_next }
