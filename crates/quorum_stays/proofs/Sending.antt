-- What a leader sends to each member of its quorum.
use Rattle.law_names.proofs.Runs.{Envelope, Monitors, messages_of}
use Rattle.law_names.proofs.Table.{AllByRecursion, Body, Me, has, is_empty, members, message_to, range_with_len}
use Rattle.quorum_stays.proofs.Carrying.{Gives}
use Rattle.quorum_stays.specs.Steady.{Reign}
use Rattle.std.proofs.Common.{Bool, List, [], arith, cond, eqb, false, filter, inl, inr, map, not, refl, subst, suc, sym, true, zero, ℕ, ◌&&◌, ◌+◌, ◌<◌, ◌∙◌, ◌∷◌, ◌≡◌, ◌≤◌, ◌⊎◌}
use Rattle.std.proofs.lemmas.Bool.{and_parts, cases_eq, cond_both, eq-eqb, false≢true, ne_eqb, not-true}

abbrev pub each : Me → (e : ℕ) → Body → List ℕ → List Envelope
each me e b ks = messages_of (map (message_to me e b) ks)

-- all are from the leader
pub each_from : (me : Me) (e : ℕ) (b : Body) (f : ℕ) → (me.member.rank ≡ f → ⊥) → (ks : List ℕ) → AllByRecursion (λ (m : Envelope). m.message.from ≡ f → ⊥) (each me e b ks)
each_from me e b f ne [] = tt
each_from me e b f ne (k ∷ ks) = (ne, each_from me e b f ne ks)

-- ---- ranks

later_ranks : (p : ℕ → Bool) (j len from : ℕ) → j < from → AllByRecursion (λ k. k ≡ j → ⊥) (filter p (range_with_len from len))
later_ranks p j zero from lt = tt
later_ranks p j (suc len) from lt =
    cond_both (p from) (from ∷ filter p (range_with_len (from + 1) len)) (filter p (range_with_len (from + 1) len)) (AllByRecursion (λ k. k ≡ j → ⊥))
    (λ _. ((λ e. omega arith), later_ranks p j len (from + 1) (omega arith))) (λ _. later_ranks p j len (from + 1) (omega arith))

-- none of the members is the leader
pub none_own : (q : List Bool) (r : ℕ) (len from : ℕ) → AllByRecursion (λ k. k ≡ r → ⊥) (filter (λ k. has q k && not (eqb k r)) (range_with_len from len))
none_own q r zero from = tt
none_own q r (suc len) from =
    cond_both (has q from && not (eqb from r)) (from ∷ filter (λ k. has q k && not (eqb k r)) (range_with_len (from + 1) len)) (filter (λ k. has q k && not (eqb k r)) (range_with_len (from + 1) len)) (AllByRecursion (λ k. k ≡ r → ⊥))
    (λ t. (let parts = and_parts (has q from) (not (eqb from r)) t in ((λ e. false≢true (sym (not-true (eqb from r) parts.1) ∙ eq-eqb from r e)), none_own q r len (from + 1)))) (λ _. none_own q r len (from + 1))

-- ---- what is sent

module _ (ms : Monitors) (reign : Reign) (me : Me) (b : Body) (rank : me.member.rank ≡ reign.leader) (monitors : me.member.monitors ≡ ms.count) where
  pub gives_away : (f j : ℕ) (ks : List ℕ) → AllByRecursion (λ k. k ≡ j → ⊥) ks → Gives ms reign f j [] (each me reign.epoch b ks)
  gives_away f j [] all = refl
  gives_away f j (k ∷ ks) all = inl ((λ _ e. all.0 e), gives_away f j ks all.1)

  once : (p : ℕ → Bool) (j : ℕ) → p j ≡ true → (len from : ℕ) → from ≤ j → j < from + len → Gives ms reign reign.leader j (b ∷ []) (each me reign.epoch b (filter p (range_with_len from len)))
  once p j pj zero from le lt = absurd (omega arith)
  once p j pj (suc len) from le lt = by (cases_eq j from) (once p j pj len (from + 1))
    where
      by : (j ≡ from) ⊎ (j ≡ from → ⊥) → (from + 1 ≤ j → j < from + 1 + len → Gives ms reign reign.leader j (b ∷ []) (each me reign.epoch b (filter p (range_with_len (from + 1) len))))
          → Gives ms reign reign.leader j (b ∷ []) (each me reign.epoch b (cond (p from) (from ∷ filter p (range_with_len (from + 1) len)) (filter p (range_with_len (from + 1) len))))
      by (inl is) go =
          let here : p from ≡ true = subst (λ (z : ℕ). p z ≡ true) is pj in
          rw here (inr (inr (
            b,
            [],
            refl,
            (λ i. record { to = sym is i; message = record { from = rank i; monitors = monitors i; epoch = reign.epoch; body = b } }),
            gives_away reign.leader j (filter p (range_with_len (from + 1) len)) (later_ranks p j len (from + 1) (omega arith)),
          )))
      by (inr ne) go = cond_both (p from) (from ∷ filter p (range_with_len (from + 1) len)) (filter p (range_with_len (from + 1) len)) (λ (ks : List ℕ). Gives ms reign reign.leader j (b ∷ []) (each me reign.epoch b ks))
          (λ _. inl ((λ _ e. ne (sym e)), go (omega arith) (omega arith))) (λ _. go (omega arith) (omega arith))

  -- one goes to each other member
  pub to_member : (q : List Bool) (j : ℕ) → has q j ≡ true → (j ≡ me.member.rank → ⊥) → j < me.member.monitors → Gives ms reign reign.leader j (b ∷ []) (each me reign.epoch b (members me q))
  to_member q j qj ne lt =
      let other : eqb j me.member.rank ≡ false = ne_eqb j me.member.rank ne in
      let inside : (has q j && not (eqb j me.member.rank)) ≡ true = rw (qj, other) refl in
      once (λ k. has q k && not (eqb k me.member.rank)) j inside me.member.monitors 0 (omega arith) (omega arith)

  -- none to the leader itself
  pub to_none : (q : List Bool) (f : ℕ) → Gives ms reign f me.member.rank [] (each me reign.epoch b (members me q))
  to_none q f = gives_away f me.member.rank (members me q) (none_own q me.member.rank me.member.monitors 0)

-- there is another member
some_there : (p : ℕ → Bool) (j : ℕ) → p j ≡ true → (len from : ℕ) → from ≤ j → j < from + len → is_empty (filter p (range_with_len from len)) ≡ false
some_there p j pj zero from le lt = absurd (omega arith)
some_there p j pj (suc len) from le lt = by (cases_eq j from) (some_there p j pj len (from + 1))
  where
    by : (j ≡ from) ⊎ (j ≡ from → ⊥) → (from + 1 ≤ j → j < from + 1 + len → is_empty (filter p (range_with_len (from + 1) len)) ≡ false)
        → is_empty (cond (p from) (from ∷ filter p (range_with_len (from + 1) len)) (filter p (range_with_len (from + 1) len))) ≡ false
    by (inl is) go = let here : p from ≡ true = subst (λ (z : ℕ). p z ≡ true) is pj in rw here refl
    by (inr ne) go = cond_both (p from) (from ∷ filter p (range_with_len (from + 1) len)) (filter p (range_with_len (from + 1) len)) (λ (ks : List ℕ). is_empty ks ≡ false) (λ _. refl) (λ _. go (omega arith) (omega arith))

pub not_alone : (me : Me) (q : List Bool) (j : ℕ) → has q j ≡ true → (j ≡ me.member.rank → ⊥) → j < me.member.monitors → is_empty (members me q) ≡ false
not_alone me q j qj ne lt =
    let other : eqb j me.member.rank ≡ false = ne_eqb j me.member.rank ne in
    let inside : (has q j && not (eqb j me.member.rank)) ≡ true = rw (qj, other) refl in
    some_there (λ k. has q k && not (eqb k me.member.rank)) j inside me.member.monitors 0 (omega arith) (omega arith)
