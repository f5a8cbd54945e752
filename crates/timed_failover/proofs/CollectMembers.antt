-- A new leader still asks after a member heard its VICTORY, or its COLLECT.
use Rattle.law_names.proofs.Runs.{Envelope, Event, Monitors, messages_of}
use Rattle.law_names.proofs.Table.{AllByRecursion, Body, Course, Epoch, Fits, Input, Me, Promise, Readings, State, at_rest, epoch_of, has, message_to, play, played, promise_of, react, readings_of, shared_entries, votes}
use Rattle.mon_msg.specs.Protocol.Elections.{follow}
use Rattle.mon_msg.specs.declared.input.Input.TheVariants as input
use Rattle.mon_wire.specs.declared.body.Body.TheVariants as body
use Rattle.quorum_model.proofs.Members.{member_of}
use Rattle.quorum_stays.proofs.Carrying.{Gives}
use Rattle.quorum_stays.proofs.Onward.{here_left, one_state, other_left, pack, unpack}
use Rattle.quorum_stays.proofs.States.{begun_follows}
use Rattle.quorum_stays.proofs.Stepping.{Did}
use Rattle.quorum_stays.specs.Steady.{Carries, FollowsSince, Item, Reign, in_reign, item}
use Rattle.quorum_timed.specs.Timed.{Owed, Pace, Timed, Went, at_time, without_first}
use Rattle.quorum_walk.proofs.Parity.{even_of_odd}
use Rattle.std.proofs.Common.{Bool, IsSomeAnd, List, None, Ok, Some, [], ap, arith, false, inl, inr, ltb, refl, subst, suc, sym, true, ℕ, ◌&&◌, ◌*◌, ◌+◌, ◌^◌, ◌∙◌, ◌∷◌, ◌≡◌, ◌≤◌}
use Rattle.std.proofs.lemmas.Bool.{cases_eq}
use Rattle.std.proofs.lemmas.List.{append-nil}
use Rattle.table_rows.proofs.Electing.{victory_row}
use Rattle.timed_election.proofs.Coming.{How}
use Rattle.timed_election.specs.Election.{CanElect}
use Rattle.timed_failover.proofs.CollectKeeps.{L, R, gives_on, now_is, on_state, other_store}
use Rattle.timed_failover.proofs.CollectRows.{follows_since, promises}
use Rattle.timed_failover.specs.Collecting.{CanLearn, Collects, Electing, Following, IsAs, IsAsked, IsNear, IsNoted, IsStocked, IsWhole, KeepsAs, Promised, Query, Questioned, StillElects, answer_to, from_such, to_such}

-- one item may be due later
due_later : (ms : Monitors) (reign : Reign) (f j : ℕ) (messages : List Envelope) (top : ℕ) (b : Body) (by later : ℕ) → by ≤ later → (os : List Owed) → Carries ms reign messages f j top (item b by ∷ []) os → Carries ms reign messages f j top (item b later ∷ []) os
due_later ms reign f j messages top b by later le [] k = absurd cc
due_later ms reign f j messages top b by later le (o ∷ os) k = (
  k.0,
  elim k.1 [
    | inl a ↦ inl (a.0, (let z = a.1 in omega arith), due_later ms reign f j messages top b by later le os a.2)
    | inr h ↦ inr (
      item b later,
      [],
      refl,
      record { there = h.3.there ∙ ap (λ (z : Item). Some (in_reign ms reign f j z.body)) (sym (first h.0 h.1 h.2)); in_time = (let z = h.3.in_time in let w : by ≡ h.0.by = ap (λ (z : Item). z.by) (first h.0 h.1 h.2) in omega arith) },
      subst (λ (xs : List Item). Carries ms reign messages f j top xs os) (sym (rest h.0 h.1 h.2)) h.4,
    )
  ],
)
  where
    first : (y : Item) (ys : List Item) → item b by ∷ [] ≡ y ∷ ys → item b by ≡ y
    first y ys e = cc

    rest : (y : Item) (ys : List Item) → item b by ∷ [] ≡ y ∷ ys → [] ≡ ys
    rest y ys e = cc

module _ (ms : Monitors) (q : List Bool) (pace : Pace) (x : Query) (t : Timed) (X : IsAsked ms q pace x t) (u : ℕ) (later : t.time ≤ u) (next : Timed) (e : Event)
    (i : ℕ) (qi : has q i ≡ true) (ni : i ≡ L ms q pace x → ⊥) (others : List Owed) (went : Went ms q pace (at_time ms q pace u t) e (without_first x.election.best i others t.under_way) next)
    (came : Input) (s : State) (up : t.world.state i ≡ Some s) (y : Course) (how : How ms q pace t u i came e (without_first x.election.best i others t.under_way) s)
    (D : Did t.world next.world i y.state y.changes (messages_of y.out)) where
  abbrev best : ℕ
  best = x.election.best

  abbrev left : ℕ → ℕ → List Owed
  left = without_first best i others t.under_way

  abbrev w : Readings
  w = readings_of (t.world.store i)

  -- another member, or the leader
  store : (P : Readings → Type 0) (j : ℕ) → (j ≡ i → ⊥) → P (readings_of (t.world.store j)) → P (readings_of (next.world.store j))
  store P j ne k = other_store ms q pace x t u later next e left went i came s up y how D P j ne k

  state : (P Q : State → Type 0) (j : ℕ) → (j ≡ i → ⊥) → ((z : State) → P z → Q z) → IsSomeAnd (t.world.state j) P → IsSomeAnd (next.world.state j) Q
  state P Q j ne f k = on_state ms q pace x t u later next e left went i came s up y how D P Q j (λ same. absurd (ne same)) (λ _ z h. f z h) k

  at : next.time ≡ u
  at = now_is ms q pace x t u later next e left went i came s up y how D

  -- nothing was sent on a channel whose messages are left
  same : (f j : ℕ) (xs : List Item) → Carries ms (R ms q pace x) t.world.messages f j (t.time + pace.delay) xs (left f j) → Gives ms (R ms q pace x) f j [] (messages_of y.out)
      → Carries ms (R ms q pace x) next.world.messages f j (next.time + pace.delay) xs (next.under_way f j)
  same f j xs k G = subst (λ (z : List Item). Carries ms (R ms q pace x) next.world.messages f j (next.time + pace.delay) z (next.under_way f j)) (append-nil xs)
      (gives_on ms q pace x t u later next e left went i came s up y how D f j xs [] k G)

  kept : (f j : ℕ) (xs : List Item) → (f ≡ best → j ≡ i → ⊥) → Carries ms (R ms q pace x) t.world.messages f j (t.time + pace.delay) xs (t.under_way f j) → Carries ms (R ms q pace x) t.world.messages f j (t.time + pace.delay) xs (left f j)
  kept f j xs ne k = subst (Carries ms (R ms q pace x) t.world.messages f j (t.time + pace.delay) xs) (sym (other_left best i others t.under_way f j ne)) k

  abbrev Here : Type 0
  Here = Questioned ms q pace x next.world.messages next.time i (next.world.state i) (next.world.state best) (readings_of (next.world.store best)) (readings_of (next.world.store i)) (next.under_way best i) (next.under_way i best)

  module _ (G : Here) (gives : (f j : ℕ) → (f ≡ i → j ≡ best → ⊥) → Gives ms (R ms q pace x) f j [] (messages_of y.out)) where
    other_best : best ≡ i → ⊥
    other_best is = ni (sym is)

    questioned : (j : ℕ) → has q j ≡ true → (j ≡ best → ⊥)
        → Questioned ms q pace x next.world.messages next.time j (next.world.state j) (next.world.state best) (readings_of (next.world.store best)) (readings_of (next.world.store j)) (next.under_way best j) (next.under_way j best)
    questioned j qj nj = elim (cases_eq j i) [
      | inl is ↦ subst (λ (z : ℕ). Questioned ms q pace x next.world.messages next.time z (next.world.state z) (next.world.state best) (readings_of (next.world.store best)) (readings_of (next.world.store z)) (next.under_way best z) (next.under_way z best)) (sym is) G
      | inr ne ↦ (let F = X.others j qj nj in record {
        progress = F.progress;
        is_as = state (IsAs ms.count pace x q j F.progress) (IsAs ms.count pace x q j F.progress) j ne (λ z k. k) F.is_as;
        keeps = store (KeepsAs ms.count pace x F.progress) j ne F.keeps;
        stocked = store (IsStocked x.version x.value) j ne F.stocked;
        whole = store (λ w. IsWhole (answer_to ms.count x.pn x.last w)) j ne F.whole;
        noted = store (λ l. IsSomeAnd (next.world.state best) (IsNoted ms.count pace x j l (readings_of (next.world.store j)) F.progress)) best other_best
            (store (λ w. IsSomeAnd (next.world.state best) (IsNoted ms.count pace x j (readings_of (t.world.store best)) w F.progress)) j ne
            (state (IsNoted ms.count pace x j (readings_of (t.world.store best)) (readings_of (t.world.store j)) F.progress) (IsNoted ms.count pace x j (readings_of (t.world.store best)) (readings_of (t.world.store j)) F.progress) best other_best (λ z k. k) F.noted));
        to_come = same best j (to_such ms.count pace x q F.progress) (kept best j _ (λ _ is. ne is) F.to_come) (gives best j (λ is _. ni (sym is)));
        to_take = store (λ w. Carries ms (R ms q pace x) next.world.messages j best (next.time + pace.delay) (from_such ms.count pace x F.progress w) (next.under_way j best)) j ne
            (same j best (from_such ms.count pace x F.progress (readings_of (t.world.store j))) (kept j best _ (λ is _. nj is) F.to_take) (gives j best (λ is _. ne is)));
      })
    ]

    pub member_moved : IsAsked ms q pace x next
    member_moved = record {
      can = X.can;
      odd = X.odd;
      second = X.second;
      second_in = X.second_in;
      second_is = X.second_is;
      ranks = X.ranks;
      short = X.short;
      fits = X.fits;
      room = X.room;
      early = X.early;
      close = X.close;
      since = X.since;
      begun = (let a = X.begun in let c = at in omega arith);
      after = X.after;
      made = X.made;
      epoch = store (λ w. epoch_of w ≡ suc x.election.epoch) best other_best X.epoch;
      promise = store (λ w. promise_of w ≡ x.pn) best other_best X.promise;
      near = store (IsNear x.version x.value) best other_best X.near;
      learns = store (CanLearn x.version x.value) best other_best X.learns;
      grown = store (λ w. x.last ≤ w.last) best other_best X.grown;
      lead = store (λ w. IsSomeAnd (next.world.state best) (Collects ms.count q x (x.won + pace.clock x.election.best) w)) best other_best
          (state (Collects ms.count q x (x.won + pace.clock x.election.best) (readings_of (t.world.store best))) (Collects ms.count q x (x.won + pace.clock x.election.best) (readings_of (t.world.store best))) best other_best (λ z k. k) X.lead);
      others = questioned;
      apart = λ f j qf qj own. same f j [] (kept f j [] (λ is same. ni (sym same ∙ own.0 is)) (X.apart f j qf qj own)) (gives f j (λ is same. ni (sym is ∙ own.1 same)));
    }

  -- ---- what it hears

  module _ (lt : ltb i ms.count ≡ true) (room : u + pace.clock i + 10000 ≤ 2 ^ 62) (reacts : react (member_of ms i lt) (shared_entries (t.world.store i)) (u + pace.clock i) w s came ≡ Ok y) where
    abbrev me : Me
    me = member_of ms i lt

    abbrev now : ℕ
    now = u + pace.clock i

    abbrev C : CanElect ms q best
    C = X.can

    -- the VICTORY
    pub hears_victory : came ≡ input.Deliver ((in_reign ms (R ms q pace x) best i (body.Victory q)).message) → IsSomeAnd (t.world.state i) (IsAs ms.count pace x q i Electing) → KeepsAs ms.count pace x Electing w
        → IsStocked x.version x.value w → IsWhole (answer_to ms.count x.pn x.last w) → IsSomeAnd (t.world.state best) (IsNoted ms.count pace x i (readings_of (t.world.store best)) w Electing)
        → Carries ms (R ms q pace x) t.world.messages best i (t.time + pace.delay) (to_such ms.count pace x q Following) others → Carries ms (R ms q pace x) t.world.messages i best (t.time + pace.delay) [] (t.under_way i best)
        → IsAsked ms q pace x next
    hears_victory is role keeps stocked whole noted down upward = member_moved G (λ f j _. silent f j)
      where
        P : StillElects q pace x i s
        P = let o = unpack (IsAs ms.count pace x q i Electing) (t.world.state i) role in subst (IsAs ms.count pace x q i Electing) (one_state (t.world.state i) o.0 s o.1 up) o.2

        row : y ≡ follow now best (suc x.election.epoch) q (at_rest w s)
        row = let same : Ok (follow now best (suc x.election.epoch) q (at_rest w s)) ≡ Ok y =
            sym (victory_row me (shared_entries (t.world.store i)) now w s (suc x.election.epoch) q (λ e. ni (sym e)) (ap votes P.elects) (even_of_odd x.election.epoch X.odd) (ap suc (sym keeps.0)) (λ j. qi j && C.member j && C.major j))
            ∙ ap (λ (c : Input). react me (shared_entries (t.world.store i)) now w s c) (sym is) ∙ reacts in cc

        silent : (f j : ℕ) → Gives ms (R ms q pace x) f j [] (messages_of y.out)
        silent f j = subst (λ (z : Course). Gives ms (R ms q pace x) f j [] (messages_of z.out)) (sym row) refl

        store_is : readings_of (next.world.store i) ≡ play (Epoch (suc x.election.epoch)) w
        store_is = (subst (λ (z : Course). AllByRecursion Fits z.changes → readings_of (next.world.store i) ≡ played z.changes w) row D.kept) (X.room, tt)

        G : Here
        G = record {
          progress = Following;
          is_as = pack (IsAs ms.count pace x q i Following) (next.world.state i) y.state D.up
              (subst (λ (z : Course). FollowsSince best q (x.won + pace.clock i) z.state) (sym row) (follows_since now best (x.won + pace.clock i) (suc x.election.epoch) q w s P.elects P.only room (let a = X.begun in omega arith)));
          keeps = subst (KeepsAs ms.count pace x Following) (sym store_is) (refl, keeps.1);
          stocked = subst (IsStocked x.version x.value) (sym store_is) (record { near = stocked.near; low = stocked.low; made = stocked.made });
          whole = subst (λ w. IsWhole (answer_to ms.count x.pn x.last w)) (sym store_is) whole;
          noted = store (λ l. IsSomeAnd (next.world.state best) (IsNoted ms.count pace x i l (readings_of (next.world.store i)) Following)) best (λ e. ni (sym e))
              (state (IsNoted ms.count pace x i (readings_of (t.world.store best)) w Electing) (IsNoted ms.count pace x i (readings_of (t.world.store best)) (readings_of (next.world.store i)) Following) best (λ e. ni (sym e)) (λ z k. k) noted);
          to_come = same best i (to_such ms.count pace x q Following) (subst (Carries ms (R ms q pace x) t.world.messages best i (t.time + pace.delay) (to_such ms.count pace x q Following)) (sym (here_left best i others t.under_way)) down) (silent best i);
          to_take = same i best [] (kept i best [] (λ e _. ni e) upward) (silent i best);
        }

    abbrev answered : Course
    answered = record {
      readings = play (Promise x.pn) w;
      changes = Promise x.pn ∷ [];
      state = record s { peon = record s.peon { lease = None } };
      out = message_to me (epoch_of w) (answer_to ms.count x.pn x.last w) best ∷ [];
    }

    -- the COLLECT
    pub hears_collect : came ≡ input.Deliver ((in_reign ms (R ms q pace x) best i (body.Collect x.pn x.first x.last)).message) → ltb (suc w.last) x.first ≡ false → suc x.last ≤ 2 ^ 62
        → IsSomeAnd (t.world.state i) (IsAs ms.count pace x q i Following) → KeepsAs ms.count pace x Following w
        → IsStocked x.version x.value w → IsWhole (answer_to ms.count x.pn x.last w) → IsSomeAnd (t.world.state best) (IsNoted ms.count pace x i (readings_of (t.world.store best)) w Following) → u ≤ x.won + pace.delay
        → Carries ms (R ms q pace x) t.world.messages best i (t.time + pace.delay) [] others → Carries ms (R ms q pace x) t.world.messages i best (t.time + pace.delay) [] (t.under_way i best)
        → IsAsked ms q pace x next
    hears_collect is first fits role keeps stocked whole noted soon down upward = member_moved G (λ f j ne. silent f j ne)
      where
        P : FollowsSince best q (x.won + pace.clock i) s
        P = let o = unpack (FollowsSince best q (x.won + pace.clock i)) (t.world.state i) role in subst (FollowsSince best q (x.won + pace.clock i)) (one_state (t.world.state i) o.0 s o.1 up) o.2

        row : y ≡ answered
        row = let same : Ok answered ≡ Ok y =
            sym (promises me (shared_entries (t.world.store i)) now w s best (suc x.election.epoch) x.pn x.first x.last (record { other = λ e. ni (sym e); follows = P.follows; epoch = keeps.0; leader = P.leader_is }) first fits keeps.1)
            ∙ ap (λ (c : Input). react me (shared_entries (t.world.store i)) now w s c) (sym is) ∙ reacts in cc

        sent : messages_of y.out ≡ in_reign ms (R ms q pace x) i best (answer_to ms.count x.pn x.last w) ∷ []
        sent = ap (λ (z : Course). messages_of z.out) row ∙ ap (λ (k : ℕ). messages_of (message_to me k (answer_to ms.count x.pn x.last w) best ∷ [])) keeps.0

        silent : (f j : ℕ) → (f ≡ i → j ≡ best → ⊥) → Gives ms (R ms q pace x) f j [] (messages_of y.out)
        silent f j ne = subst (Gives ms (R ms q pace x) f j []) (sym sent) (inl ((λ from to. ne (sym from) (sym to)), refl))

        store_is : readings_of (next.world.store i) ≡ play (Promise x.pn) w
        store_is = (subst (λ (z : Course). AllByRecursion Fits z.changes → readings_of (next.world.store i) ≡ played z.changes w) row D.kept) (X.short, tt)

        G : Here
        G = record {
          progress = Promised;
          is_as = pack (IsAs ms.count pace x q i Promised) (next.world.state i) y.state D.up
              (subst (λ (z : Course). FollowsSince best q (x.won + pace.clock i) z.state) (sym row) (begun_follows best q (x.won + pace.clock i) s P));
          keeps = subst (KeepsAs ms.count pace x Promised) (sym store_is) (keeps.0, refl);
          stocked = subst (IsStocked x.version x.value) (sym store_is) (record { near = stocked.near; low = stocked.low; made = stocked.made });
          whole = subst (λ w. IsWhole (answer_to ms.count x.pn x.last w)) (sym store_is) whole;
          noted = store (λ l. IsSomeAnd (next.world.state best) (IsNoted ms.count pace x i l (readings_of (next.world.store i)) Promised)) best (λ e. ni (sym e))
              (state (IsNoted ms.count pace x i (readings_of (t.world.store best)) w Following) (IsNoted ms.count pace x i (readings_of (t.world.store best)) (readings_of (next.world.store i)) Promised) best (λ e. ni (sym e)) (λ z k. k) noted);
          to_come = same best i [] (subst (Carries ms (R ms q pace x) t.world.messages best i (t.time + pace.delay) []) (sym (here_left best i others t.under_way)) down) (silent best i (λ e _. ni (sym e)));
          to_take = subst (λ w. Carries ms (R ms q pace x) next.world.messages i best (next.time + pace.delay) (from_such ms.count pace x Promised w) (next.under_way i best)) (sym store_is)
              (answers (gives_on ms q pace x t u later next e left went i came s up y how D i best [] (answer_to ms.count x.pn x.last w ∷ []) (kept i best [] (λ e _. ni e) upward)
              (subst (Gives ms (R ms q pace x) i best (answer_to ms.count x.pn x.last w ∷ [])) (sym sent) (inr (inr (answer_to ms.count x.pn x.last w, [], refl, refl, refl))))));
        }
          where
            -- it arrives within two delays after the victory
            answers : Carries ms (R ms q pace x) next.world.messages i best (next.time + pace.delay) (item (answer_to ms.count x.pn x.last w) (u + pace.delay) ∷ []) (next.under_way i best)
                → Carries ms (R ms q pace x) next.world.messages i best (next.time + pace.delay) (item (answer_to ms.count x.pn x.last w) (x.won + 2 * pace.delay) ∷ []) (next.under_way i best)
            answers k = due_later ms (R ms q pace x) i best next.world.messages (next.time + pace.delay) (answer_to ms.count x.pn x.last w) (u + pace.delay) (x.won + 2 * pace.delay) (omega arith) (next.under_way i best) k
