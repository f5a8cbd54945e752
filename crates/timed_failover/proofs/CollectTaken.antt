-- A new leader takes the LAST of a member. It goes on asking if others are missing.
use Rattle.law_names.proofs.Runs.{Envelope, Event, Monitors, messages_of}
use Rattle.law_names.proofs.Table.{AllByRecursion, Body, Change, Course, Fits, Found, Input, Me, Readings, State, Vote, are_within, be_active, begin_with, commits_to, end_of, epoch_of, flat_map, has, members, most_value, only, pending, play, played, promise_of, react, readings_of, record_at, settle, shared_entries, text, with_rank}
use Rattle.log_model.proofs.Lists.{all_append}
use Rattle.mon_msg.specs.declared.input.Input.TheVariants as input
use Rattle.mon_msg.specs.declared.paxos.LeaderStage.TheVariants as stage
use Rattle.mon_wire.specs.declared.body.Body.TheVariants as body
use Rattle.mon_wire.specs.declared.phase.Phase.TheVariants as phase
use Rattle.mon_wire.specs.declared.phase.Timer.TheVariants as timer
use Rattle.quorum_model.proofs.Members.{member_of}
use Rattle.quorum_stays.proofs.Carrying.{Gives, due_at, gives_append, gives_other}
use Rattle.quorum_stays.proofs.Onward.{here_left, one_state, other_left, pack, unpack}
use Rattle.quorum_stays.proofs.Sending.{each, each_from, not_alone, to_member, to_none}
use Rattle.quorum_stays.proofs.Stepping.{Did}
use Rattle.quorum_stays.specs.Steady.{AreApart, Carries, FollowsSince, IsOfCommand, Item, LeadsSince, ProposesSince, Reign, in_reign}
use Rattle.quorum_timed.specs.Timed.{Owed, Pace, Timed, Went, at_time, without_first}
use Rattle.quorum_walk.proofs.Ranks.{has_only_is, has_with_is, within_at}
use Rattle.quorum_walk.proofs.Sparing.{played_more}
use Rattle.std.proofs.Common.{Bool, IsSomeAnd, List, None, Ok, Some, [], ap, arith, cond, false, inl, inr, is_some, length, ltb, refl, slice_index_or, subst, suc, sym, true, ℕ, ◌*◌, ◌++◌, ◌+◌, ◌<◌, ◌^◌, ◌∙◌, ◌∷◌, ◌≡◌, ◌≤◌, ◌⊎◌}
use Rattle.std.proofs.lemmas.Bool.{cases_eq, cases_order, false≢true, ltb-false, ltb-true}
use Rattle.timed_election.proofs.Coming.{How}
use Rattle.timed_election.proofs.Lists.{opened}
use Rattle.timed_election.specs.Election.{CanElect}
use Rattle.timed_failover.proofs.CollectActs.{Goes, behind, caught_up, commits_give, commits_none, goes, leads_since, proposes, proposes_accepted, proposes_changes, proposes_out, proposes_since, serves, serves_changes, serves_out, settled}
use Rattle.timed_failover.proofs.CollectKeeps.{IsApart, R, apart_on, gives_on, now_is, on_state, other_store}
use Rattle.timed_failover.proofs.CollectLeaders.{Learns, Takes, found_fine, noted, notes_it, notes_others, still_collects, takes}
use Rattle.timed_failover.specs.Collecting.{CanLearn, Collects, Electing, Following, IsAs, IsAsked, IsNear, IsNoted, IsStocked, IsWhole, KeepsAs, Noted, Progress, Promised, Query, Questioned, answer_to, from_such, to_such}
use Rattle.timed_failover.specs.Settling.{Behind, KeepsAs as SettlerKeeps, KeepsAtFirst, Level, Opener, Opens, Progress as SettlerProgress, Settler, Settles, Settling, first_items, from_such as leader_items, is_counted, to_such as peon_items}

module _ (ms : Monitors) (q : List Bool) (pace : Pace) (x : Query) (t : Timed) (X : IsAsked ms q pace x t) (u : ℕ) (later : t.time ≤ u) (next : Timed) (e : Event)
    (f : ℕ) (qf : has q f ≡ true) (nf : f ≡ x.election.best → ⊥) (others : List Owed) (went : Went ms q pace (at_time ms q pace u t) e (without_first f x.election.best others t.under_way) next)
    (came : Input) (s : State) (up : t.world.state x.election.best ≡ Some s) (y : Course) (how : How ms q pace t u x.election.best came e (without_first f x.election.best others t.under_way) s)
    (D : Did t.world next.world x.election.best y.state y.changes (messages_of y.out))
    (lt : ltb x.election.best ms.count ≡ true) (reacts : react (member_of ms x.election.best lt) (shared_entries (t.world.store x.election.best)) (u + pace.clock x.election.best) (readings_of (t.world.store x.election.best)) s came ≡ Ok y)
    (is : came ≡ input.Deliver ((in_reign ms (R ms q pace x) f x.election.best (answer_to ms.count x.pn x.last (readings_of (t.world.store f)))).message))
    (role : IsSomeAnd (t.world.state f) (IsAs ms.count pace x q f Promised)) (keeps : KeepsAs ms.count pace x Promised (readings_of (t.world.store f))) (stocked : IsStocked x.version x.value (readings_of (t.world.store f)))
    (whole : IsWhole (answer_to ms.count x.pn x.last (readings_of (t.world.store f)))) (before : IsSomeAnd (t.world.state x.election.best) (IsNoted ms.count pace x f (readings_of (t.world.store x.election.best)) (readings_of (t.world.store f)) Promised))
    (down : Carries ms (R ms q pace x) t.world.messages x.election.best f (t.time + pace.delay) [] (t.under_way x.election.best f)) (upward : Carries ms (R ms q pace x) t.world.messages f x.election.best (t.time + pace.delay) [] others) where
  abbrev best : ℕ
  best = x.election.best

  abbrev left : ℕ → ℕ → List Owed
  left = without_first f best others t.under_way

  abbrev w : Readings
  w = readings_of (t.world.store best)

  abbrev v : Readings
  v = readings_of (t.world.store f)

  abbrev me : Me
  me = member_of ms best lt

  abbrev now : ℕ
  now = u + pace.clock best

  abbrev C : CanElect ms q best
  C = X.can

  K : Collects ms.count q x (x.won + pace.clock best) w s
  K = let o = unpack (Collects ms.count q x (x.won + pace.clock best) w) (t.world.state best) X.lead in subst (Collects ms.count q x (x.won + pace.clock best) w) (one_state (t.world.state best) o.0 s o.1 up) o.2

  abbrev at_leader : State
  at_leader = record s { phase = phase.Collecting }

  same_state : s ≡ at_leader
  same_state = let p = K.collects in (λ i. record s { phase = p i })

  T : Takes ms q pace x (x.won + pace.clock best) lt (shared_entries (t.world.store best)) now w s K X.epoch X.near X.learns X.grown X.close X.fits X.made f qf nf (C.members f qf) v stocked whole (Ok y)
  T = let k = takes ms q pace x (x.won + pace.clock best) lt (shared_entries (t.world.store best)) now w s K X.epoch X.near X.learns X.grown X.close X.fits X.made f qf nf (C.members f qf) v stocked whole in record {
    readings = k.readings;
    changes = k.changes;
    learns = k.learns;
    is = sym (subst (λ (z : State). react me (shared_entries (t.world.store best)) now w z came ≡ Ok y) same_state reacts) ∙ ap (λ (c : Input). react me (shared_entries (t.world.store best)) now w at_leader c) is ∙ k.is;
  }

  G : Learns x v w T.readings T.changes
  G = T.learns

  abbrev after : State
  after = noted ms q pace x (x.won + pace.clock best) lt (shared_entries (t.world.store best)) now w s K X.epoch X.near X.learns X.grown X.close X.fits X.made f qf nf (C.members f qf) v stocked whole T.readings T.changes G

  abbrev course : Course
  course = record { readings = T.readings; changes = T.changes; state = after; out = [] }

  -- ---- what stays

  store : (P : Readings → Type 0) (j : ℕ) → (j ≡ best → ⊥) → P (readings_of (t.world.store j)) → P (readings_of (next.world.store j))
  store P j ne k = other_store ms q pace x t u later next e left went best came s up y how D P j ne k

  state : (P Q : State → Type 0) (j : ℕ) → (j ≡ best → ⊥) → ((z : State) → P z → Q z) → IsSomeAnd (t.world.state j) P → IsSomeAnd (next.world.state j) Q
  state P Q j ne g k = on_state ms q pace x t u later next e left went best came s up y how D P Q j (λ same. absurd (ne same)) (λ _ z h. g z h) k

  at : next.time ≡ u
  at = now_is ms q pace x t u later next e left went best came s up y how D

  kept : (g j : ℕ) (xs : List Item) → (g ≡ f → j ≡ best → ⊥) → Carries ms (R ms q pace x) t.world.messages g j (t.time + pace.delay) xs (t.under_way g j) → Carries ms (R ms q pace x) t.world.messages g j (t.time + pace.delay) xs (left g j)
  kept g j xs ne k = subst (Carries ms (R ms q pace x) t.world.messages g j (t.time + pace.delay) xs) (sym (other_left f best others t.under_way g j ne)) k

  popped : Carries ms (R ms q pace x) t.world.messages f best (t.time + pace.delay) [] (left f best)
  popped = subst (Carries ms (R ms q pace x) t.world.messages f best (t.time + pace.delay) []) (sym (here_left f best others t.under_way)) upward

  -- ---- others are missing

  module _ (y_is : y ≡ course) (more : are_within ms.count q (with_rank s.leader.answered f) ≡ false) where
    same : (g j : ℕ) (xs : List Item) → Carries ms (R ms q pace x) t.world.messages g j (t.time + pace.delay) xs (left g j) → Carries ms (R ms q pace x) next.world.messages g j (next.time + pace.delay) xs (next.under_way g j)
    same g j xs k = apart_on ms q pace x t u later next e left went best came s up y how D (subst (λ (z : Course). AllByRecursion (IsApart ms q pace x) (messages_of z.out)) (sym y_is) tt) g j xs k

    store_is : readings_of (next.world.store best) ≡ T.readings
    store_is = (subst (λ (z : Course). AllByRecursion Fits z.changes → readings_of (next.world.store best) ≡ played z.changes w) y_is D.kept) G.fits ∙ sym G.after

    up_now : next.world.state best ≡ Some after
    up_now = subst (λ (z : Course). next.world.state best ≡ Some z.state) y_is D.up

    noted_now : (j : ℕ) (z : Readings) (P : State → Type 0) → P after → IsSomeAnd (next.world.state best) P
    noted_now j z P k = pack P (next.world.state best) after up_now k

    questioned : (j : ℕ) → has q j ≡ true → (j ≡ best → ⊥)
        → Questioned ms q pace x next.world.messages next.time j (next.world.state j) (next.world.state best) (readings_of (next.world.store best)) (readings_of (next.world.store j)) (next.under_way best j) (next.under_way j best)
    questioned j qj nj = elim (cases_eq j f) [
      | inl same_f ↦ subst (λ (z : ℕ). Questioned ms q pace x next.world.messages next.time z (next.world.state z) (next.world.state best) (readings_of (next.world.store best)) (readings_of (next.world.store z)) (next.under_way best z) (next.under_way z best)) (sym same_f) (record {
        progress = Noted;
        is_as = state (IsAs ms.count pace x q f Promised) (IsAs ms.count pace x q f Noted) f nf (λ z k. k) role;
        keeps = store (KeepsAs ms.count pace x Noted) f nf keeps;
        stocked = store (IsStocked x.version x.value) f nf stocked;
        whole = store (λ z. IsWhole (answer_to ms.count x.pn x.last z)) f nf whole;
        noted = store (λ z. IsSomeAnd (next.world.state best) (IsNoted ms.count pace x f (readings_of (next.world.store best)) z Noted)) f nf
            (subst (λ (l : Readings). IsSomeAnd (next.world.state best) (IsNoted ms.count pace x f l v Noted)) (sym store_is)
            (noted_now f v (IsNoted ms.count pace x f T.readings v Noted) (notes_it ms q pace x (x.won + pace.clock best) lt (shared_entries (t.world.store best)) now w s K X.epoch X.near X.learns X.grown X.close X.fits X.made f qf nf (C.members f qf) v stocked whole T.readings T.changes G Promised mine)));
        to_come = same best f [] (kept best f [] (λ is _. nf (sym is)) down);
        to_take = same f best [] popped;
      })
      | inr ne ↦ (let F = X.others j qj nj in record {
        progress = F.progress;
        is_as = state (IsAs ms.count pace x q j F.progress) (IsAs ms.count pace x q j F.progress) j nj (λ z k. k) F.is_as;
        keeps = store (KeepsAs ms.count pace x F.progress) j nj F.keeps;
        stocked = store (IsStocked x.version x.value) j nj F.stocked;
        whole = store (λ z. IsWhole (answer_to ms.count x.pn x.last z)) j nj F.whole;
        noted = store (λ z. IsSomeAnd (next.world.state best) (IsNoted ms.count pace x j (readings_of (next.world.store best)) z F.progress)) j nj
            (subst (λ (l : Readings). IsSomeAnd (next.world.state best) (IsNoted ms.count pace x j l (readings_of (t.world.store j)) F.progress)) (sym store_is)
            (noted_now j (readings_of (t.world.store j)) (IsNoted ms.count pace x j T.readings (readings_of (t.world.store j)) F.progress)
            (notes_others ms q pace x (x.won + pace.clock best) lt (shared_entries (t.world.store best)) now w s K X.epoch X.near X.learns X.grown X.close X.fits X.made f qf nf (C.members f qf) v stocked whole T.readings T.changes G j ne (readings_of (t.world.store j)) F.progress
            (let o = unpack (IsNoted ms.count pace x j w (readings_of (t.world.store j)) F.progress) (t.world.state best) F.noted in subst (IsNoted ms.count pace x j w (readings_of (t.world.store j)) F.progress) (one_state (t.world.state best) o.0 s o.1 up) o.2))));
        to_come = same best j (to_such ms.count pace x q F.progress) (kept best j _ (λ is _. nf (sym is)) F.to_come);
        to_take = store (λ z. Carries ms (R ms q pace x) next.world.messages j best (next.time + pace.delay) (from_such ms.count pace x F.progress z) (next.under_way j best)) j nj
            (same j best (from_such ms.count pace x F.progress (readings_of (t.world.store j))) (kept j best _ (λ is _. ne is) F.to_take));
      })
    ]
      where
        mine : IsNoted ms.count pace x f w v Promised s
        mine = let o = unpack (IsNoted ms.count pace x f w v Promised) (t.world.state best) before in subst (IsNoted ms.count pace x f w v Promised) (one_state (t.world.state best) o.0 s o.1 up) o.2

    others_missing : IsAsked ms q pace x next
    others_missing = record {
      can = X.can;
      odd = X.odd;
      second = X.second;
      second_in = X.second_in;
      second_is = X.second_is;
      ranks = X.ranks;
      short = X.short;
      fits = X.fits;
      room = X.room;
      early = X.early;
      close = X.close;
      since = X.since;
      begun = (let a = X.begun in let c = at in omega arith);
      after = X.after;
      made = X.made;
      epoch = ap epoch_of store_is ∙ G.epoch ∙ X.epoch;
      promise = ap promise_of store_is ∙ G.promise ∙ X.promise;
      near = subst (IsNear x.version x.value) (sym store_is) G.near;
      learns = subst (CanLearn x.version x.value) (sym store_is) G.learns;
      grown = subst (λ (z : Readings). x.last ≤ z.last) (sym store_is) (let a = X.grown in let c = G.grown in omega arith);
      lead = subst (λ (z : Readings). IsSomeAnd (next.world.state best) (Collects ms.count q x (x.won + pace.clock best) z)) (sym store_is) (pack (Collects ms.count q x (x.won + pace.clock best) T.readings) (next.world.state best) after up_now
          (still_collects ms q pace x (x.won + pace.clock best) lt (shared_entries (t.world.store best)) now w s K X.epoch X.near X.learns X.grown X.close X.fits X.made f qf nf (C.members f qf) v stocked whole T.readings T.changes G more));
      others = questioned;
      apart = λ g j qg qj own. same g j [] (kept g j [] (λ is same_best. nf (sym is ∙ own.1 same_best)) (X.apart g j qg qj own));
    }

  -- ---- all answered

  module _ (all : are_within ms.count q (with_rank s.leader.answered f) ≡ true) (ends : settle me now course ≡ Ok y) (room : now + 10000 ≤ 2 ^ 62) (several : 1 < ms.count) where
    abbrev reigns : Reign
    reigns = R ms q pace x

    abbrev l : ℕ
    l = T.readings.last

    -- another member answered
    record Answered (j : ℕ) : Type 0 where
      follows : IsSomeAnd (t.world.state j) (FollowsSince best q (x.won + pace.clock j))
      epoch : epoch_of (readings_of (t.world.store j)) ≡ suc x.election.epoch
      promise : promise_of (readings_of (t.world.store j)) ≡ x.pn
      stock : IsStocked x.version x.value (readings_of (t.world.store j))
      last : slice_index_or after.leader.lasts j 0 ≡ (readings_of (t.world.store j)).last
      within : (readings_of (t.world.store j)).last ≤ l
      found : is_some (pending (readings_of (t.world.store j))) ≡ true → IsSomeAnd after.leader.found (λ g. suc (readings_of (t.world.store j)).last ≤ g.version)
      there : Carries ms reigns t.world.messages best j (t.time + pace.delay) [] (left best j)
      back : Carries ms reigns t.world.messages j best (t.time + pace.delay) [] (left j best)

    answered_all : (j : ℕ) → has q j ≡ true → has after.leader.answered j ≡ true
    answered_all j qj = within_at ms.count q (with_rank s.leader.answered f) j all (C.members j qj) qj

    noted_before : (j : ℕ) (p : Progress) → IsSomeAnd (t.world.state best) (IsNoted ms.count pace x j w (readings_of (t.world.store j)) p) → IsNoted ms.count pace x j w (readings_of (t.world.store j)) p s
    noted_before j p k = let o = unpack (IsNoted ms.count pace x j w (readings_of (t.world.store j)) p) (t.world.state best) k in subst (IsNoted ms.count pace x j w (readings_of (t.world.store j)) p) (one_state (t.world.state best) o.0 s o.1 up) o.2

    answered_so : (j : ℕ) → has q j ≡ true → (j ≡ best → ⊥) → Answered j
    answered_so j qj nj = elim (cases_eq j f) [
      | inl same ↦ subst Answered (sym same) (let k = notes_it ms q pace x (x.won + pace.clock best) lt (shared_entries (t.world.store best)) now w s K X.epoch X.near X.learns X.grown X.close X.fits X.made f qf nf (C.members f qf) v stocked whole T.readings T.changes G Promised (noted_before f Promised before) in record {
        follows = role;
        epoch = keeps.0;
        promise = keeps.1;
        stock = stocked;
        last = k.1;
        within = k.2;
        found = k.3;
        there = kept best f [] (λ is _. nf (sym is)) down;
        back = popped;
      })
      | inr ne ↦ (let F = X.others j qj nj in by ne F.progress F.is_as F.keeps F.stocked (noted_before j F.progress F.noted) F.to_come F.to_take)
    ]
      where
        missing : {A : Type 0} → (j ≡ f → ⊥) → has s.leader.answered j ≡ false → A
        missing ne k = elim (has_with_is s.leader.answered f j (answered_all j qj)) [ inl is ↦ absurd (ne is) | inr old ↦ absurd (false≢true (sym k ∙ old)) ]

        by : (j ≡ f → ⊥) → (p : Progress) → IsSomeAnd (t.world.state j) (IsAs ms.count pace x q j p) → KeepsAs ms.count pace x p (readings_of (t.world.store j)) → IsStocked x.version x.value (readings_of (t.world.store j))
            → IsNoted ms.count pace x j w (readings_of (t.world.store j)) p s → Carries ms reigns t.world.messages best j (t.time + pace.delay) (to_such ms.count pace x q p) (t.under_way best j)
            → Carries ms reigns t.world.messages j best (t.time + pace.delay) (from_such ms.count pace x p (readings_of (t.world.store j))) (t.under_way j best) → Answered j
        by ne Electing a k z n d r = missing ne n
        by ne Following a k z n d r = missing ne n
        by ne Promised a k z n d r = missing ne n
        by ne Noted a k z n d r =
            let h = notes_others ms q pace x (x.won + pace.clock best) lt (shared_entries (t.world.store best)) now w s K X.epoch X.near X.learns X.grown X.close X.fits X.made f qf nf (C.members f qf) v stocked whole T.readings T.changes G j ne (readings_of (t.world.store j)) Noted n in record {
              follows = a;
              epoch = k.0;
              promise = k.1;
              stock = z;
              last = h.1;
              within = h.2;
              found = h.3;
              there = kept best j [] (λ is _. nf (sym is)) d;
              back = kept j best [] (λ is _. ne is) r;
            }

    -- ---- the last version of each

    top : l ≤ x.version
    top = elim G.near [ inl k ↦ (let z = k.0 in omega arith) | inr k ↦ (let z = k.0 in omega arith) ]

    near_all : (k : ℕ) → has q k ≡ true → (k ≡ best → ⊥) → (slice_index_or after.leader.lasts k 0 ≡ l) ⊎ (suc (slice_index_or after.leader.lasts k 0) ≡ l)
    near_all k qk nk =
        let A = answered_so k qk nk in
        let e = A.last in
        let le = A.within in
        let high = top in
        let near : x.version ≤ suc (readings_of (t.world.store k)).last = (elim A.stock.near [ inl z ↦ (let y = z.0 in omega arith) | inr z ↦ (let y = z.0 in omega arith) ]) in
        elim (cases_order (slice_index_or after.leader.lasts k 0) l) [ inl same ↦ inl same | inr o ↦ elim o [ inl less ↦ inr (omega arith) | inr more ↦ absurd (omega arith) ] ]

    there_all : (k : ℕ) → has q k ≡ true → (k ≡ best → ⊥) → slice_index_or after.leader.lasts k 0 < l → (record_at T.readings.record_of l ≡ Some x.value) × (length (text x.value) ≤ most_value)
    there_all k qk nk less =
        let A = answered_so k qk nk in
        let e = A.last in
        let high = top in
        let near : x.version ≤ suc (readings_of (t.world.store k)).last = (elim A.stock.near [ inl z ↦ (let y = z.0 in omega arith) | inr z ↦ (let y = z.0 in omega arith) ]) in
        let is : x.version ≡ l = omega arith in
        elim G.near [
          | inl z ↦ (subst (λ (c : ℕ). record_at T.readings.record_of c ≡ Some x.value) is (z.1 (omega arith)), (X.made (omega arith)).1)
          | inr z ↦ (let y = z.0 in absurd (omega arith))
        ]

    epoch_now : epoch_of T.readings ≡ reigns.epoch
    epoch_now = G.epoch ∙ X.epoch

    no_ping : (end : ℕ) → end_of timer.Ping s.timers ≡ Some end → ⊥
    no_ping end on = elim (K.only timer.Ping end on) [ inl is ↦ cc | inr is ↦ (let k = is.0 in cc) ]

    few_ranks : best < 15
    few_ranks = let z = ltb-true best ms.count lt in let m = ms.most in omega arith

    full : Goes ms several reigns lt (shared_entries (t.world.store best)) now room q T.readings T.changes after K.quorum K.number K.kinds no_ping X.second X.second_in X.second_is few_ranks (C.members X.second X.second_in) y
    full = goes ms several reigns lt (shared_entries (t.world.store best)) now room q T.readings T.changes after K.quorum K.number K.kinds no_ping X.second X.second_in X.second_is few_ranks (C.members X.second X.second_in) y ends
        (let z = top in let k = X.fits in omega arith) (not_alone me q X.second X.second_in X.second_is (C.members X.second X.second_in))

    -- ---- what it sends

    abbrev commits : List Envelope
    commits = messages_of (flat_map (commits_to me T.readings after.leader.lasts) (members me q))

    abbrev lacks : ℕ → Bool
    lacks j = behind ms several reigns lt (shared_entries (t.world.store best)) now room q T.readings epoch_now after.leader.lasts near_all x.value there_all j

    abbrev caught : ℕ → List Body
    caught j = caught_up ms several reigns lt (shared_entries (t.world.store best)) now room q T.readings epoch_now after.leader.lasts near_all x.value there_all j

    module _ (b : Body) (out_is : messages_of y.out ≡ commits ++ each me reigns.epoch b (members me q)) where
      gives_member : (j : ℕ) → has q j ≡ true → (j ≡ best → ⊥) → Gives ms reigns best j (caught j ++ b ∷ []) (messages_of y.out)
      gives_member j qj nj = subst (Gives ms reigns best j (caught j ++ b ∷ [])) (sym out_is)
          (gives_append ms reigns best j (caught j) (b ∷ []) commits (each me reigns.epoch b (members me q))
          (commits_give ms several reigns lt (shared_entries (t.world.store best)) now room q T.readings epoch_now after.leader.lasts near_all x.value there_all j qj nj (C.members j qj))
          (to_member ms reigns me b refl refl q j qj nj (C.members j qj)))

      gives_none_else : (g j : ℕ) → (g ≡ best → j ≡ best) → Gives ms reigns g j [] (messages_of y.out)
      gives_none_else g j own = subst (Gives ms reigns g j []) (sym out_is)
          (gives_append ms reigns g j [] [] commits (each me reigns.epoch b (members me q))
          (commits_none ms several reigns lt (shared_entries (t.world.store best)) now room q T.readings epoch_now after.leader.lasts near_all x.value there_all g j own)
          (elim (cases_eq g best) [
            | inl is ↦ subst (λ (z : ℕ). Gives ms reigns g z [] (each me reigns.epoch b (members me q))) (sym (own is)) (to_none ms reigns me b refl refl q g)
            | inr ne ↦ gives_other ms reigns g j _ (each_from me reigns.epoch b g (λ is. ne (sym is)) (members me q))
          ]))

      -- what arrives at member j then
      comes_to : (j : ℕ) → has q j ≡ true → (j ≡ best → ⊥) → Carries ms reigns next.world.messages best j (next.time + pace.delay) (due_at (u + pace.delay) (caught j ++ b ∷ [])) (next.under_way best j)
      comes_to j qj nj = let A = answered_so j qj nj in gives_on ms q pace x t u later next e left went best came s up y how D best j [] (caught j ++ b ∷ []) A.there (gives_member j qj nj)

      -- and nothing to the leader, or among the others
      none_to : (g j : ℕ) → (g ≡ best → j ≡ best) → Carries ms reigns t.world.messages g j (t.time + pace.delay) [] (left g j) → Carries ms reigns next.world.messages g j (next.time + pace.delay) [] (next.under_way g j)
      none_to g j own k = gives_on ms q pace x t u later next e left went best came s up y how D g j [] [] k (gives_none_else g j own)

      others_none : (g j : ℕ) → has q g ≡ true → has q j ≡ true → AreApart best g j → Carries ms reigns next.world.messages g j (next.time + pace.delay) [] (next.under_way g j)
      others_none g j qg qj own = none_to g j own.0 (kept g j [] (λ is same_best. nf (sym is ∙ own.1 same_best)) (X.apart g j qg qj own))

    -- ---- a member of it

    follows_next : (j : ℕ) → has q j ≡ true → (j ≡ best → ⊥) → IsSomeAnd (next.world.state j) (FollowsSince best q (x.won + pace.clock j))
    follows_next j qj nj = let A = answered_so j qj nj in state (FollowsSince best q (x.won + pace.clock j)) (FollowsSince best q (x.won + pace.clock j)) j nj (λ z k. k) A.follows

    -- one that lacks the last version
    lacks_one : (j : ℕ) → has q j ≡ true → (j ≡ best → ⊥) → lacks j ≡ true → (suc (readings_of (t.world.store j)).last ≡ l) × ((readings_of (t.world.store j)).pending_v ≡ l) × IsOfCommand x.value
    lacks_one j qj nj less =
        let A = answered_so j qj nj in
        let e = A.last in
        let high = top in
        let low = ltb-true (slice_index_or after.leader.lasts j 0) l less in
        elim A.stock.near [
          | inl z ↦ (let k = z.0 in absurd (omega arith))
          | inr z ↦ (let k = z.0 in let p = z.1 in let is : x.version ≡ l = omega arith in (omega arith, p ∙ is, (X.made (omega arith)).0))
        ]

    -- or has it
    has_last : (j : ℕ) → has q j ≡ true → (j ≡ best → ⊥) → lacks j ≡ false → (readings_of (t.world.store j)).last ≡ l
    has_last j qj nj none = let A = answered_so j qj nj in let e = A.last in let le = A.within in let high = ltb-false (slice_index_or after.leader.lasts j 0) l none in omega arith

    -- its pending value was found
    none_pends : ((g : Found) → after.leader.found ≡ Some g → g.version ≡ suc l → ⊥) → (j : ℕ) → has q j ≡ true → (j ≡ best → ⊥) → lacks j ≡ false → is_some (pending (readings_of (t.world.store j))) ≡ false
    none_pends nothing j qj nj level = by (is_some (pending (readings_of (t.world.store j)))) refl
      where
        by : (b : Bool) → is_some (pending (readings_of (t.world.store j))) ≡ b → b ≡ false
        by false p = refl
        by true p =
            let A = answered_so j qj nj in
            let g = opened (λ (g : Found). suc (readings_of (t.world.store j)).last ≤ g.version) after.leader.found (A.found p) in
            let fine = found_fine ms q pace x (x.won + pace.clock best) lt (shared_entries (t.world.store best)) now w s K X.epoch X.near X.learns X.grown X.close X.fits X.made f qf nf (C.members f qf) v stocked whole T.readings T.changes G g.0 g.1 in
            let low = g.2 in
            let high = fine.1 in
            let last = has_last j qj nj level in
            absurd (nothing g.0 g.1 (omega arith))

    -- ---- it serves

    module _ (soon : u ≤ x.won + 2 * pace.delay) where
      abbrev finished : Course
      finished = settled ms several reigns lt (shared_entries (t.world.store best)) now room q T.readings T.changes after K.quorum K.number K.kinds no_ping X.second X.second_in X.second_is few_ranks (C.members X.second X.second_in)

      module _ (nothing : (g : Found) → after.leader.found ≡ Some g → g.version ≡ suc l → ⊥) (y_is : y ≡ be_active me now finished) where
        out_serves : messages_of y.out ≡ commits ++ each me reigns.epoch (body.Lease l) (members me q)
        out_serves = ap (λ (z : Course). messages_of z.out) y_is ∙ serves_out ms several reigns lt (shared_entries (t.world.store best)) now room q T.readings T.changes after K.quorum K.number K.kinds no_ping X.second X.second_in X.second_is few_ranks (C.members X.second X.second_in) epoch_now

        store_serves : readings_of (next.world.store best) ≡ T.readings
        store_serves = (subst (λ (cs : List Change). AllByRecursion Fits cs → readings_of (next.world.store best) ≡ played cs w)
            (ap (λ (z : Course). z.changes) y_is ∙ serves_changes ms several reigns lt (shared_entries (t.world.store best)) now room q T.readings T.changes after K.quorum K.number K.kinds no_ping X.second X.second_in X.second_is few_ranks (C.members X.second X.second_in)) D.kept) G.fits ∙ sym G.after

        items_first : (less : Bool) → due_at (u + pace.delay) (cond less (body.Commit l (x.value ∷ []) ∷ []) [] ++ body.Lease l ∷ []) ≡ first_items reigns pace less l x.value u
        items_first true = refl
        items_first false = refl

        opener : (j : ℕ) → has q j ≡ true → (j ≡ best → ⊥)
            → Opener ms q pace reigns l x.value x.won next.time next.world.messages (next.time + pace.delay) j (next.world.state j) (readings_of (next.world.store j)) (next.under_way best j) (next.under_way j best)
        opener j qj nj = let A = answered_so j qj nj in record {
          follows = follows_next j qj nj;
          epoch = store (λ z. epoch_of z ≡ suc x.election.epoch) j nj A.epoch;
          promise = store (λ z. promise_of z ≡ x.pn) j nj A.promise;
          behind = lacks j;
          keeps = store (KeepsAtFirst (lacks j) l x.value) j nj (by (lacks j) refl);
          to_come = subst (λ (z : ℕ). Carries ms reigns next.world.messages best j (next.time + pace.delay) (first_items reigns pace (lacks j) l x.value z) (next.under_way best j)) (sym at)
              (subst (λ (z : List Item). Carries ms reigns next.world.messages best j (next.time + pace.delay) z (next.under_way best j)) (items_first (lacks j)) (comes_to (body.Lease l) out_serves j qj nj));
          to_take = none_to (body.Lease l) out_serves j best (λ is. absurd (nj is)) A.back;
        }
          where
            by : (less : Bool) → lacks j ≡ less → KeepsAtFirst less l x.value (readings_of (t.world.store j))
            by true less = lacks_one j qj nj less
            by false less = (has_last j qj nj less, none_pends nothing j qj nj less)

        opens : Opens ms q pace reigns l x.value x.won next
        opens = record {
          leads = C.member;
          second = X.second;
          second_in = X.second_in;
          second_is = X.second_is;
          members = C.members;
          short = X.short;
          since = (let a = X.since in let c = X.begun in let z = at in omega arith);
          ordered = (let c = X.begun in let z = at in omega arith);
          soon = (let z = at in omega arith);
          epoch = ap epoch_of store_serves ∙ epoch_now;
          last = ap (λ (z : Readings). z.last) store_serves;
          fits = (let z = top in let k = X.fits in omega arith);
          lead = subst (λ (z : ℕ). IsSomeAnd (next.world.state best) (LeadsSince reigns q (z + pace.clock best))) (sym at) (pack (LeadsSince reigns q now) (next.world.state best) y.state D.up
              (subst (λ (z : Course). LeadsSince reigns q now z.state) (sym y_is) (leads_since ms several reigns lt (shared_entries (t.world.store best)) now room q T.readings T.changes after K.quorum K.number K.kinds no_ping X.second X.second_in X.second_is few_ranks (C.members X.second X.second_in))));
          peons = opener;
          others = others_none (body.Lease l) out_serves;
        }

      -- ---- it proposes what it found

      module _ (g : Found) (there : after.leader.found ≡ Some g) (version : g.version ≡ suc l) (short : suc l ≤ 2 ^ 62) (y_is : y ≡ begin_with me now stage.Previous (suc l) g.value None finished) where
        abbrev settling : Settling
        settling = record { version = l; value = x.value; won = x.won; found = record { value = g.value; at = u } }

        out_begins : messages_of y.out ≡ commits ++ each me reigns.epoch (body.Begin x.pn (suc l) g.value) (members me q)
        out_begins = ap (λ (z : Course). messages_of z.out) y_is ∙ proposes_out ms several reigns lt (shared_entries (t.world.store best)) now room q T.readings T.changes after K.quorum K.number K.kinds no_ping X.second X.second_in X.second_is few_ranks (C.members X.second X.second_in) g.value epoch_now

        store_begins : readings_of (next.world.store best) ≡ play (Vote (suc l) x.pn g.value) T.readings
        store_begins = (subst (λ (cs : List Change). AllByRecursion Fits cs → readings_of (next.world.store best) ≡ played cs w) changes_are D.kept)
            (all_append Fits T.changes (Vote (suc l) x.pn g.value ∷ []) G.fits ((short, X.short), tt)) ∙ played_more T.changes (Vote (suc l) x.pn g.value ∷ []) w ∙ ap (play (Vote (suc l) x.pn g.value)) (sym G.after)
          where
            changes_are : y.changes ≡ T.changes ++ Vote (suc l) x.pn g.value ∷ []
            changes_are = ap (λ (z : Course). z.changes) y_is
                ∙ proposes_changes ms several reigns lt (shared_entries (t.world.store best)) now room q T.readings T.changes after K.quorum K.number K.kinds no_ping X.second X.second_in X.second_is few_ranks (C.members X.second X.second_in) g.value
                ∙ ap (λ (p : ℕ). T.changes ++ Vote (suc l) p g.value ∷ []) K.number

        abbrev progress_of : Bool → SettlerProgress
        progress_of true = Behind
        progress_of false = Level

        items_of : (less : Bool) → due_at (u + pace.delay) (cond less (body.Commit l (x.value ∷ []) ∷ []) [] ++ body.Begin x.pn (suc l) g.value ∷ []) ≡ peon_items reigns pace settling (progress_of less)
        items_of true = refl
        items_of false = refl

        settler : (j : ℕ) → has q j ≡ true → (j ≡ best → ⊥)
            → Settler ms q pace reigns settling next.world.messages (next.time + pace.delay) j (next.world.state j) (next.world.state best) (readings_of (next.world.store j)) (next.under_way best j) (next.under_way j best)
        settler j qj nj = by (lacks j) refl
          where
            keeps_as : (less : Bool) → lacks j ≡ less → SettlerKeeps reigns pace settling (progress_of less) (readings_of (t.world.store j))
            keeps_as true less = let k = lacks_one j qj nj less in (k.0, k.2)
            keeps_as false less = has_last j qj nj less

            unheard : has y.state.leader.accepted j ≡ false
            unheard = lone (has (only best) j) refl
              where
                lone : (b : Bool) → has (only best) j ≡ b → has y.state.leader.accepted j ≡ false
                lone true h = absurd (nj (has_only_is best j h))
                lone false h = ap (λ (z : Course). has z.state.leader.accepted j) y_is
                    ∙ ap (λ (z : List Bool). has z j) (proposes_accepted ms several reigns lt (shared_entries (t.world.store best)) now room q T.readings T.changes after K.quorum K.number K.kinds no_ping X.second X.second_in X.second_is few_ranks (C.members X.second X.second_in) g.value) ∙ h

            none_counted : (less : Bool) → is_counted (progress_of less) ≡ false
            none_counted true = refl
            none_counted false = refl

            by : (less : Bool) → lacks j ≡ less
                → Settler ms q pace reigns settling next.world.messages (next.time + pace.delay) j (next.world.state j) (next.world.state best) (readings_of (next.world.store j)) (next.under_way best j) (next.under_way j best)
            by less is_so = let A = answered_so j qj nj in record {
              progress = progress_of less;
              follows = follows_next j qj nj;
              epoch = store (λ z. epoch_of z ≡ suc x.election.epoch) j nj A.epoch;
              promise = store (λ z. promise_of z ≡ x.pn) j nj A.promise;
              keeps = store (SettlerKeeps reigns pace settling (progress_of less)) j nj (keeps_as less is_so);
              noted = pack (λ (z : State). has z.leader.accepted j ≡ is_counted (progress_of less)) (next.world.state best) y.state D.up (unheard ∙ sym (none_counted less));
              to_come = subst (λ (z : List Item). Carries ms reigns next.world.messages best j (next.time + pace.delay) z (next.under_way best j))
                  (ap (λ (b : Bool). due_at (u + pace.delay) (cond b (body.Commit l (x.value ∷ []) ∷ []) [] ++ body.Begin x.pn (suc l) g.value ∷ [])) is_so ∙ items_of less) (comes_to (body.Begin x.pn (suc l) g.value) out_begins j qj nj);
              to_take = from_none less (none_to (body.Begin x.pn (suc l) g.value) out_begins j best (λ is. absurd (nj is)) A.back);
            }
              where
                from_none : (less : Bool) → Carries ms reigns next.world.messages j best (next.time + pace.delay) [] (next.under_way j best) → Carries ms reigns next.world.messages j best (next.time + pace.delay) (leader_items reigns pace settling (progress_of less)) (next.under_way j best)
                from_none true k = k
                from_none false k = k

        settles_so : Settles ms q pace reigns settling next
        settles_so = record {
          leads = C.member;
          second = X.second;
          second_in = X.second_in;
          second_is = X.second_is;
          members = C.members;
          short = X.short;
          since = (let a = X.since in let c = X.begun in omega arith);
          won = (let c = X.begun in omega arith);
          soon = omega arith;
          reached = (let z = at in omega arith);
          epoch = ap epoch_of store_begins ∙ epoch_now;
          last = ap (λ (z : Readings). z.last) store_begins;
          made = (found_fine ms q pace x (x.won + pace.clock best) lt (shared_entries (t.world.store best)) now w s K X.epoch X.near X.learns X.grown X.close X.fits X.made f qf nf (C.members f qf) v stocked whole T.readings T.changes G g there).0;
          fits = short;
          lead = pack (ProposesSince phase.Previous ms.count reigns q g.value now) (next.world.state best) y.state D.up (subst (λ (z : Course). ProposesSince phase.Previous ms.count reigns q g.value now z.state) (sym y_is)
              (proposes_since ms several reigns lt (shared_entries (t.world.store best)) now room q T.readings T.changes after K.quorum K.number K.kinds no_ping X.second X.second_in X.second_is few_ranks (C.members X.second X.second_in) g.value));
          peons = settler;
          others = others_none (body.Begin x.pn (suc l) g.value) out_begins;
        }

      -- ---- what becomes of it

      heard_all_members : Opens ms q pace reigns l x.value x.won next ⊎ ((g : Found) × Settles ms q pace reigns (record { version = l; value = x.value; won = x.won; found = record { value = g.value; at = u } }) next)
      heard_all_members = by full
        where
          by : Goes ms several reigns lt (shared_entries (t.world.store best)) now room q T.readings T.changes after K.quorum K.number K.kinds no_ping X.second X.second_in X.second_is few_ranks (C.members X.second X.second_in) y
              → Opens ms q pace reigns l x.value x.won next ⊎ ((g : Found) × Settles ms q pace reigns (record { version = l; value = x.value; won = x.won; found = record { value = g.value; at = u } }) next)
          by (serves nothing is_so) = inl (opens nothing is_so)
          by (proposes g there version short is_so) = inr (g, settles_so g there version short is_so)

  -- ---- both

  -- what a LAST leaves: the leader asks on, serves, or proposes what it found
  pub data Left : Type 0 where
    asks : IsAsked ms q pace x next → Left
    serves_now : (version : ℕ) → Opens ms q pace (R ms q pace x) version x.value x.won next → Left
    proposes_now : (version : ℕ) (g : Found) → Settles ms q pace (R ms q pace x) (record { version = version; value = x.value; won = x.won; found = record { value = g.value; at = u } }) next → Left

  pub last_taken : now + 10000 ≤ 2 ^ 62 → 1 < ms.count → u ≤ x.won + 2 * pace.delay → Left
  last_taken room several soon = by (are_within ms.count s.leader.quorum (with_rank s.leader.answered f)) refl
    where
      same_quorum : (b : Bool) → are_within ms.count s.leader.quorum (with_rank s.leader.answered f) ≡ b → are_within ms.count q (with_rank s.leader.answered f) ≡ b
      same_quorum b e = ap (λ (z : List Bool). are_within ms.count z (with_rank s.leader.answered f)) (sym K.quorum) ∙ e

      by : (b : Bool) → are_within ms.count s.leader.quorum (with_rank s.leader.answered f) ≡ b → Left
      by false e = asks (others_missing (let same : Ok y ≡ Ok course = T.is ∙ ap (λ b. cond b (settle me now course) (Ok course)) e in cc) (same_quorum false e))
      by true e =
          let ends : settle me now course ≡ Ok y = sym (T.is ∙ ap (λ b. cond b (settle me now course) (Ok course)) e) in
          elim (heard_all_members (same_quorum true e) ends room several soon) [ inl k ↦ serves_now T.readings.last k | inr k ↦ proposes_now T.readings.last k.0 k.1 ]
