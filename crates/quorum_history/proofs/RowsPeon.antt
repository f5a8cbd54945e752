-- The rows of a peon keep what holds.
use Rattle.law_names.proofs.Table.{AllByRecursion, Change, Course, Found, Me, Op, Promise, Readings, Told, Vote, answer_of, arm, cancel, change, change_all, change_if, epoch_of, fits, hear_begin, hear_collect, hear_commit, hear_lease, is_complete, is_peon, last_answer, longest, of_leader, pending, peon_is, promise, promise_of, run_from, send, sent_values, told_of, value, ◌▸◌}
use Rattle.mon_lease.specs.Lease as lease
use Rattle.mon_tx.specs.Keys.{covers}
use Rattle.mon_types.specs.declared.names.Which.TheVariants as which
use Rattle.mon_wire.specs.declared.body.Body.TheVariants as body
use Rattle.mon_wire.specs.declared.phase.Phase.TheVariants as phase
use Rattle.mon_wire.specs.declared.phase.Timer.TheVariants as timer
use Rattle.quorum_history.proofs.Accepting.{accepted, accepts}
use Rattle.quorum_history.proofs.ActsElections.{bootstrap_holds}
use Rattle.quorum_history.proofs.ActsLeading.{sound}
use Rattle.quorum_history.proofs.Frame.{accepted_lasts, followed_lasts, follows_last}
use Rattle.quorum_history.proofs.History.{ALevel, APromise, Accepted, Entered, Ghost, Glob, Had, Joined, had_lasts}
use Rattle.quorum_history.proofs.Holds.{Answers, At, BodyHolds, Core, Disk, Followed, FollowsIn, Good, With, core, core_of, level_in}
use Rattle.quorum_history.proofs.Learned.{learn_then, learned_at, learned_by}
use Rattle.quorum_history.proofs.Numbers.{had_down, level_is, promises, with_promise}
use Rattle.quorum_history.proofs.Phases.{as_known, in_known, no, peon_is_peon}
use Rattle.quorum_history.proofs.Runs.{NonePending, SomePending, longest_short, pending_cases, run_short}
use Rattle.quorum_history.proofs.Steps.{signed, tells, weaken}
use Rattle.quorum_walk.proofs.FineCourses.{Val}
use Rattle.quorum_walk.proofs.Lists.{all_drop}
use Rattle.quorum_walk.proofs.Sparing.{own_of}
use Rattle.quorum_walk.proofs.Walk.{Then, and_three, by_test, done, or_three, where_fits}
use Rattle.std.proofs.Common.{Bool, IfSome, List, None, Option, Some, [], ap, arith, cond, drop, eqb, false, inl, inr, is_some, length, ltb, not, refl, subst, suc, sym, true, ℕ, ◌&&◌, ◌+◌, ◌-◌, ◌<◌, ◌||◌, ◌∙◌, ◌≡◌, ◌≤◌, ◌⊎◌}
use Rattle.std.proofs.lemmas.Bool.{and_parts, cases_lt, cond_both, eqb-true, false≢true, lt-ltb, ltb-true, not-false, or_parts}
use Rattle.std.proofs.lemmas.List.{append-nil}

module _ (me : Me) (now : ℕ) (g : Ghost) (Known : ℕ → List Op → Type 0) where
  abbrev n : ℕ
  n = me.member.monitors

  abbrev i : ℕ
  i = me.member.rank

  -- ---- what it answers

  module _ (h : Ghost) (to e base : ℕ) (w : Readings) (G : Glob n h) (D : Disk h i (own_of w) w.record_of) (u : w.marked ≡ false) (J : Joined h i e to) (behind : Had h ALevel to base) where
    abbrev told : List (List Op)
    told = sent_values n (promise_of w) w.first w.last w.record_of (suc base)

    level : Had h ALevel i w.last
    level = had_down h ALevel i (level_in (own_of w)) w.last (D.numbers.now ALevel) (let s = level_is (own_of w) u in omega arith)

    told_short : (told ≡ []) ⊎ (base + length told ≤ w.last)
    told_short = by (cases_lt w.last (suc base))
      where
        test : List (List Op) → Bool
        test = λ values. fits n (body.Last (promise_of w) w.first w.last false (suc base) values None)

        run : length (longest test (run_from w.record_of w.last (suc base))) ≤ suc w.last - suc base
        run = let a = longest_short test (run_from w.record_of w.last (suc base)) in let b = run_short w.record_of (suc w.last - suc base) (suc base) in omega arith

        by : (w.last < suc base) ⊎ (suc base ≤ w.last) → (told ≡ []) ⊎ (base + length told ≤ w.last)
        by (inl lt) = inl (rw (lt-ltb w.last (suc base) lt) refl)
        by (inr ge) = cond_both (ltb w.last (suc base) || ltb (suc base) w.first) [] (longest test (run_from w.record_of w.last (suc base))) (λ (vs : List (List Op)). (vs ≡ []) ⊎ (base + length vs ≤ w.last))
            (λ _. inl refl) (λ _. inr (let r = run in omega arith))

    answers_with : (whole : Bool) (t : Option Told) → (whole ≡ true → w.last ≤ base + length told) → IfSome t (λ t. (whole ≡ true) × (t.pn ≤ promise_of w) × Accepted h i (suc w.last) t.pn t.value)
        → (whole ≡ true → (v r : ℕ) (x : List Op) → Accepted h i v r x → r < promise_of w → (v ≤ w.last) ⊎ ((v ≡ suc w.last) × (s : Told) × (t ≡ Some s) × (r ≤ s.pn))) → Answers h i to e (promise_of w) w.last whole (suc base) told t
    answers_with whole t reaches tells covers = record { joined = J; promised = D.numbers.now APromise; level = level; base = base; from = refl; behind = behind; short = told_short; reaches = reaches; told = tells; covers = covers }

    all_told : (found : Option Found) → pending w ≡ found → w.last ≤ base + length told → Answers h i to e (promise_of w) w.last true (suc base) told (told_of found)
    all_told found is reaches = by (pending_cases n h i (own_of w) w.record_of G D u)
      where
        by : NonePending h i (own_of w) w.record_of ⊎ SomePending h i (own_of w) w.record_of → Answers h i to e (promise_of w) w.last true (suc base) told (told_of found)
        by (inl k) = subst (λ (f : Option Found). Answers h i to e (promise_of w) w.last true (suc base) told (told_of f)) (sym k.none ∙ is) (answers_with true None (λ _. reaches) tt (λ _ v r x a lt. inl (k.covers v r x a)))
        by (inr k) = subst (λ (f : Option Found). Answers h i to e (promise_of w) w.last true (suc base) told (told_of f)) (sym k.some ∙ is)
            (answers_with true (Some (record { pn = w.pending_pn; value = k.x })) (λ _. reaches) (refl, D.kept.under, k.was)
            (λ _ v r x a lt. elim (k.covers v r x a) [ inl s ↦ inl s | inr c ↦ inr (c.0, record { pn = w.pending_pn; value = k.x }, refl, c.1) ]))

    pub last_answer_holds : BodyHolds h i to e (last_answer n w (suc base))
    unfolding answer_of
    last_answer_holds = by (is_complete n (promise_of w) w.first w.last (suc base) told (told_of (pending w))) refl
      where
        by : (b : Bool) → is_complete n (promise_of w) w.first w.last (suc base) told (told_of (pending w)) ≡ b
            → BodyHolds h i to e (cond b (body.Last (promise_of w) w.first w.last true (suc base) told (told_of (pending w))) (body.Last (promise_of w) w.first w.last false (suc base) told None))
        by true t = all_told (pending w) refl (let s = ltb-true w.last (suc base + length told) ((and_parts (ltb w.last (suc base + length told)) _ t).0) in omega arith)
        by false t = answers_with false None (λ c. absurd (false≢true c)) tt (λ c. absurd (false≢true c))

  -- ---- leases

  -- without a lease
  let_go : (h : Ghost) (c : Core) → FollowsIn h i c → FollowsIn h i (record c { lease = None })
  let_go h c k = record { role = k.role; unmarked = k.unmarked; sessions = k.sessions; below = k.below; clear = λ t. no t; led = λ t. no t }

  cancelled : (x : Course) → At me g Known (λ h. FollowsIn h i (core x)) x → At me g Known (λ h. FollowsIn h i (core (cancel x))) (cancel x)
  cancelled x A = weaken _ _ A (λ h E G D p. let_go h (core x) p)

  -- if nothing is pending
  committed : (h : Ghost) (w : Readings) → Glob n h → Disk h i (own_of w) w.record_of → w.marked ≡ false → is_some (pending w) ≡ false → (v p : ℕ) (y : List Op) → Accepted h i v p y → v ≤ w.last
  committed h w G D u none v p y a = elim (pending_cases n h i (own_of w) w.record_of G D u) [ inl k ↦ k.covers v p y a | inr k ↦ absurd (false≢true (sym none ∙ ap is_some k.some)) ]

  -- ---- promises

  promised : (pn : ℕ) (x : Course) → At me g Known (λ h. FollowsIn h i (core x)) x → At me g Known (λ h. FollowsIn h i (core (promise pn x))) (promise pn x)
  promised pn x A = by (ltb (promise_of x.readings) pn) refl
    where
      by : (b : Bool) → ltb (promise_of x.readings) pn ≡ b → At me g Known (λ h. FollowsIn h i (core (change_if b (Promise pn) x))) (change_if b (Promise pn) x)
      by true t = let lt = ltb-true (promise_of x.readings) pn t in
          promises (λ h. FollowsIn h i (core x)) (λ h. FollowsIn h i (core (change (Promise pn) x))) pn (omega arith) A (λ h E p. follows_last i h (signed i (with_promise pn (own_of x.readings)) h) E i (core x) (λ _ v q y a. a) (λ e seq s c a. a) p)
      by false t = subst (λ (cs : List Change). With n i g Known (own_of x.readings) x.readings.record_of cs x.out (λ h. FollowsIn h i (core x))) (sym (append-nil x.changes)) A

  following : (x : Course) → x.state.phase ≡ phase.Peon → Good me g Known x → At me g Known (λ h. FollowsIn h i (core x)) x
  following x e A = in_known me g Known x phase.Peon e A

  -- a promise changes nothing else
  promise_leaves : (P : Course → Type 0) (pn : ℕ) (x : Course) → P (change (Promise pn) x) → P (change_all [] x) → P (promise pn x)
  promise_leaves P pn x a b = by (ltb (promise_of x.readings) pn)
    where
      by : (t : Bool) → P (change_if t (Promise pn) x)
      by true = a
      by false = b

  answers : (x : Course) (f base : ℕ) → f ≡ x.state.peon.leader → Had g ALevel f base → At me g Known (λ h. FollowsIn h i (core x)) x → At me g Known (λ h. FollowsIn h i (core x)) (x ▸ send me f (last_answer n x.readings (suc base)))
  answers x f base q behind A = tells me _ (last_answer n x.readings (suc base)) f A (λ h E G D p.
      last_answer_holds h f (epoch_of x.readings) base x.readings G D p.unmarked (x.state.peon.quorum, subst (λ (z : ℕ). Entered h i (epoch_of x.readings) z x.state.peon.quorum) (sym q) p.role) (had_lasts E ALevel f base behind))

  pub hear_collect_holds : (f e : ℕ) (pn first last : ℕ) (x : Course) → Had g ALevel f last → Good me g Known x → Then (Good me g Known) (hear_collect me now f e pn first last x)
  unfolding hear_collect
  hear_collect_holds f e pn first last x behind A =
      by_test (not (of_leader f e x)) (λ _. done A) (λ heard.
      let t = and_three (is_peon x.state.phase) (eqb e (epoch_of x.readings)) (eqb f x.state.peon.leader) (not-false _ heard) in
      let peon = peon_is_peon x.state.phase t.0 in
      by_test (ltb (suc x.readings.last) first) (λ _. bootstrap_holds me now g Known x (sound me g Known _ x A)) (λ _.
      where_fits (Good me g Known) which.Version (suc last) _ (λ _.
      let y : Course = x ▸ cancel ▸ promise pn in
      let B = promised pn (cancel x) (cancelled x (following x peon A)) in
      let C = answers y f last (promise_leaves (λ z. f ≡ z.state.peon.leader) pn (cancel x) (eqb-true f x.state.peon.leader t.2) (eqb-true f x.state.peon.leader t.2)) behind B in
      done (as_known me g Known (y ▸ send me f (last_answer n y.readings (suc last))) phase.Peon (promise_leaves (λ z. z.state.phase ≡ phase.Peon) pn (cancel x) peon peon) C))))

  -- ---- values

  pub hear_begin_holds : (f e : ℕ) (pn v : ℕ) (value : List Op) (x : Course) → Accepted g f v pn value → Good me g Known x → Then (Good me g Known) (hear_begin me f e pn v value x)
  unfolding hear_begin
  hear_begin_holds f e pn v value x K A = by_test (not (of_leader f e x && eqb pn (promise_of x.readings) && eqb v (suc x.readings.last))) (λ _. done A) (λ heard.
      let t = and_three (of_leader f e x) (eqb pn (promise_of x.readings)) (eqb v (suc x.readings.last)) (not-false _ heard) in
      let peon = peon_is_peon x.state.phase (and_three (is_peon x.state.phase) (eqb e (epoch_of x.readings)) (eqb f x.state.peon.leader) t.0).0 in
      let now_is = eqb-true pn (promise_of x.readings) t.1 in
      let next = eqb-true v (suc x.readings.last) t.2 in
      let y : Course = x ▸ change (Vote v pn value) ▸ cancel ▸ send me f (body.Accept pn v) in
      let B = accepts (λ h. FollowsIn h i (core (cancel x))) (λ k. FollowsIn k i (core y) × Accepted k i v pn value) v pn value me.member.in_map (A.known f v pn value (accepted_lasts i g A.h A.ext f v pn value K)) (cancelled x (following x peon A))
      (λ h E G D p.
      let a : Accepted h f v pn value = accepted_lasts i g h E f v pn value K in
      let T = G.triples in (
        record { unmarked = p.unmarked; next = next; now = now_is; fine = T.fine f v pn value a; owner = inr (T.owner f v pn value a); made = λ q. D.kept.made f v pn value a q },
        record { one = λ j z b. T.one j f v pn z value b a; safe = λ r z Q lt ne ma le. T.safe f v pn r value z Q a lt ne ma le },
      ))
      (λ h E G p. (follows_last i h (accepted i v pn value h) E i (core (cancel x)) (λ t. no t) (λ e seq s c a. a) p, inl refl)) in
      let C = tells me (λ k. FollowsIn k i (core y) × Accepted k i v pn value) (body.Accept pn v) f B (λ h E G D p. (subst (λ (z : ℕ). Had h APromise i z) (sym now_is) (D.numbers.now APromise), value, p.1)) in
      done (as_known me g Known y phase.Peon peon (weaken _ _ C (λ h E G D p. p.0))))

  pub hear_commit_holds : (f e : ℕ) (from : ℕ) (values : List (List Op)) (x : Course) → AllByRecursion Val values → Good me g Known x → Then (Good me g Known) (hear_commit f e from values x)
  unfolding hear_commit
  hear_commit_holds f e from values x V A = by_test (not (of_leader f e x) || ltb (suc x.readings.last) from) (λ _. done A) (λ heard.
      let t = and_three (is_peon x.state.phase) (eqb e (epoch_of x.readings)) (eqb f x.state.peon.leader) (not-false _ ((or_parts (not (of_leader f e x)) _ heard).0)) in
      let peon = peon_is_peon x.state.phase t.0 in
      let B = following x peon A in
      let news = drop (suc x.readings.last - from) values in
      learn_then (Good me g Known) (suc x.readings.last) news x (λ _. A) (λ last is le.
      as_known me g Known (learned_by (suc x.readings.last) news last x) phase.Peon peon
      (learned_at me g Known (λ h. FollowsIn h i (core x)) (λ o h. FollowsIn h i (core_of o x.state)) (suc x.readings.last) news last x (all_drop Val (suc x.readings.last - from) values V) B.fact.unmarked (omega arith) B
      (λ h k X E D p level same hands.
      let q = follows_last i h k E i (core x) (λ _. same i) hands p in
      record { role = q.role; unmarked = q.unmarked; sessions = q.sessions; below = q.below; clear = λ t v r y a. let s = q.clear t v r y a in omega arith; led = q.led }))))

  -- ---- a lease that is given

  pub hear_lease_holds : (f e : ℕ) (last : ℕ) (x : Course) → Followed g e f → Good me g Known x → Then (Good me g Known) (hear_lease me now f e last x)
  unfolding hear_lease
  hear_lease_holds f e last x K A = by_test (not (of_leader f e x) || not (eqb last x.readings.last) || is_some (pending x.readings)) (λ _. done A) (λ heard.
      let s = or_three (not (of_leader f e x)) (not (eqb last x.readings.last)) (is_some (pending x.readings)) heard in
      let t = and_three (is_peon x.state.phase) (eqb e (epoch_of x.readings)) (eqb f x.state.peon.leader) (not-false _ s.0) in
      let peon = peon_is_peon x.state.phase t.0 in
      let at = eqb-true e (epoch_of x.readings) t.1 in
      let by = eqb-true f x.state.peon.leader t.2 in
      let y : Course = x ▸ peon_is (record x.state.peon { lease = lease.extended now }) ▸ arm now timer.Lease in
      let B : At me g Known (λ h. FollowsIn h i (core y)) y = weaken _ _ (following x peon A) (λ h E G D p. record {
        role = p.role;
        unmarked = p.unmarked;
        sessions = p.sessions;
        below = p.below;
        clear = λ _ v r z a. committed h x.readings G D p.unmarked s.2 v r z a;
        led = λ _. subst (λ (z : ℕ). Followed h (epoch_of x.readings) z) by (subst (λ (z : ℕ). Followed h z f) at (followed_lasts i g h E e f K));
      }) in
      done (tells me _ (body.LeaseAck x.readings.last) f (as_known me g Known y phase.Peon peon B) (λ h E G D p. tt)))
