-- A member that probes hears the others within two delays, and goes on.
use Rattle.law_names.proofs.Runs.{Envelope, Event, Monitors, message_at, messages_of}
use Rattle.law_names.proofs.Table.{AllByRecursion, Course, Input, Message, State, Timer, at_rest, count_of, end_of, epoch_of, has, is_armed, is_majority, quorum_of, react, readings_of, same_phase, send, shared_entries}
use Rattle.log_model.proofs.Lists.{all_map}
use Rattle.mon_msg.specs.declared.input.Input.TheVariants as input
use Rattle.mon_wire.specs.declared.body.Body.TheVariants as body
use Rattle.mon_wire.specs.declared.phase.Phase.TheVariants as phase
use Rattle.quorum_elects.proofs.Ranks.{count_more}
use Rattle.quorum_model.proofs.Members.{member_of}
use Rattle.quorum_stays.proofs.Onward.{one_state}
use Rattle.quorum_stays.proofs.SteppingDown.{here}
use Rattle.quorum_stays.proofs.UnderWay.{numbers}
use Rattle.quorum_stays.specs.SteppingDown.{EachIs}
use Rattle.quorum_timed.specs.Begins.{IsBetween}
use Rattle.quorum_timed.specs.Timed.{Leads, MayBe, Owed, Pace, Timed, at_time, owed_by}
use Rattle.quorum_walk.proofs.Walk.{Then}
use Rattle.std.proofs.Common.{Bool, IsSomeAnd, List, Ok, Some, [], ap, arith, false, inl, inr, length, ltb, refl, slice_get, subst, suc, sym, true, ℕ, ◌*◌, ◌++◌, ◌+◌, ◌<◌, ◌∙◌, ◌∷◌, ◌≡◌, ◌≤◌, ◌⊎◌}
use Rattle.std.proofs.lemmas.Bool.{cases_eq, cases_lt, eq-eqb, false≢true, lt-ltb, ltb-true}
use Rattle.timed_election.proofs.Coming.{Handled, How, again, asks, came_or_left, fires, first, handled, left_all, left_same, new_at, next_all, on_state, still, time_is, under_now}
use Rattle.timed_election.proofs.Lists.{arrives_last, arrives_more, closed, message_in, opened}
use Rattle.timed_election.proofs.ProbingRows.{Keeps, Knows, Probed, keeps_on, probe_answered, probed, reply_taken}
use Rattle.timed_election.specs.Election.{ArrivesBy}
use Rattle.timed_election.specs.Probing.{CanAnswer, GoesOnBy, IsAnswer, IsProbe, IsProbing, Probes}

module _ (ms : Monitors) (q : List Bool) (pace : Pace) (i at : ℕ) (short : 2 * pace.delay < 2000) where
  module _ (t : Timed) (X : Probes ms pace i at q t) (u : ℕ) (M : MayBe ms q pace t u) where
    first_by : (by : ℕ) (P : Owed → Type 0) (f j : ℕ) → has q f ≡ true → has q j ≡ true → ArrivesBy by P (t.under_way f j) → u ≤ by
    first_by by P f j qf qj k = of (t.under_way f j) refl k
      where
        of : (os : List Owed) → t.under_way f j ≡ os → ArrivesBy by P os → u ≤ by
        of [] e k = absurd k
        of (o ∷ others) e k = let le = M.messages f j qf qj o others e in let l = k.0 in omega arith

    now_probing : (s : State) × (t.world.state i ≡ Some s) × IsProbing ms pace i at s
    now_probing = opened (IsProbing ms pace i at) (t.world.state i) X.probing

    -- it hears all in time
    pub still_by : u ≤ at + 2 * pace.delay
    still_by = elim (cases_lt (at + 2 * pace.delay) u) [ inr le ↦ le | inl late ↦ absurd (too_late late) ]
      where
        too_late : at + 2 * pace.delay < u → ⊥
        too_late late =
            let S : IsProbing ms pace i at now_probing.0 = now_probing.2 in
            let more = count_more q (now_probing.0).prober.outside (λ j qj. elim (cases_eq j i) [
              | inl same ↦ subst (λ (z : ℕ). has (now_probing.0).prober.outside z ≡ true) (sym same) S.own
              | inr ne ↦ elim (X.awaits j qj ne) [
                | inl k ↦ absurd (let l = first_by (at + pace.delay) (IsProbe ms pace i at t.world.messages j) i j X.member qj k in omega arith)
                | inr o ↦ elim o [
                  | inl k ↦ absurd (let l = first_by (at + 2 * pace.delay) (IsAnswer ms pace i at t.world.messages j) j i qj X.member k in omega arith)
                  | inr k ↦ (let z = opened (λ (s : State). has s.prober.outside j ≡ true) (t.world.state i) k in
                      subst (λ (s : State). has s.prober.outside j ≡ true) (one_state (t.world.state i) z.0 now_probing.0 z.1 now_probing.1) z.2)
                ]
              ]
            ]) in
            let most = ltb-true ms.count (2 * count_of q) X.major in
            let many : is_majority ms.count (now_probing.0).prober.outside ≡ true = lt-ltb ms.count (2 * count_of (now_probing.0).prober.outside) (omega arith) in
            false≢true (sym S.few ∙ many)

    between : (f j : ℕ) → has q f ≡ true → has q j ≡ true → AllByRecursion (λ o. IsBetween t.world f j o.number) (t.under_way f j)
    between f j qf qj = all_map (λ o. IsBetween t.world f j o.number × (o.by ≤ t.time + pace.delay)) (λ o. IsBetween t.world f j o.number) (λ o k. k.0) (t.under_way f j) (X.under_way f j qf qj)

    module _ (next : Timed) (e : Event) (H : Handled ms q pace X.members t u next e) (ready : CanAnswer q t.world e) where
      abbrev k : ℕ
      k = H.i

      abbrev lt : ltb k ms.count ≡ true
      lt = lt-ltb k ms.count (X.members k H.member)

      abbrev es : List Envelope
      es = messages_of H.course.out

      abbrev count : ℕ
      count = length t.world.messages

      abbrev now : ℕ
      now = u + pace.clock k

      -- what was there, and what is under way
      there_still : (n : ℕ) (m : Envelope) → message_at t.world.messages n ≡ Some m → message_at next.world.messages n ≡ Some m
      there_still = still ms q pace t u next e H.left H.went k H.came H.state H.course H.how H.did

      state_next : (P Q : State → Type 0) (j : ℕ) → (j ≡ k → Q H.course.state) → ((j ≡ k → ⊥) → (z : State) → P z → Q z) → IsSomeAnd (t.world.state j) P → IsSomeAnd (next.world.state j) Q
      state_next = on_state ms q pace t u next e H.left H.went k H.came H.state H.course H.how H.did

      same_left : (f j : ℕ) → (j ≡ k → ⊥) → H.left f j ≡ t.under_way f j
      same_left = left_same ms q pace t u next e H.left H.went k H.came H.state H.course H.how H.did

      under : (f j : ℕ) → next.under_way f j ≡ H.left f j ++ owed_by (u + pace.delay) (numbers f j (suc count) es)
      under = under_now ms q pace t u next e H.left H.went k H.came H.state H.course H.how H.did

      later : next.time ≡ u
      later = time_is ms q pace t u next e H.left H.went k H.came H.state H.course H.how H.did

      probe_still : (j : ℕ) (o : Owed) → IsProbe ms pace i at t.world.messages j o → IsProbe ms pace i at next.world.messages j o
      probe_still j o P = record { epoch = P.epoch; there = there_still o.number _ P.there }

      answer_still : (j : ℕ) (o : Owed) → IsAnswer ms pace i at t.world.messages j o → IsAnswer ms pace i at next.world.messages j o
      answer_still j o P = record { epoch = P.epoch; quorum = P.quorum; first = P.first; last = P.last; there = there_still o.number _ P.there }

      on : (by : ℕ) (P Q : Owed → Type 0) → ((o : Owed) → P o → Q o) → (f j : ℕ) → ArrivesBy by P (H.left f j) → ArrivesBy by Q (next.under_way f j)
      on by P Q g f j a = subst (ArrivesBy by Q) (sym (under f j)) (arrives_more by P Q g (H.left f j) (owed_by (u + pace.delay) (numbers f j (suc count) es)) a)

      probes_on : (j : ℕ) → ArrivesBy (at + pace.delay) (IsProbe ms pace i at t.world.messages j) (H.left i j) → ArrivesBy (at + pace.delay) (IsProbe ms pace i at next.world.messages j) (next.under_way i j)
      probes_on j a = on (at + pace.delay) (IsProbe ms pace i at t.world.messages j) (IsProbe ms pace i at next.world.messages j) (probe_still j) i j a

      answers_on : (j : ℕ) → ArrivesBy (at + 2 * pace.delay) (IsAnswer ms pace i at t.world.messages j) (H.left j i) → ArrivesBy (at + 2 * pace.delay) (IsAnswer ms pace i at next.world.messages j) (next.under_way j i)
      answers_on j a = on (at + 2 * pace.delay) (IsAnswer ms pace i at t.world.messages j) (IsAnswer ms pace i at next.world.messages j) (answer_still j) j i a

      -- ---- at member i

      module _ (mine : k ≡ i) where
        S : IsProbing ms pace i at H.state
        S = subst (IsProbing ms pace i at) (one_state (t.world.state i) now_probing.0 H.state now_probing.1 (subst (λ (z : ℕ). t.world.state z ≡ Some H.state) mine H.up)) now_probing.2

        not_due : (kind : Timer) → H.came ≡ input.Timer kind → is_armed kind H.state.timers ≡ true → ⊥
        not_due kind is armed = of H.how
          where
            of : How ms q pace t u k H.came e H.left H.state → ⊥
            of (first g qg o others m list there from h at_time rest) = absurd cc
            of (again n m there from call cand h at_time rest) = absurd cc
            of (fires other end set due h at_time rest) =
                let P = S in
                let le = P.timers other end set in
                let by = still_by in
                let same : pace.clock k ≡ pace.clock i = ap pace.clock mine in
                omega arith
            of (asks session r h at_time rest) = absurd cc

        pub probed_so : Probed ms k lt now (shared_entries (t.world.store k)) (readings_of (t.world.store k)) H.state H.came H.course
        probed_so = (subst (Then (Probed ms k lt now (shared_entries (t.world.store k)) (readings_of (t.world.store k)) H.state H.came)) H.reacts
            (probed ms k lt now (shared_entries (t.world.store k)) (readings_of (t.world.store k)) H.state (ready k H.member).0 H.came (let Z = S in Z.probes) not_due)).holds

        module _ (still_probes : same_phase H.course.state.phase phase.Probing ≡ true) where
          K : Keeps ms k lt now (shared_entries (t.world.store k)) (readings_of (t.world.store k)) H.state H.course
          K = keeps_on ms k lt now (shared_entries (t.world.store k)) (readings_of (t.world.store k)) H.state H.came H.course probed_so still_probes

          probing_next : IsSomeAnd (next.world.state i) (IsProbing ms pace i at)
          probing_next = closed (IsProbing ms pace i at) (next.world.state i) H.course.state (subst (λ (z : ℕ). next.world.state z ≡ Some H.course.state) mine H.did.up) (let Z = K in let Y = S in record {
            probes = Z.probes;
            ranks = Z.ranks Y.ranks;
            own = Z.outside i Y.own;
            few = Z.few Y.few;
            timers = λ kind end set. Y.timers kind end (sym (ap (end_of kind) Z.timers) ∙ set);
          })

          outside_next : (j : ℕ) → has H.course.state.prober.outside j ≡ true → IsSomeAnd (next.world.state i) (λ s. has s.prober.outside j ≡ true)
          outside_next j h = closed (λ (s : State). has s.prober.outside j ≡ true) (next.world.state i) H.course.state (subst (λ (z : ℕ). next.world.state z ≡ Some H.course.state) mine H.did.up) h

          -- an answer counts
          taken : (j : ℕ) → has q j ≡ true → (j ≡ i → ⊥) → (o : Owed) (m : Message) → IsAnswer ms pace i at t.world.messages j o → message_at t.world.messages o.number ≡ Some (record { to = k; message = m }) → H.came ≡ input.Deliver m
              → has H.course.state.prober.outside j ≡ true
          taken j qj nj o m A there is =
              let Y = S in
              let size = Y.ranks in
              let below = X.members j qj in
              let most = ms.most in
              let low : j < length H.state.prober.outside = omega arith in
              let two : Some (record { to = k; message = m }) ≡ Some (record { to = i; message = record { from = j; monitors = ms.count; epoch = A.epoch; body = body.ProbeReply A.quorum A.first A.last } }) = sym there ∙ A.there in
              let same : m ≡ record { from = j; monitors = ms.count; epoch = A.epoch; body = body.ProbeReply A.quorum A.first A.last } = ap (message_in m) two in
              let T : Then (Knows ms k lt now (shared_entries (t.world.store k)) (readings_of (t.world.store k)) H.state j) (react (member_of ms k lt) (shared_entries (t.world.store k)) now (readings_of (t.world.store k)) H.state H.came) =
              subst (λ (c : Input). Then (Knows ms k lt now (shared_entries (t.world.store k)) (readings_of (t.world.store k)) H.state j) (react (member_of ms k lt) (shared_entries (t.world.store k)) now (readings_of (t.world.store k)) H.state c)) (sym (is ∙ ap input.Deliver same))
              (reply_taken ms k lt now (shared_entries (t.world.store k)) (readings_of (t.world.store k)) H.state (ready k H.member).0 Y.probes j A.epoch A.quorum A.first A.last (λ z. nj (z ∙ mine)) low) in
              let N : Knows ms k lt now (shared_entries (t.world.store k)) (readings_of (t.world.store k)) H.state j H.course = (subst (Then (Knows ms k lt now (shared_entries (t.world.store k)) (readings_of (t.world.store k)) H.state j)) H.reacts T).holds in
              N.still still_probes

          awaits_mine : (j : ℕ) → has q j ≡ true → (j ≡ i → ⊥)
              → ArrivesBy (at + pace.delay) (IsProbe ms pace i at next.world.messages j) (next.under_way i j)
              ⊎ ArrivesBy (at + 2 * pace.delay) (IsAnswer ms pace i at next.world.messages j) (next.under_way j i)
              ⊎ IsSomeAnd (next.world.state i) (λ s. has s.prober.outside j ≡ true)
          awaits_mine j qj nj = elim (X.awaits j qj nj) [
            | inl a ↦ inl (probes_on j (subst (ArrivesBy (at + pace.delay) (IsProbe ms pace i at t.world.messages j)) (sym (same_left i j (λ z. nj (z ∙ mine)))) a))
            | inr o ↦ elim o [
              | inl a ↦ elim (came_or_left ms q pace t u next e H.left H.went k H.came H.state H.course H.how H.did (at + 2 * pace.delay) (IsAnswer ms pace i at t.world.messages j) j i (sym mine) a) [
                | inl c ↦ inr (inr (outside_next j (taken j qj nj c.0 c.1 c.2 c.4 c.5)))
                | inr rest ↦ inr (inl (answers_on j rest))
              ]
              | inr h ↦ inr (inr (outside_next j (let Z = K in Z.outside j (let z = opened (λ (s : State). has s.prober.outside j ≡ true) (t.world.state i) h in
                  subst (λ (s : State). has s.prober.outside j ≡ true) (one_state (t.world.state i) z.0 H.state z.1 (subst (λ (z : ℕ). t.world.state z ≡ Some H.state) mine H.up)) z.2))))
            ]
          ]

      -- ---- at another member

      module _ (other : k ≡ i → ⊥) where
        not_i : i ≡ k → ⊥
        not_i z = other (sym z)

        abbrev reply : Course
        reply = send (member_of ms k lt) i (body.ProbeReply (quorum_of H.state) (readings_of (t.world.store k)).first (readings_of (t.world.store k)).last) (at_rest (readings_of (t.world.store k)) H.state)

        abbrev answer : Envelope
        answer = record { to = i; message = record { from = k; monitors = ms.count; epoch = epoch_of (readings_of (t.world.store k)); body = body.ProbeReply (quorum_of H.state) (readings_of (t.world.store k)).first (readings_of (t.world.store k)).last } }

        answered : has q k ≡ true → (o : Owed) (m : Message) → IsProbe ms pace i at t.world.messages k o → u ≤ at + pace.delay → message_at t.world.messages o.number ≡ Some (record { to = k; message = m }) → H.came ≡ input.Deliver m
            → ArrivesBy (at + 2 * pace.delay) (IsAnswer ms pace i at next.world.messages k) (next.under_way k i)
        answered qk o m B le there is =
            subst (ArrivesBy (at + 2 * pace.delay) (IsAnswer ms pace i at next.world.messages k)) (sym (under k i ∙ ap (λ (ns : List ℕ). H.left k i ++ owed_by (u + pace.delay) ns) sends))
            (arrives_last (at + 2 * pace.delay) (IsAnswer ms pace i at next.world.messages k) (H.left k i) (record { number = suc count; by = u + pace.delay })
            (subst (AllByRecursion (λ o. o.by ≤ at + 2 * pace.delay)) (sym (same_left k i not_i)) (all_map (λ o. IsBetween t.world k i o.number × (o.by ≤ t.time + pace.delay)) (λ o. o.by ≤ at + 2 * pace.delay) (λ o h. (let l = h.1 in let p = M.later in omega arith)) (t.under_way k i) (X.under_way k i qk X.member)))
            (omega arith) (record { epoch = epoch_of (readings_of (t.world.store k)); quorum = quorum_of H.state; first = (readings_of (t.world.store k)).first; last = (readings_of (t.world.store k)).last; there = reply_there }))
          where
            started : same_phase H.state.phase phase.Booting ≡ false
            started = let z = opened (λ (s : State). same_phase s.phase phase.Booting ≡ false) (t.world.state k) (ready k H.member).1 in subst (λ (s : State). same_phase s.phase phase.Booting ≡ false) (one_state (t.world.state k) z.0 H.state z.1 H.up) z.2

            same : m ≡ record { from = i; monitors = ms.count; epoch = B.epoch; body = body.Probe }
            same = let two : Some (record { to = k; message = m }) ≡ Some (record { to = k; message = record { from = i; monitors = ms.count; epoch = B.epoch; body = body.Probe } }) = sym there ∙ B.there in ap (message_in m) two

            course_is : H.course ≡ reply
            course_is =
                let two : Ok H.course ≡ Ok reply = sym H.reacts ∙ ap (react (member_of ms k lt) (shared_entries (t.world.store k)) now (readings_of (t.world.store k)) H.state) (is ∙ ap input.Deliver same)
                ∙ probe_answered ms k lt now (shared_entries (t.world.store k)) (readings_of (t.world.store k)) H.state (ready k H.member).0 started i B.epoch not_i in
                cc

            sent : es ≡ answer ∷ []
            sent = ap (λ (y : Course). messages_of y.out) course_is

            sends : numbers k i (suc count) es ≡ suc count ∷ []
            sends = ap (numbers k i (suc count)) sent ∙ (let x = eq-eqb k k refl in let z = eq-eqb i i refl in rw (x, z) refl)

            reply_there : message_at next.world.messages (suc count) ≡ Some answer
            reply_there = let zeroth : suc count + 0 ≡ suc count = omega arith in
                subst (λ (z : ℕ). message_at next.world.messages z ≡ Some answer) zeroth
                (new_at ms q pace t u next e H.left H.went k H.came H.state H.course H.how H.did 0 answer (ap (λ (z : List Envelope). slice_get z 0) sent))

        probing_other : IsSomeAnd (next.world.state i) (IsProbing ms pace i at)
        probing_other = state_next (IsProbing ms pace i at) (IsProbing ms pace i at) i (λ z. absurd (not_i z)) (λ _ z h. h) X.probing

        awaits_other : (j : ℕ) → has q j ≡ true → (j ≡ i → ⊥)
            → ArrivesBy (at + pace.delay) (IsProbe ms pace i at next.world.messages j) (next.under_way i j)
            ⊎ ArrivesBy (at + 2 * pace.delay) (IsAnswer ms pace i at next.world.messages j) (next.under_way j i)
            ⊎ IsSomeAnd (next.world.state i) (λ s. has s.prober.outside j ≡ true)
        awaits_other j qj nj = elim (X.awaits j qj nj) [
          | inr o ↦ elim o [
            | inl a ↦ inr (inl (answers_on j (subst (ArrivesBy (at + 2 * pace.delay) (IsAnswer ms pace i at t.world.messages j)) (sym (same_left j i not_i)) a)))
            | inr h ↦ inr (inr (state_next (λ s. has s.prober.outside j ≡ true) (λ s. has s.prober.outside j ≡ true) i (λ z. absurd (not_i z)) (λ _ z h. h) h))
          ]
          | inl a ↦ elim (cases_eq j k) [
            | inr ne ↦ inl (probes_on j (subst (ArrivesBy (at + pace.delay) (IsProbe ms pace i at t.world.messages j)) (sym (same_left i j ne)) a))
            | inl same ↦ elim (came_or_left ms q pace t u next e H.left H.went k H.came H.state H.course H.how H.did (at + pace.delay) (IsProbe ms pace i at t.world.messages j) i j same a) [
              | inr rest ↦ inl (probes_on j rest)
              | inl c ↦ (let le = first_by (at + pace.delay) (IsProbe ms pace i at t.world.messages j) i j X.member qj a in
                  inr (inl (subst (λ (z : ℕ). ArrivesBy (at + 2 * pace.delay) (IsAnswer ms pace i at next.world.messages z) (next.under_way z i)) (sym same)
                  (answered H.member c.0 c.1 (subst (λ (z : ℕ). IsProbe ms pace i at t.world.messages z c.0) same c.2) le c.4 c.5))))
            ]
          ]
        ]

      -- ---- it probes on, or has left

      probes_next : IsSomeAnd (next.world.state i) (IsProbing ms pace i at)
          → ((j : ℕ) → has q j ≡ true → (j ≡ i → ⊥)
          → ArrivesBy (at + pace.delay) (IsProbe ms pace i at next.world.messages j) (next.under_way i j)
          ⊎ ArrivesBy (at + 2 * pace.delay) (IsAnswer ms pace i at next.world.messages j) (next.under_way j i)
          ⊎ IsSomeAnd (next.world.state i) (λ s. has s.prober.outside j ≡ true)) → Probes ms pace i at q next
      probes_next probing awaits = record {
        members = X.members;
        major = X.major;
        member = X.member;
        ups = λ j qj. state_next (λ s. Unit {0}) (λ s. Unit {0}) j (λ _. tt) (λ _ z h. h) (X.ups j qj);
        probing = probing;
        under_way = λ f j qf qj. next_all ms q pace t u next e H.left H.went k H.came H.state H.course H.how H.did (λ o. IsBetween next.world f j o.number × (o.by ≤ next.time + pace.delay)) f j
            (left_all ms q pace t u next e H.left H.went k H.came H.state H.course H.how H.did (λ o. IsBetween next.world f j o.number × (o.by ≤ next.time + pace.delay)) f j
            (all_map (λ o. IsBetween t.world f j o.number × (o.by ≤ t.time + pace.delay)) (λ o. IsBetween next.world f j o.number × (o.by ≤ next.time + pace.delay)) (λ o h. (
              let z = opened (λ (m : Envelope). (m.message.from ≡ f) × (m.to ≡ j)) (message_at t.world.messages o.number) h.0 in
                  closed (λ (m : Envelope). (m.message.from ≡ f) × (m.to ≡ j)) (message_at next.world.messages o.number) z.0 (there_still o.number z.0 z.1) z.2,
              (let l = h.1 in let a = M.later in let b = later in omega arith),
            )) (t.under_way f j) (X.under_way f j qf qj)))
            (λ d m there from to now_there. (closed (λ (m : Envelope). (m.message.from ≡ f) × (m.to ≡ j)) (message_at next.world.messages (suc count + d)) m now_there (from, to), (let b = later in omega arith)));
        awaits = awaits;
      }

      pub goes : Probes ms pace i at q next ⊎ IsSomeAnd (next.world.state i) (λ s. same_phase s.phase phase.Probing ≡ false)
      goes = elim (cases_eq k i) [
        | inr other ↦ inl (probes_next (probing_other other) (awaits_other other))
        | inl mine ↦ of mine (same_phase H.course.state.phase phase.Probing) refl
      ]
        where
          of : k ≡ i → (z : Bool) → same_phase H.course.state.phase phase.Probing ≡ z → Probes ms pace i at q next ⊎ IsSomeAnd (next.world.state i) (λ s. same_phase s.phase phase.Probing ≡ false)
          of mine true z = inl (probes_next (probing_next mine z) (awaits_mine mine z))
          of mine false z = inr (closed (λ (s : State). same_phase s.phase phase.Probing ≡ false) (next.world.state i) H.course.state (subst (λ (p : ℕ). next.world.state p ≡ Some H.course.state) mine H.did.up) z)

  -- ---- the run

  pub goes_on_by : (t last : Timed) (more : List (ℕ × Event)) → Probes ms pace i at q t → (L : Leads ms q pace t more last) → EachIs ms q pace (CanAnswer q) t more last L → at + 2 * pace.delay < last.time
      → GoesOnBy ms q pace t more i (at + 2 * pace.delay)
  goes_on_by t last [] X L ready late = let k = still_by t X last.time L.0 in absurd (omega arith)
  goes_on_by t last ((u, e) ∷ more) X L ready late =
      of (goes t X u L.0 L.1.0 e (handled ms q pace X.members t u (between t X u L.0) X.ups L.1.0 e L.1.1) ready.0) (λ Y. goes_on_by L.1.0 last more Y L.1.2 ready.1 late)
    where
      H : Handled ms q pace X.members t u L.1.0 e
      H = handled ms q pace X.members t u (between t X u L.0) X.ups L.1.0 e L.1.1

      of : Probes ms pace i at q L.1.0 ⊎ IsSomeAnd ((L.1.0).world.state i) (λ s. same_phase s.phase phase.Probing ≡ false) → (Probes ms pace i at q L.1.0 → GoesOnBy ms q pace L.1.0 more i (at + 2 * pace.delay)) → GoesOnBy ms q pace t ((u, e) ∷ more) i (at + 2 * pace.delay)
      of (inl Y) rest = (let W = rest Y in record {
        before = (u, e) ∷ W.before;
        after = W.after;
        parts = ap (λ (z : List (ℕ × Event)). (u, e) ∷ z) W.parts;
        reached = W.reached;
        run = (L.0, (L.1.0, L.1.1, W.run));
        by = W.by;
        left = W.left;
      })
      of (inr gone) rest = record {
        before = (u, e) ∷ [];
        after = more;
        parts = refl;
        reached = L.1.0;
        run = (L.0, (L.1.0, L.1.1, (here ms q pace L.1.0 last more L.1.2, refl)));
        by = (let b = still_by t X u L.0 in let z = time_is ms q pace t u L.1.0 e H.left H.went H.i H.came H.state H.course H.how H.did in omega arith);
        left = gone;
      }
