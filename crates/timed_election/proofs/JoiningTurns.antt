-- One event at a member that hasn't joined the election yet: it stays out of it, or joins.
use Rattle.election_rules.specs.Ranking.{outranks}
use Rattle.law_names.proofs.Runs.{Envelope, Event, Monitors, message_at, messages_of}
use Rattle.law_names.proofs.Table.{AllByRecursion, Body, Change, Epoch, Fits, Me, Readings, Sent, allows, end_of, epoch_of, has, is_allowed, message_to, no_ranks, only, others, played, readings_of, stands_before}
use Rattle.log_model.proofs.Lists.{all_map}
use Rattle.mon_wire.specs.declared.body.Body.TheVariants as body
use Rattle.mon_wire.specs.declared.phase.Phase.TheVariants as phase
use Rattle.mon_wire.specs.declared.phase.Timer.TheVariants as timer
use Rattle.quorum_elects.proofs.Standing.{among_map, among_others}
use Rattle.quorum_model.proofs.Members.{member_of}
use Rattle.quorum_stays.proofs.UnderWay.{numbers}
use Rattle.quorum_timed.specs.Calls.{IsCall}
use Rattle.quorum_timed.specs.Timed.{MayBe, Owed, Pace, Timed, owed_by}
use Rattle.quorum_walk.proofs.Lists.{Among as AmongE}
use Rattle.quorum_walk.proofs.Ranks.{has_only, has_only_is, nobody}
use Rattle.std.proofs.Common.{Bool, List, None, Option, Some, [], ap, arith, false, inl, inr, length, ltb, map, refl, slice_get, subst, suc, sym, true, ℕ, ◌&&◌, ◌*◌, ◌++◌, ◌+◌, ◌<◌, ◌^◌, ◌∙◌, ◌∷◌, ◌≡◌, ◌≤◌, ◌⊎◌}
use Rattle.std.proofs.lemmas.Bool.{cases_eq, eq-eqb, false≢true, lt-ltb}
use Rattle.std.proofs.lemmas.List.{length-set}
use Rattle.timed_election.proofs.Coming.{Handled, new_at}
use Rattle.timed_election.proofs.Entering.{Calls, IsFresh, Joined, Joins, calls, defers}
use Rattle.timed_election.proofs.Joining.{Beginning, Begun, Called, First, Goes, HeardIn, IsIn, Joining, Kept, Missed, Raised, Since, Standing, Takes, call, election, joined}
use Rattle.timed_election.proofs.JoiningComes.{Known, known, nobody_in}
use Rattle.timed_election.proofs.JoiningFrame.{IsMute, Said, Soon, Turned, acks_on, all_left, missed_on, on, others_same, out_by, same_left, there_still, time_now, under}
use Rattle.timed_election.proofs.Lists.{all_sent, among_sent, arrives_after, arrives_last, arrives_new, at_place, closed, one, opened, place_of}
use Rattle.timed_election.proofs.Outcomes.{Heard as Came}
use Rattle.timed_election.proofs.Quiet.{IsPlain, IsQuiet, leaves_stores, no_ack, no_call}
use Rattle.timed_election.proofs.Ranking.{nobody_better, not_itself}
use Rattle.timed_election.specs.Election.{ArrivesBy, CanElect, Defers, Heard, IsAck, Stands, TakesPart, in_election}
use Rattle.timed_election.specs.Joining.{CausesNoCopy, NeedsNoCopy}

module _ (ms : Monitors) (q : List Bool) (pace : Pace) (short : 2 * pace.delay < 2000) (B : Beginning) (C : CanElect ms q B.best) (enough : B.top + 2 * pace.delay ≤ B.end)
    (near : (i j : ℕ) → has q i ≡ true → has q j ≡ true → NeedsNoCopy (B.stores i).last (B.stores j).first (B.stores j).last) where
  abbrev F : Type 0
  F = First ms q pace B

  module _ (c : F) (t : Timed) (X : Joining ms q pace B c t) (u : ℕ) (M : MayBe ms q pace t u) (next : Timed) (e : Event) (H : Handled ms q pace C.members t u next e) where
    abbrev i : ℕ
    i = H.i

    abbrev lt : ltb i ms.count ≡ true
    lt = lt-ltb i ms.count (C.members i H.member)

    abbrev me : Me
    me = member_of ms i lt

    abbrev es : List Envelope
    es = messages_of H.course.out

    abbrev count : ℕ
    count = length t.world.messages

    abbrev due : ℕ
    due = u + pace.delay

    abbrev now : ℕ
    now = u + pace.clock i

    abbrev w : Readings
    w = readings_of (t.world.store i)

    abbrev T : F → Type 0
    T d = Turned ms q pace short B C enough c t X u M next e H d

    abbrev S : ℕ → Envelope → Type 0
    S after m = Said ms q pace short B C enough c t X u M next e H after m

    abbrev Mute : Envelope → Type 0
    Mute m = IsMute ms q pace short B C enough c t X u M next e H m

    pub time_is : next.time ≡ u
    time_is = time_now ms q pace short B C enough c t X u M next e H

    -- ---- what is sent

    near_plain : (b : Body) → w.first ≡ (B.stores i).first → w.last ≡ (B.stores i).last → IsPlain w b → (j : ℕ) → has q j ≡ true → CausesNoCopy (B.stores j).last b
    near_plain (body.ProbeReply r f l) a b p j qj = let n = near j i qj H.member in let x = p.0 in let z = p.1 in let n0 = n.0 in let n1 = n.1 in ((omega arith), (omega arith))
    near_plain other a b p j qj = tt

    pub quiet_said : (after : ℕ) (out : List Sent) → w.first ≡ (B.stores i).first → w.last ≡ (B.stores i).last → epoch_of w ≤ suc B.epoch → AllByRecursion (IsQuiet w i) out → AllByRecursion (S after) (messages_of out)
    quiet_said after out a b low k = all_sent (IsQuiet w i) (S after) (λ to m h. record {
      from = h.0;
      epoch = (let z = h.1 in omega arith);
      call_is = λ calling. absurd (no_call w m.body h.2 calling);
      near = near_plain m.body a b h.2;
      leaves = leaves_stores w m.body h.2;
    }) out k

    pub quiet_mute : (out : List Sent) → AllByRecursion (IsQuiet w i) out → AllByRecursion Mute (messages_of out)
    quiet_mute out k = all_sent (IsQuiet w i) Mute (λ to m h _. no_ack w m.body h.2) out k

    pub letters : (P : Envelope → Type 0) (n : ℕ) (b : Body) → ((to : ℕ) → P (record { to = to; message = record { from = i; monitors = ms.count; epoch = n; body = b } })) → (ks : List ℕ)
        → AllByRecursion P (messages_of (map (message_to me n b) ks))
    letters P n b f [] = tt
    letters P n b f (k ∷ ks) = (f k, letters P n b f ks)

    -- its calls
    pub calls_said : (after : ℕ) → after ≡ suc B.epoch → (ks : List ℕ) → AllByRecursion (S after) (messages_of (map (message_to me (suc B.epoch) (body.Propose None)) ks))
    calls_said after is ks = letters (S after) (suc B.epoch) (body.Propose None) (λ to. record { from = refl; epoch = (omega arith); call_is = λ _. (refl, is); near = λ j qj. tt; leaves = tt }) ks

    pub calls_mute : (ks : List ℕ) → AllByRecursion Mute (messages_of (map (message_to me (suc B.epoch) (body.Propose None)) ks))
    calls_mute ks = letters Mute (suc B.epoch) (body.Propose None) (λ to _ k. cc) ks

    pub at_sent : (P : Envelope → Type 0) → AllByRecursion P es → (n : ℕ) (m : Envelope) → slice_get es n ≡ Some m → P m
    at_sent P k n m there = at_place P es n m k there

    -- ---- what stays

    pub begun_on : (x : F) → Begun ms q pace B x t → Begun ms q pace B x next
    begun_on None k = tt
    begun_on (Some (a, from)) k = ((let l = k.0 in let m = M.later in let z = time_is in omega arith), k.1, k.2)

    pub called_on : (j : ℕ) → (j ≡ i → ⊥) → (x : F) → Called ms q pace B x t j → Called ms q pace B x next j
    called_on j ne None k = tt
    called_on j ne (Some (a, from)) k = (
      k.0,
      k.1,
      on ms q pace short B C enough c t X u M next e H (from + pace.delay) (λ o. message_at t.world.messages o.number ≡ Some (call ms q pace B a j)) (λ o. message_at next.world.messages o.number ≡ Some (call ms q pace B a j))
          (λ o there. there_still ms q pace short B C enough c t X u M next e H o.number (call ms q pace B a j) there) a j
          (subst (ArrivesBy (from + pace.delay) (λ o. message_at t.world.messages o.number ≡ Some (call ms q pace B a j))) (sym (same_left ms q pace short B C enough c t X u M next e H a j ne)) k.2),
    )

    pub takes_on : (j : ℕ) → (j ≡ i → ⊥) → (x : F) → Takes ms q pace B x t j → Takes ms q pace B x next j
    takes_on j ne None k = absurd k
    takes_on j ne (Some (a, from)) k = others_same ms q pace short B C enough c t X u M next e H _ j ne k

    same_in : (j : ℕ) → (j ≡ i → ⊥) → IsIn ms q pace B t j → IsIn ms q pace B next j
    same_in j ne k = subst (λ (m : _). epoch_of (readings_of m) ≡ suc B.epoch) (sym (H.did.stores j ne)) k

    -- one that `best` heard of, if the event is at neither of them
    pub heard_on : (j : ℕ) → (j ≡ i → ⊥) → (B.best ≡ i → ⊥) → (x : F) → HeardIn ms q pace B x t j → HeardIn ms q pace B x next j
    heard_on j ne nb None k = absurd k
    heard_on j ne nb (Some (a, from)) k = (
      same_in B.best nb k.0,
      same_in j ne k.1,
      (let Z : Heard ms pace (election ms q pace B from) q t j = k.2 in record {
        defers = others_same ms q pace short B C enough c t X u M next e H (Defers q pace (election ms q pace B from) next.time j) j ne
            (let o = opened (Defers q pace (election ms q pace B from) t.time j) (t.world.state j) Z.defers in
            closed (Defers q pace (election ms q pace B from) next.time j) (t.world.state j) o.0 o.1 (elim o.2 [ inl d ↦ inl d | inr l ↦ inr ((let a = l.0 in let z = time_is in let m = M.later in omega arith), l.1) ]));
        acks = elim Z.acks [
          | inl k ↦ inl (others_same ms q pace short B C enough c t X u M next e H (λ s. has s.elector.acked j ≡ true) B.best nb k)
          | inr k ↦ inr (acks_on ms q pace short B C enough c t X u M next e H _ j (subst (ArrivesBy _ (IsAck ms pace (election ms q pace B from) q t j)) (sym (same_left ms q pace short B C enough c t X u M next e H j B.best nb)) k))
        ];
      }),
    )

    -- its call is the first, or another was
    abbrev pub first_of : F → F
    first_of None = Some (i, u)
    first_of (Some x) = Some x

    -- ---- its store

    module _ (Z : Kept ms q pace B i w) where
      not_in : {A : Type 0} → IsIn ms q pace B t i → A
      not_in k = absurd (let a = Z.epoch in omega arith)

      module _ (same : H.course.changes ≡ []) where
        kept : readings_of (next.world.store i) ≡ w
        kept = (subst (λ (cs : List Change). AllByRecursion Fits cs → readings_of (next.world.store i) ≡ played cs w) same H.did.kept) tt

        pub stock_kept : Kept ms q pace B i (readings_of (next.world.store i))
        stock_kept = subst (Kept ms q pace B i) (sym kept) Z

        not_in_next : {A : Type 0} → IsIn ms q pace B next i → A
        not_in_next k = not_in (sym (ap epoch_of kept) ∙ k)

        -- ---- it doesn't join

        -- It sent neither calls nor acknowledgements.
        module _ (standing : Standing ms q pace B c next i) (probing : c ≡ None → B.former ≡ Some i → H.course.state.phase ≡ phase.Probing) (said : AllByRecursion (S (epoch_of (readings_of (next.world.store i)))) es)
            (mute : AllByRecursion Mute es) where
          pub stays_out : T c
          stays_out = record {
            begun = begun_on c X.begun;
            standing = standing;
            former = λ none. (none, probing none);
            called = λ j qj ne k. called_on j ne c k;
            since = λ at le k. k;
            takes = λ j ne k. takes_on j ne c k;
            inside = λ k. not_in k;
            said = said;
            calls = λ k. not_in_next k;
            told = λ j qj nj. elim (X.told j qj nj) [
              | inl N ↦ inl (missed_on ms q pace short B C enough c t X u M next e H j qj (λ n m there from to. at_sent Mute mute n m there to)
                  (λ is k. not_in_next (subst (IsIn ms q pace B next) (sym is) k)) N)
              | inr k ↦ inr (told_on j qj nj c k)
            ];
          }
            where
              told_on : (j : ℕ) → has q j ≡ true → (j ≡ B.best → ⊥) → (x : F) → HeardIn ms q pace B x t j → HeardIn ms q pace B x next j
              told_on j qj nj None k = absurd k
              told_on j qj nj (Some (a, from)) k = heard_on j (λ is. not_in (subst (IsIn ms q pace B t) is k.1)) (λ is. not_in (subst (IsIn ms q pace B t) is k.0)) (Some (a, from)) k

        -- It sent no more than quiet messages.
        pub stays_quiet : Standing ms q pace B c next i → (c ≡ None → B.former ≡ Some i → H.course.state.phase ≡ phase.Probing) → AllByRecursion (IsQuiet w i) H.course.out → T c
        stays_quiet standing probing quiet = stays_out standing probing
            (quiet_said (epoch_of (readings_of (next.world.store i))) H.course.out (ap (λ (z : Readings). z.first) Z.same) (ap (λ (z : Readings). z.last) Z.same) (let a = Z.epoch in omega arith) quiet)
            (quiet_mute H.course.out quiet)

      -- ---- it joins

      module _ (fits : suc B.epoch ≤ 2 ^ 62) (changed : H.course.changes ≡ Epoch (suc (epoch_of w)) ∷ []) where
        raised : readings_of (next.world.store i) ≡ record w { epoch = Some (suc B.epoch) }
        raised =
            let same : suc (epoch_of w) ≡ suc B.epoch = ap suc Z.epoch in
            (subst (λ (cs : List Change). AllByRecursion Fits cs → readings_of (next.world.store i) ≡ played cs w) (changed ∙ ap (λ (n : ℕ). Epoch n ∷ []) same) H.did.kept) (fits, tt)

        stock_raised : Raised ms q pace B i (readings_of (next.world.store i))
        stock_raised = subst (Raised ms q pace B i) (sym raised) (record { epoch = refl; unmarked = Z.unmarked; same = ap (played (Epoch (suc B.epoch) ∷ [])) Z.same })

        pub in_now : IsIn ms q pace B next i
        in_now = ap epoch_of raised

        soon : (u ≤ B.end) × Soon ms q pace short B C enough c t X u M c 3
        soon = out_by ms q pace short B C enough c t X u M i H.member Z.epoch

        begun_first : (x : F) → Soon ms q pace short B C enough c t X u M x 3 → Begun ms q pace B x t → Begun ms q pace B (first_of x) next
        begun_first None le k = ((let z = time_is in omega arith), (let a = X.since in let l = M.later in omega arith), le)
        begun_first (Some x) le k = begun_on (Some x) k

        somebody : (x : F) → first_of x ≡ None → ⊥
        somebody None is = cc
        somebody (Some x) is = cc

        since_first : (x : F) (at : ℕ) → at ≤ u → Since ms q pace B x at → Since ms q pace B (first_of x) at
        since_first None at le k = omega arith
        since_first (Some x) at le k = k

        takes_first : (j : ℕ) → (j ≡ i → ⊥) → (x : F) → Takes ms q pace B x t j → Takes ms q pace B (first_of x) next j
        takes_first j ne None k = absurd k
        takes_first j ne (Some x) k = takes_on j ne (Some x) k

        heard_first : (j : ℕ) → (j ≡ i → ⊥) → (B.best ≡ i → ⊥) → (x : F) → HeardIn ms q pace B x t j → HeardIn ms q pace B (first_of x) next j
        heard_first j ne nb None k = absurd k
        heard_first j ne nb (Some x) k = heard_on j ne nb (Some x) k

        -- it takes part
        module _ (candidate : Bool) (acked : List Bool) (whom : Option ℕ) (K : Joins ms i lt now w candidate acked whom H.course)
            (acks : (j : ℕ) → has acked j ≡ true → has q j ≡ true) (defers_to : (j : ℕ) → whom ≡ Some j → has q j ≡ true) where
          fresh : IsFresh ms i lt now w H.course.state.timers
          fresh = K.timers

          part : (from : ℕ) → from ≤ u → TakesPart q pace (election ms q pace B from) i H.course.state
          part from le = record {
            elects = K.phase;
            kinds = fresh.kinds;
            only = fresh.only;
            ends = closed (λ (end : ℕ). from + pace.clock i + 5000 ≤ end) (end_of timer.Election H.course.state.timers) (now + 5000) fresh.ends (omega arith);
            acks = λ j h. acks j (sym (ap (λ (z : List Bool). has z j) K.acked) ∙ h);
            defers = λ j h. defers_to j (sym K.deferred ∙ h);
          }

          module _ (stands : i ≡ B.best → (candidate ≡ true) × (acked ≡ only i)) where
            stands_so : (from : ℕ) → u ≤ from + 3 * pace.delay → i ≡ B.best → Stands q pace (election ms q pace B from) H.course.state
            stands_so from le is = record {
              candidate = K.candidate ∙ (stands is).0;
              ranks = ap length (K.acked ∙ (stands is).1) ∙ length-set no_ranks i true;
              own = ap (λ (z : List Bool). has z B.best) (K.acked ∙ (stands is).1) ∙ subst (λ (z : ℕ). has (only i) z ≡ true) is (has_only i (let a = C.members i H.member in let b = ms.most in omega arith));
              ends = closed (λ (end : ℕ). end ≤ (election ms q pace B from).by + pace.clock B.best + 5000) (end_of timer.Election H.course.state.timers) (now + 5000) fresh.ends
                  (let a = soon.0 in let clock : pace.clock i ≡ pace.clock B.best = ap pace.clock is in omega arith);
            }

            takes_new : (x : F) → Begun ms q pace B x t → Soon ms q pace short B C enough c t X u M x 3 → Takes ms q pace B (first_of x) next i
            takes_new None k l = closed _ (next.world.state i) H.course.state H.did.up (part u (omega arith), stands_so u (omega arith))
            takes_new (Some (a, from)) k l = closed _ (next.world.state i) H.course.state H.did.up (part from (let z = k.0 in let m = M.later in omega arith), stands_so from l)

            pub stands_now : Standing ms q pace B (first_of c) next i
            stands_now = joined stock_raised (takes_new c X.begun soon.1)

        -- what it says goes out by the others' side of the turn
        module _ (standing : Standing ms q pace B (first_of c) next i) (said : AllByRecursion (S (epoch_of (readings_of (next.world.store i)))) es)
            (first_calls : (j : ℕ) → has q j ≡ true → (j ≡ i → ⊥) → (x : F) → c ≡ x → Called ms q pace B x t j → Called ms q pace B (first_of x) next j)
            (calls_all : i ≡ B.best → (j : ℕ) → has q j ≡ true → (j ≡ i → ⊥) → (n : ℕ) × (slice_get es n ≡ Some (call ms q pace B i j)))
            (mine : (i ≡ B.best → ⊥) → Missed ms q pace B t i → Missed ms q pace B next i ⊎ HeardIn ms q pace B (first_of c) next i)
            (fresh_acks : i ≡ B.best → (j : ℕ) → (j ≡ i → ⊥) → has H.course.state.elector.acked j ≡ false) where
          not_heard : (x : F) → (j : ℕ) → (j ≡ i) ⊎ (B.best ≡ i) → HeardIn ms q pace B x t j → ⊥
          not_heard None j k h = h
          not_heard (Some x) j (inl is) h = not_in (subst (IsIn ms q pace B t) is h.1)
          not_heard (Some x) j (inr is) h = not_in (subst (IsIn ms q pace B t) is h.0)

          others_missed : (j : ℕ) → has q j ≡ true → (j ≡ B.best → ⊥) → (j ≡ i → ⊥) → Missed ms q pace B t j → Missed ms q pace B next j
          others_missed j qj nj ne N = missed_on ms q pace short B C enough c t X u M next e H j qj
              (λ n m there from to _. ne (sym from ∙ (let Y : S (epoch_of (readings_of (next.world.store i))) m = at_sent (S (epoch_of (readings_of (next.world.store i)))) said n m there in Y.from))) (λ is _. fresh_acks is j ne) N

          pub joins_so : T (first_of c)
          joins_so = record {
            begun = begun_first c soon.1 X.begun;
            standing = standing;
            former = λ none. absurd (somebody c none);
            called = λ j qj ne k. first_calls j qj ne c refl k;
            since = λ at le k. since_first c at le k;
            takes = λ j ne k. takes_first j ne c k;
            inside = λ k. not_in k;
            said = said;
            calls = λ _. inr (λ j qj ne is. calls_all is j qj ne);
            told = λ j qj nj. elim (cases_eq B.best i) [
              | inl is ↦ elim (X.told j qj nj) [
                | inl N ↦ inl (others_missed j qj nj (λ same. nj (same ∙ sym is)) N)
                | inr k ↦ absurd (not_heard c j (inr is) k)
              ]
              | inr nb ↦ elim (cases_eq j i) [
                | inl same ↦ subst (λ (z : ℕ). Missed ms q pace B next z ⊎ HeardIn ms q pace B (first_of c) next z) (sym same)
                    (elim (X.told j qj nj) [
                      | inl N ↦ mine (λ z. nb (sym z)) (subst (Missed ms q pace B t) same N)
                      | inr k ↦ absurd (not_heard c j (inl same) k)
                    ])
                | inr ne ↦ elim (X.told j qj nj) [
                  | inl N ↦ inl (others_missed j qj nj ne N)
                  | inr k ↦ inr (heard_first j ne nb c k)
                ]
              ]
            ];
          }

    -- ---- what goes out to all others

    module _ (n : ℕ) (b : Body) (all : es ≡ messages_of (map (message_to me n b) (others me))) where
      abbrev said_to : ℕ → Envelope
      said_to j = record { to = j; message = record { from = i; monitors = ms.count; epoch = n; body = b } }

      pub place_to : (j : ℕ) → has q j ≡ true → (j ≡ i → ⊥) → (d : ℕ) × (slice_get es d ≡ Some (said_to j))
      place_to j qj ne = place_of (said_to j) es (subst (λ (z : List Envelope). AmongE (said_to j) z) (sym all)
          (among_sent j ((said_to j).message) (map (message_to me n b) (others me)) (among_map (message_to me n b) j (others me) (among_others me j (C.members j qj) ne))))

      pub goes_out : (P : Owed → Type 0) (j : ℕ) → has q j ≡ true → (j ≡ i → ⊥) → ((k : ℕ) → message_at next.world.messages k ≡ Some (said_to j) → P (record { number = k; by = due })) → ArrivesBy due P (next.under_way i j)
      goes_out P j qj ne f =
          let k = place_to j qj ne in
          subst (ArrivesBy due P) (sym (under ms q pace short B C enough c t X u M next e H i j))
          (arrives_after due P (H.left i j) (owed_by due (numbers i j (suc count) es))
          (all_left ms q pace short B C enough c t X u M next e H (λ o. o.by ≤ due) i j
          (all_map (Goes ms q pace B t.world i j (t.time + pace.delay)) (λ o. o.by ≤ due) (λ o G. (let l = G.in_time in let m = M.later in omega arith)) (t.under_way i j) (X.under_way i j H.member qj)))
          (arrives_new due P i j (suc count) es k.0 (said_to j) k.1 refl refl (f (suc count + k.0) (new_at ms q pace t u next e H.left H.went i H.came H.state H.course H.how H.did k.0 (said_to j) k.1))))

    -- ---- a member that isn't in the election yet

    module _ (fits : suc B.epoch ≤ 2 ^ 62) (Z : Kept ms q pace B i w) where
      -- it calls the election
      pub call_turn : Calls ms i lt now w H.course → T (first_of c)
      call_turn K = joins_so Z fits changed (stands_now Z fits changed true (only i) None K.joins (λ j h. subst (λ (z : ℕ). has q z ≡ true) (sym (has_only_is i j h)) H.member) (λ j h. absurd (let clash : None ≡ Some j = h in cc)) (λ _. (refl, refl)))
          (subst (AllByRecursion (S (epoch_of (readings_of (next.world.store i))))) (sym all) (calls_said (epoch_of (readings_of (next.world.store i))) (in_now Z fits changed) (others me)))
          first_calls (λ _ j qj ne. place_to (suc B.epoch) (body.Propose None) all j qj ne)
          (λ nb N. inl (missed_on ms q pace short B C enough c t X u M next e H i H.member (λ n m there from to. at_sent Mute mute n m there to) (λ is. absurd (nb is)) N))
          (λ _ j ne. alone j ne (has H.course.state.elector.acked j) refl)
        where
          changed : H.course.changes ≡ Epoch (suc (epoch_of w)) ∷ []
          changed = let J = K.joins in J.changes

          all : es ≡ messages_of (map (message_to me (suc B.epoch) (body.Propose None)) (others me))
          all = ap messages_of K.out ∙ ap (λ (n : ℕ). messages_of (map (message_to me (suc n) (body.Propose None)) (others me))) Z.epoch

          mute : AllByRecursion Mute es
          mute = subst (AllByRecursion Mute) (sym all) (calls_mute (others me))

          first_calls : (j : ℕ) → has q j ≡ true → (j ≡ i → ⊥) → (x : F) → c ≡ x → Called ms q pace B x t j → Called ms q pace B (first_of x) next j
          first_calls j qj ne None is k = (H.member, (λ z. ne (sym z)), goes_out (suc B.epoch) (body.Propose None) all (λ o. message_at next.world.messages o.number ≡ Some (call ms q pace B i j)) j qj ne (λ k there. there))
          first_calls j qj ne (Some x) is k = called_on j ne (Some x) k

          alone : (j : ℕ) → (j ≡ i → ⊥) → (z : Bool) → has H.course.state.elector.acked j ≡ z → z ≡ false
          alone j ne false h = refl
          alone j ne true h = absurd (ne (has_only_is i j (let J = K.joins in sym (ap (λ (z : List Bool). has z j) J.acked) ∙ h)))

      -- it defers to a candidate
      defer_turn : (f : ℕ) (tb : _) (table : _) → Came ms.count H.came f (suc (epoch_of w)) (body.Propose tb) → (is_allowed me f && stands_before me table f i) ≡ true
          → Joins ms i lt now w false no_ranks (Some f) H.course → H.course.out ≡ message_to me (suc (epoch_of w)) body.Ack f ∷ [] → T (first_of c)
      defer_turn f tb table K better J out = joins_so Z fits J.changes (stands_now Z fits J.changes false no_ranks (Some f) J (λ j h. absurd (false≢true (sym (nobody j) ∙ h))) (λ j h. subst (λ (z : ℕ). has q z ≡ true) (let two : Some f ≡ Some j = h in cc) qf) (λ is. not_best is))
          (subst (AllByRecursion (S (epoch_of (readings_of (next.world.store i))))) (sym sent_is) (record { from = refl; epoch = (let a = Z.epoch in omega arith); call_is = λ k. absurd k; near = λ j qj. tt; leaves = tt }, tt))
          first_calls (λ is. not_best is) mine (λ is. not_best is)
        where
          N : Known ms q pace B C c t X u next e H K.message
          N = known ms q pace B C c t X u next e H K.message K.is

          qf : has q f ≡ true
          qf = subst (λ (z : ℕ). has q z ≡ true) K.from N.member

          f_in : IsIn ms q pace B t f
          f_in = subst (IsIn ms q pace B t) K.from (N.calls (subst IsCall (sym K.says) tt)).1

          not_best : {A : Type 0} → i ≡ B.best → A
          not_best is = elim (cases_eq f B.best) [
            | inl same ↦ absurd (not_itself ms table B.best (subst (λ (z : ℕ). (allows ms.rule z && outranks ms.rule ms.count table z B.best) ≡ true) same (subst (λ (z : ℕ). (allows ms.rule f && outranks ms.rule ms.count table f z) ≡ true) is better)))
            | inr ne ↦ absurd (nobody_better ms q B.best C f qf ne table (subst (λ (z : ℕ). (allows ms.rule f && outranks ms.rule ms.count table f z) ≡ true) is better))
          ]

          sent_is : es ≡ one (record { to = f; message = record { from = i; monitors = ms.count; epoch = suc (epoch_of w); body = body.Ack } })
          sent_is = ap messages_of out

          first_calls : (j : ℕ) → has q j ≡ true → (j ≡ i → ⊥) → (x : F) → c ≡ x → Called ms q pace B x t j → Called ms q pace B (first_of x) next j
          first_calls j qj ne None is k = absurd (nobody_in ms q pace B c t X f qf f_in is)
          first_calls j qj ne (Some x) is k = called_on j ne (Some x) k

          mine : (i ≡ B.best → ⊥) → Missed ms q pace B t i → Missed ms q pace B next i ⊎ HeardIn ms q pace B (first_of c) next i
          mine nb L = elim (cases_eq f B.best) [
            | inr ne ↦ inl (missed_on ms q pace short B C enough c t X u M next e H i H.member
                (λ n m there from to. at_sent Mute (subst (AllByRecursion Mute) (sym sent_is) ((λ is _. ne is), tt)) n m there to) (λ is. absurd (nb is)) L)
            | inl same ↦ inr (hears same c refl)
          ]
            where
              hears : f ≡ B.best → (x : F) → c ≡ x → HeardIn ms q pace B (first_of x) next i
              hears same None is = absurd (nobody_in ms q pace B c t X f qf f_in is)
              hears same (Some (a, from)) is = (
                same_in B.best (λ z. nb (sym z)) (subst (IsIn ms q pace B t) same f_in),
                in_now Z fits J.changes,
                record {
                  defers = closed (Defers q pace (election ms q pace B from) next.time i) (next.world.state i) H.course.state H.did.up (inl (J.candidate, J.deferred ∙ ap Some same));
                  acks = inr (subst (ArrivesBy ((election ms q pace B from).by + pace.again + pace.delay) (IsAck ms pace (election ms q pace B from) q next i)) (sym (under ms q pace short B C enough c t X u M next e H i B.best ∙ ap (λ (ns : List ℕ). H.left i B.best ++ owed_by due ns) sends))
                      (arrives_last ((election ms q pace B from).by + pace.again + pace.delay) (IsAck ms pace (election ms q pace B from) q next i) (H.left i B.best) (record { number = suc count; by = due })
                      (all_left ms q pace short B C enough c t X u M next e H (λ o. o.by ≤ ((election ms q pace B from).by + pace.again + pace.delay)) i B.best
                      (all_map (Goes ms q pace B t.world i B.best (t.time + pace.delay)) (λ o. o.by ≤ ((election ms q pace B from).by + pace.again + pace.delay)) (λ o G. (let l = G.in_time in let m = M.later in let k = in_time in omega arith)) (t.under_way i B.best) (X.under_way i B.best H.member C.member)))
                      in_time ack));
                },
              )
                where
                  soon : (u ≤ B.end) × (u ≤ from + 3 * pace.delay)
                  soon = let o = out_by ms q pace short B C enough c t X u M i H.member Z.epoch in (o.0, soon_is c is o.1)
                    where
                      soon_is : (x : F) → x ≡ Some (a, from) → Soon ms q pace short B C enough c t X u M x 3 → u ≤ from + 3 * pace.delay
                      soon_is None z k = absurd cc
                      soon_is (Some (b, at)) z k = (let same : (b, at) ≡ (a, from) = (let two : Some (b, at) ≡ Some (a, from) = z in cc) in let n : at ≡ from = ap (λ (p : ℕ × ℕ). p.1) same in omega arith)

                  in_time : due ≤ ((election ms q pace B from).by + pace.again + pace.delay)
                  in_time = let a = soon.0 in let b = soon.1 in omega arith

                  sent : es ≡ (in_election ms (election ms q pace B from) i B.best body.Ack) ∷ []
                  sent = sent_is ∙ ap (λ (z : ℕ). one (record { to = z; message = record { from = i; monitors = ms.count; epoch = suc (epoch_of w); body = body.Ack } })) same ∙ ap (λ (z : ℕ). one (record { to = B.best; message = record { from = i; monitors = ms.count; epoch = suc z; body = body.Ack } })) Z.epoch

                  sends : numbers i B.best (suc count) es ≡ suc count ∷ []
                  sends = ap (numbers i B.best (suc count)) sent ∙ (let x = eq-eqb i i refl in let z = eq-eqb B.best B.best refl in rw (x, z) refl)

                  ack : (IsAck ms pace (election ms q pace B from) q next i) (record { number = suc count; by = due })
                  ack = let zeroth : suc count + 0 ≡ suc count = omega arith in subst (λ (z : ℕ). message_at next.world.messages z ≡ Some (in_election ms (election ms q pace B from) i B.best body.Ack)) zeroth
                      (new_at ms q pace t u next e H.left H.went i H.came H.state H.course H.how H.did 0 (in_election ms (election ms q pace B from) i B.best body.Ack) (ap (λ (z : List Envelope). slice_get z 0) sent))

      pub joined_turn : Joined ms i lt now w H.came H.course → T (first_of c)
      joined_turn (calls K) = call_turn K
      joined_turn (defers f tb table K better J out) = defer_turn f tb table K better J out
