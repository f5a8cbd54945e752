-- The rows by which a leader asks what was accepted, if no member lacks more than one version.
use Rattle.law_names.proofs.Runs.{Monitors}
use Rattle.law_names.proofs.Table.{Body, Course, Entry, Found, Last, Learn, Me, Numbers, Op, Promise, Readings, Sent, State, Told, Vote, Which, all_answered, are_within, at_rest, be_active, begin_found, begin_with, better, cancel, change, change_if, collect, collect_with, commits_to, commits_with, counts, epoch_of, epoch_or_first, extend, fits, flat_map, has, hear_whole, is_alone, last_answer, learn, members, message_to, missed, most_value, news_from, next_number, note, note_pending, only, or_zero, play, promise_of, react, record_at, settle, text, with_rank, ◌>>=◌}
use Rattle.mon_msg.specs.Protocol.Leader.{note_answer}
use Rattle.mon_msg.specs.declared.input.Input.TheVariants as input
use Rattle.mon_msg.specs.declared.paxos.LeaderStage.TheVariants as stage
use Rattle.mon_msg.specs.declared.plan.Sent.TheVariants as send
use Rattle.mon_types.specs.declared.names.Which.TheVariants as which
use Rattle.mon_wire.specs.declared.body.Body.TheVariants as body
use Rattle.mon_wire.specs.declared.phase.Phase.TheVariants as phase
use Rattle.quorum_elects.proofs.Moving.{Sound}
use Rattle.quorum_elects.proofs.Ranks.{same_or_not}
use Rattle.quorum_elects.proofs.Rows.{sound_more}
use Rattle.quorum_elects.proofs.Standing.{SaysTo, among_map, among_members, letter}
use Rattle.quorum_elects.proofs.Tests.{and_false}
use Rattle.quorum_elects.proofs.Values.{FoundShort, pending_short}
use Rattle.quorum_elects.proofs.Walking.{Surely, and_then, both, by_test, done, so, weaken, where_fits}
use Rattle.quorum_model.proofs.Members.{member_of}
use Rattle.quorum_recovers.proofs.LastAnswers.{IsAnswer, ToldShort, answer_is, better_short, counts_short}
use Rattle.quorum_recovers.proofs.States.{IsActive, IsAsking, IsHearing, IsProposing, among_flat, asks_of, follows, get_other, get_set, lease_given, missed_one}
use Rattle.quorum_walk.proofs.FineCourses.{Val}
use Rattle.quorum_walk.proofs.Lists.{Among, among_left, among_right}
use Rattle.quorum_walk.proofs.Ranks.{has_only_is, has_with_is, within_at}
use Rattle.quorum_walk.proofs.Sparing.{Own, Spares, learned_own, own_of}
use Rattle.std.proofs.Common.{Bool, List, None, Ok, Option, Result, Some, [], ap, arith, cond, drop, eqb, false, if◌then◌else◌, inl, inr, length, ltb, map, max, refl, replicate, slice_index_or, slice_set, subst, suc, sym, true, zero, ℕ, ◌&&◌, ◌+◌, ◌-◌, ◌<◌, ◌^◌, ◌∙◌, ◌∷◌, ◌≡◌, ◌≤◌, ◌⊎◌}
use Rattle.std.proofs.lemmas.Bool.{le-ltb, lt-ltb, ltb-false, ltb-true}
use Rattle.std.proofs.lemmas.List.{length-set}
use Rattle.table_rows.proofs.Electing as electing
use Rattle.table_rows.proofs.Electing.{collect_row, greater_last_row, last_row, number_above, promised}
use Rattle.table_rows.proofs.Serving.{begins, learned, learns_one}

module _ (ms : Monitors) (several : 1 < ms.count) (i : ℕ) (lt : ltb i ms.count ≡ true) (sh : List Entry) (now : ℕ) where
  abbrev n : ℕ
  n = ms.count

  abbrev me : Me
  me = member_of ms i lt

  abbrev Does : Readings → (Course → Type 0) → Course → Type 0
  Does w R y = Sound w y × R y

  -- ---- a peon is asked

  pub record Matches (r e : ℕ) (a : List Bool) (l p first from : ℕ) (y : Course) : Type 0 where
    pub stands : IsHearing r e a l p y.readings y.state
    pub tells : Body
    pub answer : IsAnswer tells p first l from
    pub says : Among (send.Message r (letter n i e tells)) y.out

  pub asked : (w : Readings) (s : State) (r e : ℕ) (a : List Bool) (l p : ℕ) → IsHearing r e a l p w s → (r ≡ i → ⊥) → (pn first last : ℕ) → pn ≤ 2 ^ 62 → suc last ≤ 2 ^ 62 → ltb (suc w.last) first ≡ false
      → w.last ≤ suc last → (w.last ≡ suc last → w.first ≤ suc last × ((x : List Op) × (record_at w.record_of (suc last) ≡ Some x) × (length (text x) ≤ most_value)))
      → Surely (Does w (Matches r e a l (max p pn) w.first (suc last))) (react me sh now w s (input.Deliver (letter n r e (body.Collect pn first last))))
  asked w s r e a l p P ne pn first last short room kept high known = so (collect_row me sh now (follows P ne) pn first last kept room) (by (ltb (promise_of w) pn) refl)
    where
      by : (b : Bool) → ltb (promise_of w) pn ≡ b
          → Surely (Does w (Matches r e a l (max p pn) w.first (suc last))) (Ok (record (change_if b (Promise pn) (cancel (at_rest w s))) {
            out = message_to me (epoch_of (change_if b (Promise pn) (cancel (at_rest w s))).readings) (last_answer n (change_if b (Promise pn) (cancel (at_rest w s))).readings (suc last)) r ∷ [];
          }))
      by true t = done (
        record { tells = refl; fits = (short, tt); short = (tt, tt); unmarked = P.unmarked },
        record {
          stands = record { unmarked = P.unmarked; epoch = P.epoch; last = P.last; promised = (let q = P.promised in let z = ltb-true (promise_of w) pn t in omega arith); phase = P.phase; leader = P.leader; quorum = P.quorum };
          tells = last_answer n (play (Promise pn) w) (suc last);
          answer = subst (λ (z : ℕ). IsAnswer (last_answer n (play (Promise pn) w) (suc last)) z w.first l (suc last)) (let q = P.promised in let z = ltb-true (promise_of w) pn t in omega arith)
              (subst (λ (z : ℕ). IsAnswer (last_answer n (play (Promise pn) w) (suc last)) pn w.first z (suc last)) P.last (answer_is n (play (Promise pn) w) (suc last) high known));
          says = inl (ap (λ (z : ℕ). send.Message r (letter n i z (last_answer n (play (Promise pn) w) (suc last)))) (sym P.epoch));
        },
      )
      by false t = done (
        record { tells = refl; fits = tt; short = tt; unmarked = P.unmarked },
        record {
          stands = record { unmarked = P.unmarked; epoch = P.epoch; last = P.last; promised = (let q = P.promised in let z = ltb-false (promise_of w) pn t in omega arith); phase = P.phase; leader = P.leader; quorum = P.quorum };
          tells = last_answer n w (suc last);
          answer = subst (λ (z : ℕ). IsAnswer (last_answer n w (suc last)) z w.first l (suc last)) (let q = P.promised in let z = ltb-false (promise_of w) pn t in omega arith)
              (subst (λ (z : ℕ). IsAnswer (last_answer n w (suc last)) (promise_of w) w.first z (suc last)) P.last (answer_is n w (suc last) high known));
          says = inl (ap (λ (z : ℕ). send.Message r (letter n i z (last_answer n w (suc last)))) (sym P.epoch));
        },
      )

  -- ---- the leader asks

  -- it asks under a number above one, and at most another
  pub record Asks (e : ℕ) (a : List Bool) (l above top : ℕ) (T : ℕ → ℕ) (y : Course) : Type 0 where
    pub pn : ℕ
    pub high : above < pn
    pub low : pn ≤ top
    pub stands : IsAsking i e a l pn (only i) T y.readings y.state
    pub says : SaysTo n i e a (body.Collect pn y.readings.first l) y.out

  only_self : (T : ℕ → ℕ) (f : ℕ) → has (only i) f ≡ true → (f ≡ i → ⊥) → slice_index_or {A = ℕ} (replicate 15 0) f 0 ≡ T f
  only_self T f h ne = absurd (ne (has_only_is i f h))

  collects : (w : Readings) (x : Course) → Sound w x → (e : ℕ) (a : List Bool) (l above least top : ℕ) (T : ℕ → ℕ) → least ≤ max (promise_of x.readings) above → next_number (or_zero x.readings.last_pn) (max (promise_of x.readings) above) i ≤ top → top ≤ 2 ^ 62
      → epoch_of x.readings ≡ e → x.readings.last ≡ l → x.state.clients.queue ≡ [] → is_alone me a ≡ false → Surely (Does w (Asks e a l least top T)) (collect me now a above x)
  unfolding collect_with
  collects w x S e a l above least top T rises next room at last queue several =
      let pn = number_above me x.readings above in
      let short : number_above me x.readings above ≤ 2 ^ 62 = omega arith in
      let Z : Sound w (change (Numbers pn) x) = sound_more w x (Numbers pn) short tt S.unmarked S in
      so (electing.collects me now a above x short several) (done (
        record { tells = Z.tells; fits = Z.fits; short = Z.short; unmarked = Z.unmarked },
        record {
          pn = pn;
          high = omega arith;
          low = next;
          stands = record { unmarked = S.unmarked; epoch = at; last = last; promised = refl; own = refl; short = short; phase = refl; quorum = refl; number = refl; found = pending_short x.readings; answered = refl; lasts = only_self T; long = refl; queue = queue };
          says = λ g lt h ne. among_right (send.Message g (letter n i e (body.Collect pn x.readings.first l))) x.out _
              (subst (λ (z : ℕ). Among (send.Message g (letter n i z (body.Collect pn x.readings.first l))) (map (message_to me (epoch_of x.readings) (body.Collect pn x.readings.first x.readings.last)) (members me a))) at
              (subst (λ (z : ℕ). Among (send.Message g (letter n i (epoch_of x.readings) (body.Collect pn x.readings.first z))) (map (message_to me (epoch_of x.readings) (body.Collect pn x.readings.first x.readings.last)) (members me a))) last
              (among_map (message_to me (epoch_of x.readings) (body.Collect pn x.readings.first x.readings.last)) g (members me a) (among_members me a g lt h ne))));
        },
      ))

  rank_low : i ≤ 14
  rank_low = let z = ltb-true i n lt in let m = ms.most in omega arith

  -- a member promised more
  pub asks_above : (w : Readings) (s : State) (e : ℕ) (a : List Bool) (l pn : ℕ) (A : List Bool) (T : ℕ → ℕ) → IsAsking i e a l pn A T w s → is_alone me a ≡ false → (f : ℕ) → has a f ≡ true → (f ≡ i → ⊥)
      → (p first last : ℕ) (whole : Bool) (from : ℕ) (values : List (List Op)) (told : Option Told) → pn < p → (top : ℕ) → p + 114 ≤ top → top ≤ 2 ^ 62
      → Surely (Does w (Asks e a l p top T)) (react me sh now w s (input.Deliver (letter n f e (body.Last p first last whole from values told))))
  asks_above w s e a l pn A T P others f h ne p first last whole from values told more top high room =
      so (greater_last_row me sh now (asks_of P ne h) p first last whole from values told (let z = P.number in omega arith))
      (subst (λ (b : List Bool). Surely (Does w (Asks e a l p top T)) (collect me now b p (at_rest w s))) (sym P.quorum)
      (collects w (at_rest w s) (record { tells = refl; fits = tt; short = tt; unmarked = P.unmarked }) e a l p p top T (omega arith) (let z = P.own in let y = P.promised in let k = rank_low in omega arith) room P.epoch P.last P.queue others))

  -- ---- all answered

  pub commits_one : (w : Readings) (lasts : List ℕ) (f t : ℕ) (x : List Op) → slice_index_or lasts f 0 ≡ t → suc t ≡ w.last → record_at w.record_of w.last ≡ Some x → length (text x) ≤ most_value
      → commits_to me w lasts f ≡ message_to me (epoch_of w) (body.Commit (suc t) (x ∷ [])) f ∷ []
  commits_one w lasts f t x e last is short =
      ap (λ (told : ℕ). cond (ltb told w.last) (commits_with me (epoch_of w) told (missed n w.record_of w.last told) f) []) e
      ∙ ap (λ b. cond b (commits_with me (epoch_of w) t (missed n w.record_of w.last t) f) []) (lt-ltb t w.last (omega arith))
      ∙ ap (λ (vs : List (List Op)). commits_with me (epoch_of w) t vs f) (missed_one n w.record_of w.last t x last is short)

  -- who lacks a version gets it
  abbrev pub CatchesUp : ℕ → List Bool → ℕ → (ℕ → ℕ) → List Op → List Sent → Type 0
  CatchesUp e a l T x out = (f : ℕ) → f < n → has a f ≡ true → (f ≡ i → ⊥) → T f < l → Among (send.Message f (letter n i e (body.Commit l (x ∷ [])))) out

  abbrev pub GoesOn : ℕ → List Bool → (l pn : ℕ) → Course → Type 0
  GoesOn e a l pn y = IsActive i e a l pn y.readings y.state
      ⊎ ((value : List Op) × IsProposing phase.Previous i e a l pn (only i) value None y.readings y.state × SaysTo n i e a (body.Begin pn (suc l) value) y.out)

  pub record Settles (e : ℕ) (a : List Bool) (l pn : ℕ) (T : ℕ → ℕ) (x : List Op) (y : Course) : Type 0 where
    pub commits : CatchesUp e a l T x y.out
    pub goes : GoesOn e a l pn y

  -- by a leader that has no member left to hear
  finds : (w : Readings) (x : Course) → Sound w x → (e : ℕ) (a : List Bool) (l pn : ℕ) (A : List Bool) (T : ℕ → ℕ) → IsAsking i e a l pn A T x.readings x.state → is_alone me a ≡ false → suc l ≤ 2 ^ 62 → (found : Option Found) → FoundShort found → (v : List Op) → CatchesUp e a l T v x.out
      → Surely (Does w (Settles e a l pn T v)) (begin_found me now found x)
  unfolding be_active extend begin_with
  finds w x S e a l pn A T P others room None fine v C = done (
    record { tells = S.tells; fits = S.fits; short = S.short; unmarked = S.unmarked },
    record {
      commits = λ f few h ne low. among_left (send.Message f (letter n i e (body.Commit l (v ∷ [])))) x.out _ (C f few h ne low);
      goes = inl (record { unmarked = P.unmarked; epoch = P.epoch; last = P.last; promised = P.promised; short = P.short; phase = refl; quorum = P.quorum; number = P.number; lease = lease_given now; queue = P.queue });
    },
  )
  finds w x S e a l pn A T P others room (Some f) fine v C =
      by_test (eqb f.version (suc x.readings.last))
      (λ _.
      let fits : suc x.readings.last ≤ 2 ^ 62 = (let z = P.last in omega arith) in
      let Z : Sound w (change (Vote (suc x.readings.last) x.state.leader.pn f.value) x) = sound_more w x (Vote (suc x.readings.last) x.state.leader.pn f.value) (fits, (let z = P.number in let s = P.short in omega arith)) (omega arith) S.unmarked S in
      so (begins me now stage.Previous f.value None x fits (ap (is_alone me) P.quorum ∙ others)) (done (
        record { tells = Z.tells; fits = Z.fits; short = Z.short; unmarked = Z.unmarked },
        record {
          commits = λ g few h ne low. among_left (send.Message g (letter n i e (body.Commit l (v ∷ [])))) x.out _ (C g few h ne low);
          goes = inr (
            f.value,
            record { unmarked = P.unmarked; epoch = P.epoch; last = P.last; promised = P.promised; short = P.short; room = (let z = P.last in omega arith); phase = refl; quorum = P.quorum; number = P.number; accepted = refl; proposes = refl; origin = refl; queue = P.queue },
            λ g few h ne. among_right (send.Message g (letter n i e (body.Begin pn (suc l) f.value))) x.out _ (begun g few h ne),
          );
        },
      )))
      (λ _. done (
        record { tells = S.tells; fits = S.fits; short = S.short; unmarked = S.unmarked },
        record {
          commits = λ g few h ne low. among_left (send.Message g (letter n i e (body.Commit l (v ∷ [])))) x.out _ (C g few h ne low);
          goes = inl (record { unmarked = P.unmarked; epoch = P.epoch; last = P.last; promised = P.promised; short = P.short; phase = refl; quorum = P.quorum; number = P.number; lease = lease_given now; queue = P.queue });
        },
      ))
    where
      begun : (g : ℕ) → g < n → has a g ≡ true → (g ≡ i → ⊥) → Among (send.Message g (letter n i e (body.Begin pn (suc l) f.value))) (map (message_to me (epoch_of x.readings) (body.Begin x.state.leader.pn (suc x.readings.last) f.value)) (members me x.state.leader.quorum))
      begun g few h ne =
          subst (λ (b : List Bool). Among (send.Message g (letter n i e (body.Begin pn (suc l) f.value))) (map (message_to me (epoch_of x.readings) (body.Begin x.state.leader.pn (suc x.readings.last) f.value)) (members me b))) (sym P.quorum)
          (subst (λ (z : ℕ). Among (send.Message g (letter n i z (body.Begin pn (suc l) f.value))) (map (message_to me (epoch_of x.readings) (body.Begin x.state.leader.pn (suc x.readings.last) f.value)) (members me a))) P.epoch
          (subst (λ (z : ℕ). Among (send.Message g (letter n i (epoch_of x.readings) (body.Begin z (suc l) f.value))) (map (message_to me (epoch_of x.readings) (body.Begin x.state.leader.pn (suc x.readings.last) f.value)) (members me a))) P.number
          (subst (λ (z : ℕ). Among (send.Message g (letter n i (epoch_of x.readings) (body.Begin x.state.leader.pn (suc z) f.value))) (map (message_to me (epoch_of x.readings) (body.Begin x.state.leader.pn (suc x.readings.last) f.value)) (members me a))) P.last
          (among_map (message_to me (epoch_of x.readings) (body.Begin x.state.leader.pn (suc x.readings.last) f.value)) g (members me a) (among_members me a g few h ne)))))

  pub settles : (w : Readings) (x : Course) → Sound w x → (e : ℕ) (a : List Bool) (l pn : ℕ) (A : List Bool) (T : ℕ → ℕ) → IsAsking i e a l pn A T x.readings x.state → is_alone me a ≡ false → suc l ≤ 2 ^ 62
      → ((f : ℕ) → f < n → has a f ≡ true → has A f ≡ true) → ((f : ℕ) → has a f ≡ true → l ≤ suc (T f)) → (v : List Op) → (1 ≤ l → (record_at x.readings.record_of l ≡ Some v) × (length (text v) ≤ most_value))
      → Surely (Does w (Settles e a l pn T v)) (settle me now x)
  unfolding settle
  settles w x S e a l pn A T P others room all lag v known =
      finds w _ (record { tells = S.tells; fits = S.fits; short = S.short; unmarked = S.unmarked }) e a l pn A T (record { unmarked = P.unmarked; epoch = P.epoch; last = P.last; promised = P.promised; own = P.own; short = P.short; phase = P.phase; quorum = P.quorum; number = P.number; found = tt; answered = P.answered; lasts = P.lasts; long = P.long; queue = P.queue })
      others room x.state.leader.found P.found v (λ f few h ne low. among_right (send.Message f (letter n i e (body.Commit l (v ∷ [])))) x.out _ (tells f few h ne low))
    where
      tells : (f : ℕ) → f < n → has a f ≡ true → (f ≡ i → ⊥) → T f < l → Among (send.Message f (letter n i e (body.Commit l (v ∷ [])))) (flat_map (commits_to me x.readings x.state.leader.lasts) (members me x.state.leader.quorum))
      tells f few h ne low =
          let k = known (omega arith) in
          let g = lag f h in
          let next : suc (T f) ≡ l = omega arith in
          let one = commits_one x.readings x.state.leader.lasts f (T f) v (P.lasts f (all f few h) ne) (next ∙ sym P.last) (ap (record_at x.readings.record_of) P.last ∙ k.0) k.1 in
          let there : Among (send.Message f (letter n i e (body.Commit l (v ∷ [])))) (commits_to me x.readings x.state.leader.lasts f) =
          subst (λ (out : List Sent). Among (send.Message f (letter n i e (body.Commit l (v ∷ [])))) out) (sym one) (inl (λ j. send.Message f (letter n i (sym P.epoch j) (body.Commit (sym next j) (v ∷ []))))) in
          among_flat (commits_to me x.readings x.state.leader.lasts) (send.Message f (letter n i e (body.Commit l (v ∷ [])))) f (members me x.state.leader.quorum) there
          (subst (λ (b : List Bool). Among f (members me b)) (sym P.quorum) (among_members me a f few h ne))

  -- ---- one more answered

  abbrev pub Hears : ℕ → List Bool → (l pn : ℕ) → List Bool → (ℕ → ℕ) → List Op → Course → Type 0
  Hears e a l pn A T v y = (IsAsking i e a l pn A T y.readings y.state × (are_within n a A ≡ false)) ⊎ (Settles e a l pn T v y × (are_within n a A ≡ true))

  noted : (w : Readings) (x : Course) → Sound w x → (e : ℕ) (a : List Bool) (l pn : ℕ) (A : List Bool) (T : ℕ → ℕ) → IsAsking i e a l pn A T x.readings x.state → (f lf : ℕ) → f < n → T f ≡ lf → suc lf ≤ 2 ^ 62 → (told : Option Told)
      → Surely (Does w (λ y. IsAsking i e a l pn (with_rank A f) T y.readings y.state)) (note f lf told x)
  noted w x S e a l pn A T P f lf few is room told = by (counts told) (counts_short told)
    where
      lasts : (g : ℕ) → has (with_rank A f) g ≡ true → (g ≡ i → ⊥) → slice_index_or (slice_set x.state.leader.lasts f lf) g 0 ≡ T g
      lasts g h ne = elim (same_or_not g f) [
        | inl e ↦ subst (λ (z : ℕ). slice_index_or (slice_set x.state.leader.lasts f lf) z 0 ≡ T z) (sym e) (get_set x.state.leader.lasts f lf (let q = P.long in omega arith) ∙ sym is)
        | inr other ↦ get_other x.state.leader.lasts f g lf other ∙ P.lasts g (elim (has_with_is A f g h) [ inl e ↦ absurd (other e) | inr o ↦ o ]) ne
      ]

      stands : (found : Option Found) → FoundShort found → Surely (Does w (λ y. IsAsking i e a l pn (with_rank A f) T y.readings y.state)) (Ok (note_answer f lf found x))
      stands found short = done (
        record { tells = S.tells; fits = S.fits; short = S.short; unmarked = S.unmarked },
        record {
          unmarked = P.unmarked;
          epoch = P.epoch;
          last = P.last;
          promised = P.promised;
          own = P.own;
          short = P.short;
          phase = P.phase;
          quorum = P.quorum;
          number = P.number;
          found = short;
          answered = ap (λ (b : List Bool). with_rank b f) P.answered;
          lasts = lasts;
          long = length-set x.state.leader.lasts f lf ∙ P.long;
          queue = P.queue;
        },
      )

      by : (t : Option Told) → ToldShort t → Surely (Does w (λ y. IsAsking i e a l pn (with_rank A f) T y.readings y.state)) (note_pending f lf t x)
      by None short = stands x.state.leader.found P.found
      by (Some t) short = where_fits (Does w (λ y. IsAsking i e a l pn (with_rank A f) T y.readings y.state)) which.Version (suc lf) _ room (λ fits.
          stands (better x.state.leader.found (record { version = suc lf; pn = t.pn; value = t.value })) (better_short x.state.leader.found (record { version = suc lf; pn = t.pn; value = t.value }) P.found short))

  -- a whole answer, after what was learned
  whole_heard : (w : Readings) (x : Course) → Sound w x → (e : ℕ) (a : List Bool) (l pn : ℕ) (A : List Bool) (T : ℕ → ℕ) → IsAsking i e a l pn A T x.readings x.state → is_alone me a ≡ false → suc l ≤ 2 ^ 62 → (f lf : ℕ) → f < n → T f ≡ lf → lf ≤ l → (told : Option Told)
      → ((g : ℕ) → has a g ≡ true → l ≤ suc (T g)) → (v : List Op) → (1 ≤ l → (record_at x.readings.record_of l ≡ Some v) × (length (text v) ≤ most_value))
      → Surely (Does w (Hears e a l pn (with_rank A f) T v)) (hear_whole me now f lf told x)
  whole_heard w x S e a l pn A T P others room f lf few is low told lag v known =
      and_then Mid (Does w (Hears e a l pn (with_rank A f) T v)) (note f lf told x) _ (both (Does w (λ y. IsAsking i e a l pn (with_rank A f) T y.readings y.state)) (λ y. y.readings ≡ x.readings) (note f lf told x) (noted w x S e a l pn A T P f lf few is (omega arith) told) (note_reads (counts told))) (λ y k.
      let K : IsAsking i e a l pn (with_rank A f) T y.readings y.state = k.0.1 in
      by_test (all_answered me y)
      (λ t. weaken (Does w (Settles e a l pn T v)) (Does w (Hears e a l pn (with_rank A f) T v)) (settle me now y) (λ z m. (m.0, inr (m.1, (λ j. are_within n (sym K.quorum j) (sym K.answered j)) ∙ t)))
      (settles w y k.0.0 e a l pn (with_rank A f) T K others room (λ g low h. subst (λ (b : List Bool). has b g ≡ true) K.answered (within_at n y.state.leader.quorum y.state.leader.answered g t low (subst (λ (b : List Bool). has b g ≡ true) (sym K.quorum) h))) lag v
      (λ some. (let z = known some in (subst (λ (r : Readings). record_at r.record_of l ≡ Some v) (sym k.1) z.0, z.1)))))
      (λ t. done (k.0.0, inl (K, (λ j. are_within n (sym K.quorum j) (sym K.answered j)) ∙ t))))
    where
      Mid : Course → Type 0
      Mid y = Does w (λ y. IsAsking i e a l pn (with_rank A f) T y.readings y.state) y × (y.readings ≡ x.readings)

      note_reads : (t : Option Told) → Surely (λ y. y.readings ≡ x.readings) (note_pending f lf t x)
      note_reads None = done refl
      note_reads (Some t) = where_fits (λ y. y.readings ≡ x.readings) which.Version (suc lf) _ (omega arith) (λ fits. done refl)

  pub drop_none : (k : ℕ) → drop {A = List Op} k [] ≡ []
  drop_none zero = refl
  drop_none (suc k) = refl

  near : (w : Readings) (first last : ℕ) → last ≤ w.last → (ltb (suc w.last) first && ltb w.last last) ≡ false
  near w first last le = and_false (ltb (suc w.last) first) (ltb w.last last) (le-ltb w.last last le)

  -- a member that has no further version, and whose answer is whole
  pub hears_same : (w : Readings) (s : State) (e : ℕ) (a : List Bool) (l pn : ℕ) (A : List Bool) (T : ℕ → ℕ) → IsAsking i e a l pn A T w s → is_alone me a ≡ false → (f : ℕ) → f < n → has a f ≡ true → (f ≡ i → ⊥)
      → suc l ≤ 2 ^ 62 → (p first last from : ℕ) (values : List (List Op)) (told : Option Told) → drop (suc l - from) values ≡ [] → p ≡ pn → T f ≡ last → last ≤ l → ((g : ℕ) → has a g ≡ true → l ≤ suc (T g)) → (v : List Op) → (1 ≤ l → (record_at w.record_of l ≡ Some v) × (length (text v) ≤ most_value))
      → Surely (Does w (Hears e a l pn (with_rank A f) T v)) (react me sh now w s (input.Deliver (letter n f e (body.Last p first last true from values told))))
  unfolding learn
  hears_same w s e a l pn A T P others f few h ne room p first last from values told old same is low lag v known =
      so (last_row me sh now (asks_of P ne h) p first last true from values told (same ∙ sym P.number) (near w first last (let z = P.last in omega arith)))
      (subst (λ (vs : List (List Op)). Surely (Does w (Hears e a l pn (with_rank A f) T v)) (learn (news_from w.last from) vs (at_rest w s) >>= λ y. hear_whole me now f last told y)) (sym (ap (λ (z : ℕ). drop (suc z - from) values) P.last ∙ old))
      (whole_heard w (at_rest w s) (record { tells = refl; fits = tt; short = tt; unmarked = P.unmarked }) e a l pn A T P others room f last few is low told lag v known))

  -- or leaves something out
  pub hears_again : (w : Readings) (s : State) (e : ℕ) (a : List Bool) (l pn : ℕ) (A : List Bool) (T : ℕ → ℕ) → IsAsking i e a l pn A T w s → is_alone me a ≡ false → (f : ℕ) → has a f ≡ true → (f ≡ i → ⊥)
      → (p first last from : ℕ) (values : List (List Op)) (told : Option Told) → drop (suc l - from) values ≡ [] → p ≡ pn → last ≤ l → (top : ℕ) → pn + 114 ≤ top → top ≤ 2 ^ 62
      → Surely (Does w (Asks e a l pn top T)) (react me sh now w s (input.Deliver (letter n f e (body.Last p first last false from values told))))
  unfolding learn
  hears_again w s e a l pn A T P others f h ne p first last from values told old same low top high room =
      so (last_row me sh now (asks_of P ne h) p first last false from values told (same ∙ sym P.number) (near w first last (let z = P.last in omega arith)))
      (subst (λ (vs : List (List Op)). Surely (Does w (Asks e a l pn top T)) (learn (news_from w.last from) vs (at_rest w s) >>= λ y. collect me now y.state.leader.quorum 0 y)) (sym (ap (λ (z : ℕ). drop (suc z - from) values) P.last ∙ old))
      (subst (λ (b : List Bool). Surely (Does w (Asks e a l pn top T)) (collect me now b 0 (at_rest w s))) (sym P.quorum) (collects w (at_rest w s) (record { tells = refl; fits = tt; short = tt; unmarked = P.unmarked }) e a l 0 pn top T (let z = P.promised in omega arith) (let z = P.own in let y = P.promised in let k = rank_low in omega arith) room P.epoch P.last P.queue others)))

  -- ---- a version is learned

  pub same_own : (w : Readings) (v : ℕ) (x : List Op) → Spares x → own_of (play (Learn v x) w) ≡ own_of w
  same_own w v x sp = learned_own v (x ∷ []) w (sp, tt)

  -- a member that has a further version
  pub hears_more : (w : Readings) (s : State) (e : ℕ) (a : List Bool) (l pn : ℕ) (A : List Bool) (T : ℕ → ℕ) → IsAsking i e a l pn A T w s → is_alone me a ≡ false → (f : ℕ) → f < n → has a f ≡ true → (f ≡ i → ⊥)
      → (p first last : ℕ) (whole : Bool) (x : List Op) (told : Option Told) → p ≡ pn → T f ≡ last → last ≡ suc l → suc (suc l) ≤ 2 ^ 62 → Val x → ltb (suc w.last) first ≡ false → ((g : ℕ) → has a g ≡ true → l ≤ T g) → (v : List Op)
      → (record_at (play (Learn (suc l) x) w).record_of (suc l) ≡ Some v) → length (text v) ≤ most_value → (top : ℕ) → pn + 114 ≤ top → top ≤ 2 ^ 62
      → Surely (Does w (λ y. Hears e a (suc l) pn (with_rank A f) T v y ⊎ Asks e a (suc l) pn top T y)) (react me sh now w s (input.Deliver (letter n f e (body.Last p first last whole (suc l) (x ∷ []) told))))
  hears_more w s e a l pn A T P others f few h ne p first last whole x told same is next more_room X kept lag v known short top high room =
      so (last_row me sh now (asks_of P ne h) p first last whole (suc l) (x ∷ []) told (same ∙ sym P.number) (ap (λ b. b && ltb w.last last) kept))
      (subst (λ (k : ℕ). Surely Goal (learn (news_from w.last (suc l)) (drop k (x ∷ [])) (at_rest w s) >>= λ y. goes_on y)) (sym none)
      (subst (λ (k : ℕ). Surely Goal (learn k (x ∷ []) (at_rest w s) >>= λ y. goes_on y)) (sym first_new)
      (so (ap (λ (r : Result Course Which). r >>= λ y. goes_on y) (learns_one (suc l) x (at_rest w s) (omega arith))) learnt)))
    where
      Goal : Course → Type 0
      Goal y = Does w (λ y. Hears e a (suc l) pn (with_rank A f) T v y ⊎ Asks e a (suc l) pn top T y) y

      goes_on : Course → Result Course Which
      goes_on y = if whole then hear_whole me now f last told y else collect me now y.state.leader.quorum 0 y

      none : suc w.last - suc l ≡ 0
      none = let z = P.last in omega arith

      first_new : news_from w.last (suc l) ≡ suc l
      first_new = let z = P.last in omega arith

      z0 : Course
      z0 = learned (suc l) x (at_rest w s)

      learnt : Surely Goal (goes_on z0)
      learnt =
          let fits : suc l ≤ 2 ^ 62 = omega arith in
          let own = same_own w (suc l) x X.spares in
          let S1 = sound_more w (at_rest w s) (Learn (suc l) x) tt (let z = X.short in omega arith) (ap (λ (o : Own). o.marked) own ∙ P.unmarked) (record { tells = refl; fits = tt; short = tt; unmarked = P.unmarked }) in
          let S2 = sound_more w (change (Learn (suc l) x) (at_rest w s)) (Last (suc l)) fits tt S1.unmarked S1 in
          let Q : IsAsking i e a (suc l) pn A T z0.readings z0.state = record {
            unmarked = ap (λ (o : Own). o.marked) own ∙ P.unmarked;
            epoch = ap (λ (o : Own). epoch_or_first o.epoch) own ∙ P.epoch;
            last = omega arith;
            promised = ap (λ (o : Own). or_zero o.promise) own ∙ P.promised;
            own = ap (λ (o : Own). or_zero o.last_pn) own ∙ P.own;
            short = P.short;
            phase = P.phase;
            quorum = P.quorum;
            number = P.number;
            found = P.found;
            answered = P.answered;
            lasts = P.lasts;
            long = P.long;
            queue = P.queue;
          } in
          by_test whole
          (λ _. weaken (Does w (Hears e a (suc l) pn (with_rank A f) T v)) Goal (hear_whole me now f last told z0) (λ y k. (k.0, inl k.1))
          (whole_heard w z0 S2 e a (suc l) pn A T Q others more_room f last few is (omega arith) told (λ g h. let z = lag g h in omega arith) v (λ some. (known, short))))
          (λ _. weaken (Does w (Asks e a (suc l) pn top T)) Goal (collect me now s.leader.quorum 0 z0) (λ y k. (k.0, inr k.1))
          (subst (λ (b : List Bool). Surely (Does w (Asks e a (suc l) pn top T)) (collect me now b 0 z0)) (sym P.quorum) (collects w z0 S2 e a (suc l) 0 pn top T (let z = Q.promised in omega arith) (let z = Q.own in let y = Q.promised in let k = rank_low in omega arith) room Q.epoch Q.last P.queue others)))
