-- The rows of elections, as a monitor meets them on its way into a quorum.
use Rattle.law_names.proofs.Runs.{Monitors}
use Rattle.law_names.proofs.Table.{Course, Entry, Epoch, Me, Numbers, Phase, Readings, Scores, State, adopt, at_rest, change, collect_with, disarm, elect, elector_is, epoch_of, has, is_allowed, is_alone, is_even, is_majority, is_whole, may_defer, members, merge, message_to, only_ping, react, same_phase, stands_before, table_or, votes, win, with_rank}
use Rattle.mon_msg.specs.declared.input.Input.TheVariants as input
use Rattle.mon_msg.specs.declared.plan.Sent.TheVariants as send
use Rattle.mon_wire.specs.declared.body.Body.TheVariants as body
use Rattle.mon_wire.specs.declared.phase.Phase.TheVariants as phase
use Rattle.mon_wire.specs.declared.phase.Timer.TheVariants as timer
use Rattle.quorum_agreement.proofs.Others.{others}
use Rattle.quorum_elects.proofs.Moving.{Sound}
use Rattle.quorum_elects.proofs.Ranking.{FullIf, IsBefore, IsFull, before_is, before_not, full_after, full_or}
use Rattle.quorum_elects.proofs.Rows as rows
use Rattle.quorum_elects.proofs.Rows.{Fitting, elected, fits_there, odd_from, pinged, sound_more}
use Rattle.quorum_elects.proofs.Standing.{Close, HasNumbers, IsCandidate, IsCollector, IsPeon, IsVoter, SaysTo, among_map, among_members, letter}
use Rattle.quorum_elects.proofs.Values.{pending_short}
use Rattle.quorum_elects.proofs.Walking.{Surely, by_test, done, never, so, weaken}
use Rattle.quorum_model.proofs.Members.{member_of}
use Rattle.quorum_walk.proofs.Lists.{Among, among_left, among_right}
use Rattle.quorum_walk.proofs.Parity.{even_of_odd}
use Rattle.quorum_walk.proofs.Ranks.{has_with_is, whole_major}
use Rattle.std.proofs.Common.{Bool, List, Option, Some, [], ap, arith, cond, false, inl, inr, length, ltb, map, refl, subst, suc, sym, true, ℕ, ◌&&◌, ◌++◌, ◌+◌, ◌<◌, ◌^◌, ◌∙◌, ◌≡◌, ◌≤◌, ◌⊎◌}
use Rattle.std.proofs.lemmas.Bool.{and_parts, cases_order, cond_both, ltb-true}
use Rattle.std.proofs.lemmas.List.{length-set}
use Rattle.table_rows.proofs.Electing.{ack_row, collects, election_ends_row, later_propose_row, number_above, propose_row, reigning, victory_row, wins}

module _ (ms : Monitors) (several : 1 < ms.count) (c : ℕ) (i : ℕ) (lt : ltb i ms.count ≡ true) (sh : List Entry) (now : ℕ) where
  abbrev n : ℕ
  n = ms.count

  abbrev me : Me
  me = member_of ms i lt

  abbrev And : Readings → (Course → Type 0) → Course → Type 0
  And w R y = Sound w y × R y

  abbrev Elects : ℕ → Course → Type 0
  Elects e y = rows.Elects ms several c i lt sh now e y

  -- ---- proposals

  -- a monitor defers to one that is before it, and to no other
  before_it : (table : Scores) (r : ℕ) → IsFull table → r < n → IsBefore ms.rule r i → (is_allowed me r && stands_before me table r i) ≡ true
  before_it table r F less B = λ j. B.may_lead j && before_is ms.rule table F n r i ms.most less (ltb-true i n lt) B j

  not_before : (table : Scores) (r : ℕ) → IsFull table → r < n → IsBefore ms.rule i r → (is_allowed me r && stands_before me table r i) ≡ false
  not_before table r F less B = by (is_allowed me r)
    where
      by : (b : Bool) → (b && stands_before me table r i) ≡ false
      by true = before_not ms.rule table F n i r ms.most (ltb-true i n lt) less B
      by false = refl

  voting : (p : Phase) → p ≡ phase.Electing → votes p ≡ true
  voting p is = ap votes is

  pub record Defers (r e : ℕ) (y : Course) : Type 0 where
    pub stands : IsVoter c e y.readings y.state
    pub says : Among (send.Message r (letter n i e body.Ack)) y.out

  -- a candidate defers to one that is before it, of the same epoch or a later one
  pub defers : (w : Readings) (s : State) (own : ℕ) (a : List Bool) → IsCandidate c own a w s → (r e : ℕ) → r < n → (r ≡ i → ⊥) → IsBefore ms.rule r i → (table : Option Scores) → Fitting ms.rule table → FullIf table → is_even e ≡ false → e ≤ 2 ^ 62 → own ≤ e
      → Surely (And w (Defers r e)) (react me sh now w s (input.Deliver (letter n r e (body.Propose table))))
  unfolding adopt
  defers w s own a P r e less ne B table fits F odd short le = by (cases_order (epoch_of w) e)
    where
      close : Close c w
      close = P.close

      before : (is_allowed me r && stands_before me (table_or table s.elector.scores) r i) ≡ true
      before = before_it (table_or table s.elector.scores) r (full_or table s.elector.scores F P.scores) less B

      by : (epoch_of w ≡ e) ⊎ ((epoch_of w < e) ⊎ (e < epoch_of w)) → Surely (And w (Defers r e)) (react me sh now w s (input.Deliver (letter n r e (body.Propose table))))
      by (inl same) = so (propose_row me sh now w s e table ne (fits_there me table fits) (voting s.phase P.phase) odd same)
          (by_test (is_allowed me r && stands_before me (table_or table s.elector.scores) r i)
          (λ _. by_test (may_defer me (table_or table s.elector.scores) r s.elector.deferred) (λ _. done (
            record { tells = refl; fits = tt; short = tt; unmarked = close.unmarked },
            record {
              stands = record { close = P.close; numbers = P.numbers; epoch = same; phase = P.phase };
              says = inl (ap (λ (z : ℕ). send.Message r (letter n i z body.Ack)) (sym same));
            },
          )) (λ t. never t (ap (may_defer me (table_or table s.elector.scores) r) P.deferred)))
          (λ t. never t before))
      by (inr (inl later)) = so (later_propose_row me sh now w s e table ne (fits_there me table fits) (voting s.phase P.phase) odd later)
          (by_test (is_allowed me r && stands_before me (table_or table s.elector.scores) r i) (λ _. done (
            record { tells = refl; fits = (short, tt); short = (tt, tt); unmarked = close.unmarked },
            record { stands = record { close = P.close; numbers = P.numbers; epoch = refl; phase = refl }; says = inl refl },
          )) (λ t. never t before))
      by (inr (inr earlier)) = let q = P.epoch in absurd (omega arith)

  -- a PROPOSE of a later epoch makes a monitor that is before its sender a candidate of that epoch
  pub calls : (w : Readings) (s : State) (own : ℕ) (a : List Bool) → IsCandidate c own a w s → (r e : ℕ) → r < n → (r ≡ i → ⊥) → IsBefore ms.rule i r → (table : Option Scores) → Fitting ms.rule table → FullIf table → is_even e ≡ false → e + 8 ≤ 2 ^ 62 → own < e
      → Surely (And w (Elects e)) (react me sh now w s (input.Deliver (letter n r e (body.Propose table))))
  unfolding adopt
  calls w s own a P r e less ne B table fits F odd room later =
      so (later_propose_row me sh now w s e table ne (fits_there me table fits) (voting s.phase P.phase) odd (let q = P.epoch in omega arith))
      (by_test (is_allowed me r && stands_before me (table_or table s.elector.scores) r i) (never (not_before (table_or table s.elector.scores) r (full_or table s.elector.scores F P.scores) less B))
      (λ _. weaken (And w (Elects (odd_from e))) (And w (Elects e)) (elect me now x) (λ y k. (k.0, subst (λ (z : ℕ). Elects z y) (ap (λ b. cond b (suc e) e) odd) k.1))
      (elected ms several c i lt sh now w x (record { tells = refl; fits = (omega arith, tt); short = (tt, tt); unmarked = close.unmarked }) P.close P.numbers (subst (λ (b : Bool). cond b (suc e) e + 8 ≤ 2 ^ 62) (sym odd) room) many (full_after table s.elector.scores F P.scores))))
    where
      close : Close c w
      close = P.close

      x : Course
      x = merge table (adopt now e (at_rest w s))

      many : 1 < length x.state.timers
      many = subst (λ (k : ℕ). 1 < k) (sym (length-set (cond (same_phase s.phase phase.Electing) s.timers (only_ping s.timers)) 1 (Some _)))
          (cond_both (same_phase s.phase phase.Electing) s.timers (only_ping s.timers) (λ (l : List (Option ℕ)). 1 < length l) (λ _. P.timers) (λ _. pinged s.timers))

  -- ---- victories

  pub record Reigns (e : ℕ) (q : List Bool) (y : Course) : Type 0 where
    pub pn : ℕ
    pub stands : IsCollector c i (suc e) q pn y.readings.first y.readings.last y.readings y.state
    pub asks : SaysTo n i (suc e) q (body.Collect pn y.readings.first y.readings.last) y.out
    pub short : suc e ≤ 2 ^ 62
    pub says : SaysTo n i (suc e) q (body.Victory q) y.out

  -- a course that wins
  won : (w : Readings) (x : Course) → Sound w x → Close c x.readings → HasNumbers x.readings → x.state.clients.queue ≡ [] → (e : ℕ) → epoch_of x.readings ≡ e → e + 8 ≤ 2 ^ 62 → (q : List Bool) → is_alone me q ≡ false → Surely (And w (Reigns e q)) (win me now q x)
  unfolding collect_with
  won w x S C N queue e at room q several =
      let z : Course = change (Epoch (suc (epoch_of x.readings))) x in
      let pn = number_above me x.readings 0 in
      let most = ms.most in
      let low = ltb-true i n lt in
      let own = N.0 in
      let promise = N.1 in
      let fits : suc (epoch_of x.readings) ≤ 2 ^ 62 = omega arith in
      let short : number_above me x.readings 0 ≤ 2 ^ 62 = omega arith in
      let T : Sound w (change (Numbers pn) z) = sound_more w z (Numbers pn) short tt S.unmarked (sound_more w x (Epoch (suc (epoch_of x.readings))) fits tt S.unmarked S) in
      so (wins me now q x fits ∙ collects me now q 0 (reigning me q z) short several) (
      done (
        record { tells = T.tells; fits = T.fits; short = T.short; unmarked = S.unmarked },
        record {
          pn = pn;
          stands = record { close = C; epoch = ap suc at; phase = refl; quorum = refl; first_is = refl; last_is = refl; promised = refl; own = refl; room = omega arith; number = refl; found = pending_short x.readings; answered = refl; long = refl; queue = queue };
          asks = λ g lt h ne. among_right (send.Message g (letter n i (suc e) (body.Collect pn x.readings.first x.readings.last))) (x.out ++ map (message_to me (suc (epoch_of x.readings)) (body.Victory q)) (members me q)) _
              (subst (λ (k : ℕ). Among (send.Message g (letter n i (suc k) (body.Collect pn x.readings.first x.readings.last))) (map (message_to me (suc (epoch_of x.readings)) (body.Collect pn x.readings.first x.readings.last)) (members me q))) at
              (among_map (message_to me (suc (epoch_of x.readings)) (body.Collect pn x.readings.first x.readings.last)) g (members me q) (among_members me q g lt h ne)));
          short = subst (λ (k : ℕ). suc k ≤ 2 ^ 62) at fits;
          says = λ g lt h ne. among_left (send.Message g (letter n i (suc e) (body.Victory q))) (x.out ++ map (message_to me (suc (epoch_of x.readings)) (body.Victory q)) (members me q)) _
              (among_right (send.Message g (letter n i (suc e) (body.Victory q))) x.out (map (message_to me (suc (epoch_of x.readings)) (body.Victory q)) (members me q))
              (subst (λ (k : ℕ). Among (send.Message g (letter n i (suc k) (body.Victory q))) (map (message_to me (suc (epoch_of x.readings)) (body.Victory q)) (members me q))) at
              (among_map (message_to me (suc (epoch_of x.readings)) (body.Victory q)) g (members me q) (among_members me q g lt h ne))));
        },
      ))

  pub below_more : (a : List Bool) (f : ℕ) → ((m : ℕ) → has a m ≡ true → m < n) → f < n → (m : ℕ) → has (with_rank a f) m ≡ true → m < n
  below_more a f below lt m h = elim (has_with_is a f m h) [ inl e ↦ (omega arith) | inr o ↦ below m o ]

  -- one more defers to it
  pub acked : (w : Readings) (s : State) (e : ℕ) (a : List Bool) → IsCandidate c e a w s → ((m : ℕ) → has a m ≡ true → m < n) → (f : ℕ) → f < n → (f ≡ i → ⊥)
      → Surely (And w (λ y. IsCandidate c e (with_rank a f) y.readings y.state ⊎ ((is_majority n (with_rank a f) ≡ true) × Reigns e (with_rank a f) y))) (react me sh now w s (input.Deliver (letter n f e body.Ack)))
  acked w s e a P below f few ne =
      so (ack_row me sh now w s e ne (voting s.phase P.phase) P.odd P.epoch P.candidate)
      (by_test (is_whole me (with_rank s.elector.acked f) && is_allowed me i) (λ t.
      weaken (And w (Reigns e (with_rank s.elector.acked f))) (And w Either) (win me now (with_rank s.elector.acked f) y0)
      (λ y k. (k.0, inr (subst (λ (b : List Bool). (is_majority n (with_rank b f) ≡ true) × Reigns e (with_rank b f) y) P.acked (major t, k.1))))
      (won w y0 (record { tells = refl; fits = tt; short = tt; unmarked = close.unmarked }) P.close P.numbers (ap (λ z. z.queue) P.clients) e P.epoch P.room (with_rank s.elector.acked f) (others me (with_rank s.elector.acked f) several (major t) below_all)))
      (λ _. done (
        record { tells = refl; fits = tt; short = tt; unmarked = close.unmarked },
        inl (record {
          close = P.close;
          numbers = P.numbers;
          room = P.room;
          epoch = P.epoch;
          odd = P.odd;
          phase = P.phase;
          candidate = P.candidate;
          acked = ap (λ (b : List Bool). with_rank b f) P.acked;
          deferred = P.deferred;
          armed = P.armed;
          timers = P.timers;
          clients = P.clients;
          scores = P.scores;
        }),
      )))
    where
      close : Close c w
      close = P.close

      Either : Course → Type 0
      Either y = IsCandidate c e (with_rank a f) y.readings y.state ⊎ ((is_majority n (with_rank a f) ≡ true) × Reigns e (with_rank a f) y)

      y0 : Course
      y0 = elector_is (record s.elector { acked = with_rank s.elector.acked f }) (at_rest w s)

      below_all : (m : ℕ) → has (with_rank s.elector.acked f) m ≡ true → m < n
      below_all m h = below_more a f below few m (subst (λ (b : List Bool). has (with_rank b f) m ≡ true) P.acked h)

      major : (is_whole me (with_rank s.elector.acked f) && is_allowed me i) ≡ true → is_majority n (with_rank s.elector.acked f) ≡ true
      major t = whole_major n (with_rank s.elector.acked f) (let s = several in omega arith) (and_parts (is_whole me (with_rank s.elector.acked f)) (is_allowed me i) t).0

  -- its time is over, and a majority deferred to it
  pub ends : (w : Readings) (s : State) (e : ℕ) (a : List Bool) → IsCandidate c e a w s → is_allowed me i ≡ true → ((m : ℕ) → has a m ≡ true → m < n) → is_majority n a ≡ true
      → Surely (And w (Reigns e a)) (react me sh now w s (input.Timer timer.Election))
  ends w s e a P may_lead below major =
      so (election_ends_row me sh now w s P.phase P.armed (λ j. P.candidate j && may_lead j && (ap (is_majority n) P.acked ∙ major) j)) (
      weaken (And w (Reigns e s.elector.acked)) (And w (Reigns e a)) (win me now s.elector.acked (disarm timer.Election (at_rest w s))) (λ y k. (k.0, subst (λ (b : List Bool). Reigns e b y) P.acked k.1))
      (won w (disarm timer.Election (at_rest w s)) (record { tells = refl; fits = tt; short = tt; unmarked = (let C = P.close in C.unmarked) }) P.close P.numbers (ap (λ z. z.queue) P.clients) e P.epoch P.room s.elector.acked
      (others me s.elector.acked several (ap (is_majority n) P.acked ∙ major) (λ m h. below m (subst (λ (b : List Bool). has b m ≡ true) P.acked h)))))

  -- ---- followers

  pub follows : (w : Readings) (s : State) (e : ℕ) → IsVoter c e w s → is_even e ≡ false → suc e ≤ 2 ^ 62 → (r : ℕ) (q : List Bool) → (r ≡ i → ⊥) → has q i ≡ true → has q r ≡ true → is_majority n q ≡ true
      → Surely (And w (λ y. IsPeon c (suc e) r q y.readings y.state)) (react me sh now w s (input.Deliver (letter n r (suc e) (body.Victory q))))
  follows w s e P odd short r q ne mine its major =
      so (victory_row me sh now w s (suc e) q ne (voting s.phase P.phase) (even_of_odd e odd) (ap suc (sym P.epoch)) (λ j. mine j && its j && major j))
      (done (record { tells = refl; fits = (short, tt); short = (tt, tt); unmarked = (let C = P.close in C.unmarked) }, record { close = P.close; numbers = P.numbers; epoch = refl; phase = refl; leader = refl; quorum = refl }))
