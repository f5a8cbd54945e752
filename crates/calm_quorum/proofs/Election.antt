-- The rounds from the starts to the calm.
use Rattle.calm_quorum.proofs.Blocks.{env, everyone, from_each, none_told, sent_each, to_each}
use Rattle.calm_quorum.proofs.Handling.{Place, Said, generation, hears, place, tell}
use Rattle.calm_quorum.proofs.Hearing.{hears_is, unchanged}
use Rattle.calm_quorum.proofs.Rounds.{Took, all_flat, all_of, all_of-append, all_take, crew, crew_self, did, dropped, flat, flat_none, flat_nones, goes_to, if_sent, leader_gathers, others_take, round, single, team, threshold, turn}
use Rattle.calm_quorum.proofs.Rows.{ack_last, ack_more, collect_row, last_last, last_more, lease_ack_last, lease_ack_more, lease_row, probe_row, propose_first, propose_late, propose_row, reply_enough, reply_late, reply_more, victory_row}
use Rattle.calm_quorum.proofs.Sets.{chosen, few_met, in_met, is_enough, met, met_self, outside, rises, settled}
use Rattle.calm_quorum.proofs.States.{acked, born, collecting, electing, following, leasing, led, led_is, me_at, probing, promised, promised_is, served, served_is, unacked}
use Rattle.calm_quorum.proofs.Stores.{born_small, born_told, led_small, led_told, no_version, promised_small, promised_told, served_small, served_told}
use Rattle.law_names.proofs.Runs.{Envelope, classic, envelope_of, last_of}
use Rattle.law_names.proofs.Table.{Body, Epoch, Numbers, Promise, Store, empty, has, is_majority, members, message_to, no_ranks, only, others, with_rank}
use Rattle.mon_wire.specs.declared.body.Body.TheVariants as body
use Rattle.std.proofs.Common.{Bool, List, None, Option, Some, [], ap, arith, cond, eqb, false, inl, inr, ltb, map, nat_lt, not, refl, subst, suc, sym, true, zero, ℕ, ◌&&◌, ◌++◌, ◌<◌, ◌∙◌, ◌∷◌, ◌≡◌, ◌≤◌, ◌⊎◌}
use Rattle.std.proofs.lemmas.Bool.{cases_eq, eq-eqb, eqb-false, lt-ltb, ltb-false, ltb-true, ne_eqb, not-true}
use Rattle.std.proofs.lemmas.List.Elements.{filter_map-append}

module _ (n : ℕ) (most : n ≤ 15) where
  abbrev pub react : ℕ → Place → Envelope → Took Place Envelope Said
  react = hears (classic n most) []

  abbrev pub run_on : List Envelope → (ℕ → Place) → Took (ℕ → Place) Envelope Said
  run_on = generation (classic n most) []

  abbrev pub idle : Place
  idle = place empty None

  abbrev pub all : (ℕ → Place) → ℕ → Place
  all A = team idle n A

  -- ---- places

  abbrev pub heard : ℕ → List Bool
  heard i = outside n i n

  abbrev pub probes : ℕ → Place
  probes i = place born (Some (probing i (only i)))

  abbrev pub stands : ℕ → Place
  stands i = place born (Some (electing i (heard i) true (only i) None))

  abbrev pub defers : ℕ → Place
  defers i = place born (Some (electing i (heard i) false no_ranks (Some 0)))

  abbrev pub counts : ℕ → Place
  counts k = place born (Some (electing 0 (heard 0) true (met 0 k) None))

  abbrev pub collects : List Bool → Place
  collects s = place led (Some (collecting n (heard 0) s))

  abbrev pub follows : Store → Option ℕ → ℕ → Place
  follows m lease i = place m (Some (following n i (heard i) lease))

  abbrev pub leases : List Bool → List (Option ℕ) → Place
  leases acks timers = place led (Some (leasing n (heard 0) acks timers))

  below : (i : ℕ) → i < n → nat_lt i n ≡ true
  below i lt = lt-ltb i n lt

  born_last : last_of born ≡ 0
  born_last = no_version born _ _ _ born_told

  promised_last : last_of promised ≡ 0
  promised_last = no_version promised _ _ _ promised_told

  led_last : last_of led ≡ 0
  led_last = no_version led _ _ _ led_told

  -- ---- round A: probes

  probe_is : (i j : ℕ) → j < n → (i ≡ j → ⊥) → react j (probes j) (env n i j 1 body.Probe)
      ≡ did (probes j) (env n j i 1 (body.ProbeReply no_ranks 0 0) ∷ []) []
  probe_is i j lt ne =
      hears_is n most j (below j lt) (env n i j 1 body.Probe) born _ _ [] _ born _ _ born_told
      (λ sh. probe_row n most sh i j (below j lt) (only j) ne) (unchanged born) born_small born_last refl refl

  other : (k i : ℕ) → not (eqb k i) ≡ true → k ≡ i → ⊥
  other k i h = eqb-false k i (not-true (eqb k i) h)

  turned : (k i : ℕ) → not (eqb k i) ≡ true → i ≡ k → ⊥
  turned k i h e = other k i h (sym e)

  pub round_a : run_on (flat n (λ i. to_each n everyone i 1 body.Probe)) (all probes)
      ≡ did (all probes) (flat n (λ i. from_each n i 1 (body.ProbeReply no_ranks 0 0))) []
  round_a =
      round (turn (λ (e : Envelope). e.to) react) n _ (λ _. all probes)
      (λ i. from_each n i 1 (body.ProbeReply no_ranks 0 0)) (λ _. []) (λ i lt. row i)
      ∙ rw (flat_none {A = Said} n) refl
    where
      row : (i : ℕ) → all_of (turn (λ (e : Envelope). e.to) react) (to_each n everyone i 1 body.Probe) (all probes)
          ≡ did (all probes) (from_each n i 1 (body.ProbeReply no_ranks 0 0)) []
      row i =
          all_take (λ (e : Envelope). e.to) react idle n _ probes probes _
          (λ j lt. goes_to (λ (e : Envelope). e.to) (not (eqb j i)) (env n i j 1 body.Probe) j refl)
          (λ j lt. if_sent (react j) (not (eqb j i)) (env n i j 1 body.Probe) (probes j) _
          (λ h. probe_is i j lt (turned j i h)))

  -- ---- round B: their replies

  abbrev waits : ℕ → ℕ → Place
  waits i k = place born (Some (probing i (outside n i k)))

  abbrev reply : ℕ → ℕ → Envelope
  reply k i = env n k i 1 (body.ProbeReply no_ranks 0 0)

  abbrev pub proposals : ℕ → List Envelope
  proposals i = to_each n everyone i 1 (body.Propose None)

  wait : (i k : ℕ) → i < n → (k ≡ i → ⊥) → (c : Bool) → is_majority n (with_rank (outside n i k) k) ≡ c
      → (s : List Bool) → with_rank (outside n i k) k ≡ s → (c ≡ true → s ≡ heard i) → react i (waits i k)
      (reply k i) ≡ cond c (did (stands i) (proposals i) []) (did (place born (Some (probing i s))) [] [])
  wait i k lt ne true e s is h =
      rw (← h refl, ← is) (hears_is n most i (below i lt) (reply k i) born _ _ [] _ born _ _ born_told
      (λ sh. reply_enough n most sh i k (below i lt) (outside n i k) ne e) (unchanged born) born_small born_last
      (none_told i (me_at n i most (below i lt)) 1 (body.Propose None) (others (me_at n i most (below i lt))))
      (sent_each (me_at n i most (below i lt)) 1 (body.Propose None) _ n))
  wait i k lt ne false e s is h =
      rw (← is) (hears_is n most i (below i lt) (reply k i) born _ _ [] _ born _ _ born_told
      (λ sh. reply_more n most sh i k (below i lt) (outside n i k) ne e) (unchanged born) born_small born_last
      refl refl)

  one_more : (i k : ℕ) → is_enough n i k ≡ false → with_rank (outside n i k) k ≡ outside n i (suc k)
  one_more i k low = rw low refl

  own_is_in : (i k : ℕ) → i < n → is_enough n i k ≡ false → k ≡ i → outside n i (suc k) ≡ outside n i k
  own_is_in i k lt low e =
      sym (one_more i k low)
      ∙ ap (λ (s : List Bool). with_rank s k) (few_met n i k low)
      ∙ met_self i k (omega arith) e
      ∙ sym (few_met n i k low)

  step_b : (i k : ℕ) → i < n → k < n → is_enough n i k ≡ false → (k ≡ i) ⊎ (k ≡ i → ⊥)
      → all_of (react i) (cond (not (eqb k i)) (reply k i ∷ []) []) (waits i k)
      ≡ cond (is_enough n i (suc k)) (did (stands i) (proposals i) []) (did (waits i (suc k)) [] [])
  step_b i k lt le low (inl e) =
      let same = own_is_in i k lt low e in
      let p : is_enough n i (suc k) ≡ false = ap (is_majority n) same ∙ low in
      rw (eq-eqb k i e) (rw p (rw same refl))
  step_b i k lt le low (inr ne) =
      rw (ne_eqb k i ne)
      (single (react i) _ _
      ∙ wait i k lt ne (is_enough n i (suc k)) (ap (is_majority n) (one_more i k low)) (outside n i (suc k))
      (one_more i k low) (λ t. settled n i (suc k) le t))

  late_b : (i k : ℕ) → i < n → not (eqb k i) ≡ true → react i (stands i) (reply k i) ≡ did (stands i) [] []
  late_b i k lt ne =
      hears_is n most i (below i lt) (reply k i) born _ _ [] _ born _ _ born_told
      (λ sh. reply_late n most sh i k (below i lt) (heard i) (other k i ne)) (unchanged born) born_small born_last
      refl refl

  part_b : (i : ℕ) → 1 < n → i < n → all_of (react i) (from_each n i 1 (body.ProbeReply no_ranks 0 0)) (probes i)
      ≡ did (stands i) (proposals i) []
  part_b i two lt =
      threshold (react i) n (λ k. cond (not (eqb k i)) (reply k i ∷ []) []) (is_enough n i) (waits i) (stands i)
      (proposals i) [] (rises n i two most lt)
      (λ k le low. step_b i k lt le low (cases_eq k i))
      (λ k le high. dropped (react i) (not (eqb k i)) (reply k i) (stands i) (λ h. late_b i k lt h))

  pub round_b : 1 < n → run_on (flat n (λ i. from_each n i 1 (body.ProbeReply no_ranks 0 0))) (all probes)
      ≡ did (all stands) (flat n proposals) []
  round_b two =
      all_take (λ (e : Envelope). e.to) react idle n _ stands probes _
      (λ i lt. all_flat _ n _ (λ k l. goes_to (λ (e : Envelope). e.to) (not (eqb k i)) (reply k i) i refl))
      (λ i lt. part_b i two lt)

  -- ---- round C: proposals

  propose_is : (j : ℕ) → 0 < j → j < n
      → react j (stands j) (env n 0 j 1 (body.Propose None)) ≡ did (defers j) (env n j 0 1 body.Ack ∷ []) []
  propose_is j pos lt =
      hears_is n most j (below j lt) (env n 0 j 1 (body.Propose None)) born _ _ [] _ born _ _ born_told
      (λ sh. propose_row n most sh j (below j lt) (heard j) pos) (unchanged born) born_small born_last refl refl

  first_is : (i : ℕ) → 0 < i → 0 < n → react 0 (stands 0) (env n i 0 1 (body.Propose None)) ≡ did (stands 0) [] []
  first_is i pos lt =
      hears_is n most 0 (below 0 lt) (env n i 0 1 (body.Propose None)) born _ _ [] _ born _ _ born_told
      (λ sh. propose_first n most sh i (below 0 lt) (heard 0) pos) (unchanged born) born_small born_last refl refl

  late_is : (i j : ℕ) → 0 < i → (i ≡ j → ⊥) → j < n
      → react j (defers j) (env n i j 1 (body.Propose None)) ≡ did (defers j) [] []
  late_is i j pos ne lt =
      hears_is n most j (below j lt) (env n i j 1 (body.Propose None)) born _ _ [] _ born _ _ born_told
      (λ sh. propose_late n most sh i j (below j lt) (heard j) pos ne) (unchanged born) born_small born_last refl
      refl

  abbrev pub called : ℕ → Place
  called = all (crew (stands 0) defers)

  -- the first proposes; each of the others defers to it
  first_row : run_on (proposals 0) (all stands) ≡ did called (from_each n 0 1 body.Ack) []
  first_row =
      let e = others_take (λ (e : Envelope). e.to) react idle n everyone (λ k. env n 0 k 1 (body.Propose None))
      (stands 0) stands defers (λ k. env n k 0 1 body.Ack ∷ []) (λ k lt. refl) (λ k. refl)
      (λ k pos lt. propose_is k pos lt) in
      rw (crew_self stands) at e

  -- what the others propose is dropped
  late_row : (i : ℕ) → 0 < i → i < n → run_on (proposals i) called ≡ did called [] []
  late_row i pos lt =
      all_take (λ (e : Envelope). e.to) react idle n
      (λ j. cond (not (eqb j i)) (env n i j 1 (body.Propose None) ∷ []) []) (crew (stands 0) defers)
      (crew (stands 0) defers) (λ _. [])
      (λ j l. goes_to (λ (e : Envelope). e.to) (not (eqb j i)) (env n i j 1 (body.Propose None)) j refl)
      (λ j l. dropped (react j) (not (eqb j i)) (env n i j 1 (body.Propose None)) (crew (stands 0) defers j)
      (λ h. by j l (cases_eq j 0) (turned j i h)))
      ∙ rw (flat_none {A = Envelope} n) refl
    where
      by : (j : ℕ) → j < n → (j ≡ 0) ⊎ (j ≡ 0 → ⊥) → (i ≡ j → ⊥) → react j (crew (stands 0) defers j)
          (env n i j 1 (body.Propose None)) ≡ did (crew (stands 0) defers j) [] []
      by j l (inl z) ne =
          subst (λ (j : ℕ). react j (crew (stands 0) defers j) (env n i j 1 (body.Propose None))
          ≡ did (crew (stands 0) defers j) [] []) (sym z) (first_is i pos (omega arith))
      by j l (inr nz) ne = rw (ne_eqb j 0 nz) (late_is i j pos ne l)

  pub round_c : 1 < n → run_on (flat n proposals) (all stands) ≡ did called (from_each n 0 1 body.Ack) []
  round_c two =
      threshold (turn (λ (e : Envelope). e.to) react) n proposals (λ i. ltb 0 i) (λ _. all stands) called
      (from_each n 0 1 body.Ack) []
      (record { low = refl; up = λ k lt e. lt-ltb 0 (suc k) (omega arith); high = lt-ltb 0 n (omega arith) })
      (λ k lt low. step k (ltb-false 0 k low))
      (λ k lt high. late_row k (ltb-true 0 k high) lt)
    where
      step : (k : ℕ) → k ≤ 0 → run_on (proposals k) (all stands)
          ≡ cond (ltb 0 (suc k)) (did called (from_each n 0 1 body.Ack) []) (did (all stands) [] [])
      step zero le = first_row
      step (suc k) le = absurd (omega arith)

  -- ---- round D: acknowledgements

  abbrev pub victory : List Envelope
  victory =
      to_each n (has (chosen n)) 0 2 (body.Victory (chosen n))
      ++ to_each n (has (chosen n)) 0 2 (body.Collect 100 0 0)

  ack_is : (k : ℕ) → 0 < k → suc k < n → react 0 (counts k) (env n k 0 1 body.Ack) ≡ did (counts (suc k)) [] []
  ack_is k pos lt =
      hears_is n most 0 (below 0 (omega arith)) (env n k 0 1 body.Ack) born _ _ [] _ born _ _ born_told
      (λ sh. ack_more n most sh k (below 0 (omega arith)) (heard 0) pos lt) (unchanged born) born_small born_last
      refl refl

  wins : (k : ℕ) → 0 < k → suc k ≡ n → react 0 (counts k) (env n k 0 1 body.Ack) ≡ did (collects (only 0)) victory []
  wins k pos z =
      let e = below 0 (omega arith) in
      let me = me_at n 0 most e in
      let first = map (message_to me 2 (body.Victory (chosen n))) (members me (chosen n)) in
      let second = map (message_to me 2 (body.Collect 100 0 0)) (members me (chosen n)) in
      hears_is n most 0 e (env n k 0 1 body.Ack) born _ _ (Epoch 2 ∷ Numbers 100 ∷ []) _ led _ _ born_told
      (λ sh. ack_last n most sh k e (heard 0) pos z) led_is led_small led_last
      (filter_map-append (tell 0) first second
      ∙ rw (
        none_told 0 me 2 (body.Victory (chosen n)) (members me (chosen n)),
        none_told 0 me 2 (body.Collect 100 0 0) (members me (chosen n)),
      ) refl)
      (filter_map-append envelope_of first second
      ∙ rw (
        sent_each me 2 (body.Victory (chosen n)) (λ k. has (chosen n) k && not (eqb k 0)) n,
        sent_each me 2 (body.Collect 100 0 0) (λ k. has (chosen n) k && not (eqb k 0)) n,
      ) refl)

  pub round_d : (P : ℕ → Place) → 1 < n → run_on (from_each n 0 1 body.Ack) (all (crew (stands 0) P))
      ≡ did (all (crew (collects (only 0)) P)) victory []
  round_d P two =
      leader_gathers (λ (e : Envelope). e.to) react idle n (λ k. env n k 0 1 body.Ack) counts (collects (only 0)) P
      victory [] two (λ k. refl) refl ack_is wins

  -- ---- rounds E and F: the victory, and what was accepted

  victory_is : (j : ℕ) → 0 < j → j < n
      → react j (defers j) (env n 0 j 2 (body.Victory (chosen n))) ≡ did (follows served None j) [] []
  victory_is j pos lt =
      hears_is n most j (below j lt) (env n 0 j 2 (body.Victory (chosen n))) born _ _ (Epoch 2 ∷ []) _ served _ _
      born_told (λ sh. victory_row n most sh j (below j lt) (heard j) pos lt) served_is served_small
      (no_version served _ _ _ served_told) refl refl

  abbrev pub last0 : Body
  last0 = body.Last 100 0 0 true 1 [] None

  collect_is : (j : ℕ) → 0 < j → j < n → react j (follows served None j) (env n 0 j 2 (body.Collect 100 0 0))
      ≡ did (follows promised None j) (env n j 0 2 last0 ∷ []) []
  collect_is j pos lt =
      hears_is n most j (below j lt) (env n 0 j 2 (body.Collect 100 0 0)) served _ _ (Promise 100 ∷ []) _ promised _
      _ served_told (λ sh. collect_row n most sh j (below j lt) (heard j) pos) promised_is promised_small
      promised_last refl refl

  pub round_ef : (l : Place) → 1 < n
      → run_on victory (all (crew l defers)) ≡ did (all (crew l (follows promised None))) (from_each n 0 2 last0) []
  round_ef l two =
      let e = others_take (λ (e : Envelope). e.to) react idle n (has (chosen n))
      (λ k. env n 0 k 2 (body.Victory (chosen n))) l defers (follows served None) (λ _. [])
      (λ k lt. in_met 0 n k lt most) (λ k. refl) victory_is in
      let f = others_take (λ (e : Envelope). e.to) react idle n (has (chosen n))
      (λ k. env n 0 k 2 (body.Collect 100 0 0)) l (follows served None) (follows promised None)
      (λ k. env n k 0 2 last0 ∷ []) (λ k lt. in_met 0 n k lt most) (λ k. refl) collect_is in
      all_of-append (turn (λ (e : Envelope). e.to) react) (to_each n (has (chosen n)) 0 2 (body.Victory (chosen n)))
      (to_each n (has (chosen n)) 0 2 (body.Collect 100 0 0)) (all (crew l defers))
      ∙ rw e (rw f (rw (flat_nones n) refl))

  -- ---- round G: all answered

  abbrev pub leased : List Envelope
  leased = to_each n (has (chosen n)) 0 2 (body.Lease 0)

  last_is : (k : ℕ) → 0 < k → suc k < n
      → react 0 (collects (met 0 k)) (env n k 0 2 last0) ≡ did (collects (met 0 (suc k))) [] []
  last_is k pos lt =
      hears_is n most 0 (below 0 (omega arith)) (env n k 0 2 last0) led _ _ [] _ led _ _ led_told
      (λ sh. last_more n most sh k (below 0 (omega arith)) (heard 0) pos lt) (unchanged led) led_small led_last refl
      refl

  settles_last : (k : ℕ) → 0 < k → suc k ≡ n
      → react 0 (collects (met 0 k)) (env n k 0 2 last0) ≡ did (leases (only 0) unacked) leased []
  settles_last k pos z =
      let e = below 0 (omega arith) in
      let me = me_at n 0 most e in
      hears_is n most 0 e (env n k 0 2 last0) led _ _ [] _ led _ _ led_told
      (λ sh. last_last n most sh k e (heard 0) pos z) (unchanged led) led_small led_last
      (none_told 0 me 2 (body.Lease 0) (members me (chosen n))) (sent_each me 2 (body.Lease 0) _ n)

  pub round_g : (P : ℕ → Place) → 1 < n → run_on (from_each n 0 2 last0) (all (crew (collects (only 0)) P))
      ≡ did (all (crew (leases (only 0) unacked) P)) leased []
  round_g P two =
      leader_gathers (λ (e : Envelope). e.to) react idle n (λ k. env n k 0 2 last0) (λ k. collects (met 0 k))
      (leases (only 0) unacked) P leased [] two (λ k. refl) refl last_is settles_last

  -- ---- rounds H and I: leases

  lease_is : (j : ℕ) → 0 < j → j < n → react j (follows promised None j) (env n 0 j 2 (body.Lease 0))
      ≡ did (follows promised (Some 5000) j) (env n j 0 2 (body.LeaseAck 0) ∷ []) []
  lease_is j pos lt =
      hears_is n most j (below j lt) (env n 0 j 2 (body.Lease 0)) promised _ _ [] _ promised _ _ promised_told
      (λ sh. lease_row n most sh j (below j lt) (heard j) pos) (unchanged promised) promised_small promised_last
      refl refl

  pub round_h : (l : Place) → run_on leased (all (crew l (follows promised None)))
      ≡ did (all (crew l (follows promised (Some 5000)))) (from_each n 0 2 (body.LeaseAck 0)) []
  round_h l =
      others_take (λ (e : Envelope). e.to) react idle n (has (chosen n)) (λ k. env n 0 k 2 (body.Lease 0)) l
      (follows promised None) (follows promised (Some 5000)) (λ k. env n k 0 2 (body.LeaseAck 0) ∷ [])
      (λ k lt. in_met 0 n k lt most) (λ k. refl) lease_is

  lease_ack_is : (k : ℕ) → 0 < k → suc k < n → react 0 (leases (met 0 k) unacked) (env n k 0 2 (body.LeaseAck 0))
      ≡ did (leases (met 0 (suc k)) unacked) [] []
  lease_ack_is k pos lt =
      hears_is n most 0 (below 0 (omega arith)) (env n k 0 2 (body.LeaseAck 0)) led _ _ [] _ led _ _ led_told
      (λ sh. lease_ack_more n most sh k (below 0 (omega arith)) (heard 0) pos lt) (unchanged led) led_small led_last
      refl refl

  all_acked : (k : ℕ) → 0 < k → suc k ≡ n
      → react 0 (leases (met 0 k) unacked) (env n k 0 2 (body.LeaseAck 0)) ≡ did (leases (chosen n) acked) [] []
  all_acked k pos z =
      hears_is n most 0 (below 0 (omega arith)) (env n k 0 2 (body.LeaseAck 0)) led _ _ [] _ led _ _ led_told
      (λ sh. lease_ack_last n most sh k (below 0 (omega arith)) (heard 0) pos z) (unchanged led) led_small led_last
      refl refl

  pub round_i : (P : ℕ → Place) → 1 < n → run_on (from_each n 0 2 (body.LeaseAck 0))
      (all (crew (leases (only 0) unacked) P)) ≡ did (all (crew (leases (chosen n) acked) P)) [] []
  round_i P two =
      leader_gathers (λ (e : Envelope). e.to) react idle n (λ k. env n k 0 2 (body.LeaseAck 0))
      (λ k. leases (met 0 k) unacked) (leases (chosen n) acked) P [] [] two (λ k. refl) refl lease_ack_is all_acked
