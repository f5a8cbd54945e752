-- The rows, each at the states that it meets.
use Rattle.calm_quorum.proofs.Sets.{chosen, count_after, in_met, is_most, met, not_alone, not_in_met, within_all, within_not}
use Rattle.calm_quorum.proofs.States.{acked, collecting, electing, following, leasing, me_at, probing, reacts, says, tells, unacked}
use Rattle.law_names.proofs.Table.{Boot, Course, Entry, Epoch, Me, Numbers, Promise, Readings, answer_of, any_reaction, at_rest, be_active, booting, change, collect_with, commits_to, count_of, extend, flat_map, is_majority, learn, members, message_to, no_ranks, only, others, pending_of, react, run_of, settle, with_rank}
use Rattle.mon_msg.specs.declared.input.Input.TheVariants as input
use Rattle.mon_wire.specs.declared.body.Body.TheVariants as body
use Rattle.mon_wire.specs.declared.phase.Phase.TheVariants as phase
use Rattle.std.proofs.Common.{Bool, List, None, Ok, Option, Some, [], ap, arith, eqb, false, inl, inr, ltb, map, nat_lt, refl, replicate, slice_index_or, slice_set, suc, sym, true, zero, ℕ, ◌&&◌, ◌++◌, ◌<◌, ◌∙◌, ◌∷◌, ◌≡◌, ◌≤◌}
use Rattle.std.proofs.lemmas.Bool.{cases_lt, eq-eqb, le-ltb, lt-ltb, ne_eqb}
use Rattle.table_rows.proofs.Electing as elections
use Rattle.table_rows.proofs.Electing.{ack_row, collects, counted, elects_now, last_row, late_reply_row, near_reply_row, probes, reigning, wins}
use Rattle.table_rows.proofs.Hearing.{IsLeader, IsMember, another}
use Rattle.table_rows.proofs.Serving as values
use Rattle.table_rows.proofs.Serving.{lease_ack_row}

module _ (n : ℕ) (most : n ≤ 15) (shared : List Entry) where
  abbrev at : (i : ℕ) → nat_lt i n ≡ true → Me
  at i e = me_at n i most e

  follows : (j : ℕ) (e : nat_lt j n ≡ true) (o : List Bool) (promise : Option ℕ) → 0 < j → IsLeader (at j e) (tells (Some 2) None promise) (following n j o None) 0 2
  follows j e o promise pos = record { other = λ z. omega arith; follows = refl; epoch = refl; leader = refl }

  asks : (k : ℕ) (e : nat_lt 0 n ≡ true) (o answered : List Bool) → 0 < k → k < n → IsMember (at 0 e) (tells (Some 2) (Some 100) (Some 100)) (collecting n o answered) phase.Collecting k 2
  asks k e o answered pos lt = record { other = λ z. omega arith; leads = refl; epoch = refl; member = in_met 0 n k lt most }

  leases : (k : ℕ) (e : nat_lt 0 n ≡ true) (o acks : List Bool) → 0 < k → k < n → IsMember (at 0 e) (tells (Some 2) (Some 100) (Some 100)) (leasing n o acks unacked) phase.Active k 2
  leases k e o acks pos lt = record { other = λ z. omega arith; leads = refl; epoch = refl; member = in_met 0 n k lt most }

  -- ---- the start

  abbrev unborn : Readings
  unborn = record (tells None None None) { boot = 0 }

  pub start_row : (i : ℕ) (e : nat_lt i n ≡ true) → 1 < n → any_reaction
      (react (at i e) shared 0 unborn (booting i) input.Start) ≡ Ok (reacts (Boot 1 ∷ Epoch 1 ∷ [])
      (map (message_to (at i e) 1 body.Probe) (others (at i e))) (probing i (only i)))
  start_row i e two =
      ap any_reaction (elections.start_row (at i e) shared 0 unborn (booting i) refl (omega arith) ∙ probes (at i e) 0 (counted (at i e) 0 unborn (booting i)) (lt-ltb 1 n two))

  -- ---- probes

  pub probe_row : (i j : ℕ) (e : nat_lt j n ≡ true) (o : List Bool) → (i ≡ j → ⊥) → any_reaction
      (react (at j e) shared 0 (tells (Some 1) None None) (probing j o)
      (input.Deliver (says n i 1 body.Probe)))
      ≡ Ok (reacts [] (message_to (at j e) 1 (body.ProbeReply no_ranks 0 0) i ∷ []) (probing j o))
  probe_row i j e o ne = ap any_reaction (elections.probe_row (at j e) shared 0 (tells (Some 1) None None) (probing j o) 1 (another ne refl) refl)

  pub reply_more : (i k : ℕ) (e : nat_lt i n ≡ true) (o : List Bool) → (k ≡ i → ⊥)
      → is_majority n (with_rank o k) ≡ false → any_reaction (react (at i e) shared 0
      (tells (Some 1) None None) (probing i o) (input.Deliver (says n k 1 (body.ProbeReply no_ranks 0 0))))
      ≡ Ok (reacts [] [] (probing i (with_rank o k)))
  reply_more i k e o ne h = ap any_reaction (near_reply_row (at i e) shared 0 (tells (Some 1) None None) (probing i o) 1 no_ranks 0 0 ne refl refl refl refl) ∙ rw h refl

  pub reply_enough : (i k : ℕ) (e : nat_lt i n ≡ true) (o : List Bool) → (k ≡ i → ⊥)
      → is_majority n (with_rank o k) ≡ true → any_reaction (react (at i e) shared 0
      (tells (Some 1) None None) (probing i o) (input.Deliver (says n k 1 (body.ProbeReply no_ranks 0 0))))
      ≡ Ok (reacts [] (map (message_to (at i e) 1 (body.Propose None)) (others (at i e)))
      (electing i (with_rank o k) true (only i) None))
  reply_enough i k e o ne h =
      ap any_reaction (near_reply_row (at i e) shared 0 (tells (Some 1) None None) (probing i o) 1 no_ranks 0 0 ne refl refl refl refl)
      ∙ rw h (ap any_reaction (elects_now (at i e) 0 (at_rest (tells (Some 1) None None) (probing i (with_rank o k))) refl))

  pub reply_late : (i k : ℕ) (e : nat_lt i n ≡ true) (o : List Bool) → (k ≡ i → ⊥) → any_reaction
      (react (at i e) shared 0 (tells (Some 1) None None) (electing i o true (only i) None)
      (input.Deliver (says n k 1 (body.ProbeReply no_ranks 0 0))))
      ≡ Ok (reacts [] [] (electing i o true (only i) None))
  reply_late i k e o ne = ap any_reaction (late_reply_row (at i e) shared 0 (tells (Some 1) None None) (electing i o true (only i) None) 1 no_ranks 0 0 (another ne refl) refl)

  -- ---- elections

  pub propose_row : (j : ℕ) (e : nat_lt j n ≡ true) (o : List Bool) → 0 < j → any_reaction
      (react (at j e) shared 0 (tells (Some 1) None None) (electing j o true (only j) None)
      (input.Deliver (says n 0 1 (body.Propose None))))
      ≡ Ok (reacts [] (message_to (at j e) 1 body.Ack 0 ∷ []) (electing j o false no_ranks (Some 0)))
  propose_row j e o pos =
      ap any_reaction (elections.propose_row (at j e) shared 0 (tells (Some 1) None None) (electing j o true (only j) None) 1 None (λ z. omega arith) refl refl refl refl) ∙ rw (lt-ltb 0 j pos) refl

  pub propose_first : (i : ℕ) (e : nat_lt 0 n ≡ true) (o : List Bool) → 0 < i → any_reaction
      (react (at 0 e) shared 0 (tells (Some 1) None None) (electing 0 o true (only 0) None)
      (input.Deliver (says n i 1 (body.Propose None)))) ≡ Ok (reacts [] [] (electing 0 o true (only 0) None))
  propose_first i e o pos =
      ap any_reaction (elections.propose_row (at 0 e) shared 0 (tells (Some 1) None None) (electing 0 o true (only 0) None) 1 None (λ z. omega arith) refl refl refl refl)
      ∙ rw (le-ltb i 0 (omega arith), ne_eqb i 0 (λ z. omega arith)) refl

  pub propose_late : (i j : ℕ) (e : nat_lt j n ≡ true) (o : List Bool) → 0 < i → (i ≡ j → ⊥)
      → any_reaction (react (at j e) shared 0 (tells (Some 1) None None)
      (electing j o false no_ranks (Some 0)) (input.Deliver (says n i 1 (body.Propose None))))
      ≡ Ok (reacts [] [] (electing j o false no_ranks (Some 0)))
  propose_late i j e o pos ne =
      ap any_reaction (elections.propose_row (at j e) shared 0 (tells (Some 1) None None) (electing j o false no_ranks (Some 0)) 1 None ne refl refl refl refl)
      ∙ rw (ne_eqb i j ne, ne_eqb i 0 (λ z. omega arith), le-ltb i 0 (omega arith)) (elim (cases_lt i j) [ inl lt ↦ rw (lt-ltb i j lt) refl | inr ge ↦ rw (le-ltb i j ge) refl ])

  pub ack_more : (k : ℕ) (e : nat_lt 0 n ≡ true) (o : List Bool) → 0 < k → suc k < n → any_reaction
      (react (at 0 e) shared 0 (tells (Some 1) None None) (electing 0 o true (met 0 k) None)
      (input.Deliver (says n k 1 body.Ack))) ≡ Ok (reacts [] [] (electing 0 o true (met 0 (suc k)) None))
  ack_more k e o pos lt =
      let c = count_after 0 (suc k) (omega arith) (omega arith) (omega arith) in
      let h : eqb (count_of (with_rank (met 0 k) k)) n ≡ false = ne_eqb _ _ (λ z. omega arith) in
      ap any_reaction (ack_row (at 0 e) shared 0 (tells (Some 1) None None) (electing 0 o true (met 0 k) None) 1 (λ z. omega arith) refl refl refl refl) ∙ rw h refl

  pub ack_last : (k : ℕ) (e : nat_lt 0 n ≡ true) (o : List Bool) → 0 < k → suc k ≡ n → any_reaction
      (react (at 0 e) shared 0 (tells (Some 1) None None) (electing 0 o true (met 0 k) None)
      (input.Deliver (says n k 1 body.Ack))) ≡ Ok (reacts (Epoch 2 ∷ Numbers 100 ∷ [])
      (map (message_to (at 0 e) 2 (body.Victory (chosen n))) (members (at 0 e) (chosen n))
      ++ map (message_to (at 0 e) 2 (body.Collect 100 0 0)) (members (at 0 e) (chosen n)))
      (collecting n o (only 0)))
  unfolding collect_with pending_of
  ack_last k e o pos z =
      let c = count_after 0 (suc k) (omega arith) (omega arith) (omega arith) in
      let h : eqb (count_of (chosen n)) n ≡ true = eq-eqb _ _ (ap (λ (m : ℕ). count_of (met 0 m)) (sym z) ∙ c ∙ z) in
      let s : with_rank (met 0 k) k ≡ chosen n = ap (met 0) z in
      let won : Course = at_rest (tells (Some 1) None None) (electing 0 o true (chosen n) None) in
      ap any_reaction (ack_row (at 0 e) shared 0 (tells (Some 1) None None) (electing 0 o true (met 0 k) None) 1 (λ z. omega arith) refl refl refl refl)
      ∙ rw s (rw h (ap any_reaction (wins (at 0 e) 0 (chosen n) won (omega arith)
      ∙ collects (at 0 e) 0 (chosen n) 0 (reigning (at 0 e) (chosen n) (change (Epoch 2) won)) (omega arith) (not_alone n (omega arith) most))))

  pub victory_row : (j : ℕ) (e : nat_lt j n ≡ true) (o : List Bool) → 0 < j → j < n → any_reaction
      (react (at j e) shared 0 (tells (Some 1) None None) (electing j o false no_ranks (Some 0))
      (input.Deliver (says n 0 2 (body.Victory (chosen n))))) ≡ Ok (reacts (Epoch 2 ∷ []) [] (following n j o None))
  victory_row j e o pos lt =
      ap any_reaction (elections.victory_row (at j e) shared 0 (tells (Some 1) None None) (electing j o false no_ranks (Some 0)) 2 (chosen n) (λ z. omega arith) refl refl refl
      (λ x. in_met 0 n j lt most x && in_met 0 n 0 (omega arith) most x && is_most n (omega arith) most x))

  -- ---- what was accepted

  pub collect_row : (j : ℕ) (e : nat_lt j n ≡ true) (o : List Bool) → 0 < j → any_reaction
      (react (at j e) shared 0 (tells (Some 2) None None) (following n j o None)
      (input.Deliver (says n 0 2 (body.Collect 100 0 0)))) ≡ Ok (reacts (Promise 100 ∷ [])
      (message_to (at j e) 2 (body.Last 100 0 0 true 1 [] None) 0 ∷ []) (following n j o None))
  unfolding answer_of run_of pending_of
  collect_row j e o pos = ap any_reaction (elections.collect_row (at j e) shared 0 (follows j e o None pos) 100 0 0 refl (omega arith))

  -- a leader that notes version 0 of a member notes nothing
  zero_told : (k m : ℕ) → slice_set {A = ℕ} (replicate m 0) k 0 ≡ replicate m 0
  zero_told k zero = refl
  zero_told zero (suc m) = refl
  zero_told (suc k) (suc m) = ap (λ ks. 0 ∷ ks) (zero_told k m)

  pub last_more : (k : ℕ) (e : nat_lt 0 n ≡ true) (o : List Bool) → 0 < k → suc k < n
      → any_reaction (react (at 0 e) shared 0 (tells (Some 2) (Some 100) (Some 100))
      (collecting n o (met 0 k)) (input.Deliver (says n k 2 (body.Last 100 0 0 true 1 [] None))))
      ≡ Ok (reacts [] [] (collecting n o (met 0 (suc k))))
  unfolding learn
  last_more k e o pos lt =
      let h = within_not n (chosen n) (with_rank (met 0 k) k) (suc k) lt (in_met 0 n (suc k) lt most)
      (not_in_met 0 (suc k) (suc k) (omega arith) (λ z. omega arith)) in
      ap any_reaction (last_row (at 0 e) shared 0 (asks k e o (met 0 k) pos (omega arith)) 100 0 0 true 1 [] None refl refl) ∙ rw (zero_told k 15) (rw h refl)

  -- none of the members lacks a version
  no_commits : (me : Me) (w : Readings) (lasts ks : List ℕ) → w.last ≡ 0 → flat_map (commits_to me w lasts) ks ≡ []
  no_commits me w lasts [] z = refl
  no_commits me w lasts (k ∷ ks) z =
      let h : ltb (slice_index_or {A = ℕ} lasts k 0) w.last ≡ false = le-ltb _ _ (omega arith) in
      rw h (no_commits me w lasts ks z)

  pub last_last : (k : ℕ) (e : nat_lt 0 n ≡ true) (o : List Bool) → 0 < k → suc k ≡ n
      → any_reaction (react (at 0 e) shared 0 (tells (Some 2) (Some 100) (Some 100))
      (collecting n o (met 0 k)) (input.Deliver (says n k 2 (body.Last 100 0 0 true 1 [] None))))
      ≡ Ok (reacts [] (map (message_to (at 0 e) 2 (body.Lease 0)) (members (at 0 e) (chosen n)))
      (leasing n o (only 0) unacked))
  unfolding learn settle be_active extend
  last_last k e o pos z =
      let s : with_rank (met 0 k) k ≡ chosen n = ap (met 0) z in
      let h = within_all n (chosen n) (chosen n) (λ j lt. in_met 0 n j lt most) in
      ap any_reaction (last_row (at 0 e) shared 0 (asks k e o (met 0 k) pos (omega arith)) 100 0 0 true 1 [] None refl refl)
      ∙ rw (zero_told k 15) (rw s (rw h (rw (
        not_alone n (omega arith) most,
        no_commits (at 0 e)
            (tells (Some 2) (Some 100) (Some 100)) (replicate 15 0) (members (at 0 e) (chosen n)) refl,
      )
      refl)))

  -- ---- leases

  pub lease_row : (j : ℕ) (e : nat_lt j n ≡ true) (o : List Bool) → 0 < j → any_reaction
      (react (at j e) shared 0 (tells (Some 2) None (Some 100)) (following n j o None)
      (input.Deliver (says n 0 2 (body.Lease 0))))
      ≡ Ok (reacts [] (message_to (at j e) 2 (body.LeaseAck 0) 0 ∷ []) (following n j o (Some 5000)))
  unfolding pending_of
  lease_row j e o pos = ap any_reaction (values.lease_row (at j e) shared 0 (follows j e o (Some 100) pos) 0 refl refl)

  pub lease_ack_more : (k : ℕ) (e : nat_lt 0 n ≡ true) (o : List Bool) → 0 < k → suc k < n
      → any_reaction (react (at 0 e) shared 0 (tells (Some 2) (Some 100) (Some 100))
      (leasing n o (met 0 k) unacked) (input.Deliver (says n k 2 (body.LeaseAck 0))))
      ≡ Ok (reacts [] [] (leasing n o (met 0 (suc k)) unacked))
  lease_ack_more k e o pos lt =
      let h = within_not n (chosen n) (with_rank (met 0 k) k) (suc k) lt (in_met 0 n (suc k) lt most)
      (not_in_met 0 (suc k) (suc k) (omega arith) (λ z. omega arith)) in
      ap any_reaction (lease_ack_row (at 0 e) shared 0 (leases k e o (met 0 k) pos (omega arith)) 0 refl) ∙ rw h refl

  pub lease_ack_last : (k : ℕ) (e : nat_lt 0 n ≡ true) (o : List Bool) → 0 < k → suc k ≡ n
      → any_reaction (react (at 0 e) shared 0 (tells (Some 2) (Some 100) (Some 100))
      (leasing n o (met 0 k) unacked) (input.Deliver (says n k 2 (body.LeaseAck 0))))
      ≡ Ok (reacts [] [] (leasing n o (chosen n) acked))
  lease_ack_last k e o pos z =
      let s : with_rank (met 0 k) k ≡ chosen n = ap (met 0) z in
      let h = within_all n (chosen n) (chosen n) (λ j lt. in_met 0 n j lt most) in
      ap any_reaction (lease_ack_row (at 0 e) shared 0 (leases k e o (met 0 k) pos (omega arith)) 0 refl) ∙ rw s (rw h refl)
