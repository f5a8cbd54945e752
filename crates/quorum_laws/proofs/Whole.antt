-- Every list of events keeps what holds.
use Rattle.law_names.proofs.Runs.{Envelope, is_active, messages_of, put_at}
use Rattle.law_names.proofs.Table.{AllByRecursion, Change, Contains, Me, Op, Phase, Readings, Sent, State, Store, Vote, apply, empty, encoded, joined, text}
use Rattle.mon_msg.specs.declared.plan.Sent.TheVariants as sent
use Rattle.mon_wire.specs.declared.phase.Phase.TheVariants as phase
use Rattle.quorum_history.proofs.Frame.{disk_lasts, entered_lasts, joined_lasts, message_lasts, phase_lasts, same_accepts, same_hands}
use Rattle.quorum_history.proofs.History.{Accepted, Ext, Ghost}
use Rattle.quorum_history.proofs.Holds.{Core, InPhase, SentHolds, Tied, core_of, epoch_in}
use Rattle.quorum_history.proofs.Phases.{no}
use Rattle.quorum_laws.proofs.Invariant.{EnvelopeFine, EnvelopeHolds, Mine, OnState, TriplesKept, WasActive}
use Rattle.quorum_laws.proofs.Voting.{accepts_vote, vote_accepted}
use Rattle.quorum_laws.specs.Accepting.{AcceptedIn, Accepts}
use Rattle.quorum_laws.specs.Promises.{Collects, NumbersRise, last_number}
use Rattle.quorum_model.proofs.Writing.{after_push}
use Rattle.quorum_model.specs.Safe.{after_transactions}
use Rattle.quorum_walk.proofs.FineCourses.{Fit, SentOwn, Shaped}
use Rattle.quorum_walk.proofs.Lists.{Among, all_map}
use Rattle.quorum_walk.proofs.Ranks.{within_at}
use Rattle.quorum_walk.proofs.Sparing.{own_of}
use Rattle.std.proofs.Common.{Bool, List, None, Option, Some, [], ap, arith, cond, eqb, false, inl, inr, refl, slice_index_or, subst, suc, sym, true, zero, ℕ, ◌%◌, ◌++◌, ◌<◌, ◌∙◌, ◌∷◌, ◌≡◌, ◌≤◌}
use Rattle.std.proofs.lemmas.Bool.{eq-eqb, eqb-false, eqb-true}
use Rattle.std.proofs.lemmas.List.Elements.{Contains-append_cases, Contains-append_left, Contains-append_right}

-- ---- what lasts

pub state_lasts : (n i : ℕ) (g h : Ghost) → Ext i g h → (j : ℕ) (w : Readings) (s : Option State) → (j ≡ i → ⊥) → OnState n g j w s → OnState n h j w s
state_lasts n i g h E j w None ne k = tt
state_lasts n i g h E j w (Some s) ne k = phase_lasts i g h E n j (core_of (own_of w) s) s.phase (same_accepts i g h E j ne) (same_hands i g h E j ne) k

pub mine_lasts : (n i : ℕ) (g h : Ghost) → Ext i g h → (j : ℕ) (w : Readings) (s : Option State) → (j ≡ i → ⊥) → Mine n g j w s → Mine n h j w s
mine_lasts n i g h E j w s ne k = record { fine = k.fine; fits = k.fits; disk = disk_lasts i g h E j (own_of w) w.record_of ne k.disk; state = state_lasts n i g h E j w s ne k.state }

pub active_last : (n i : ℕ) (g h : Ghost) → Ext i g h → (pairs : List (ℕ × ℕ)) → AllByRecursion (WasActive n g) pairs → AllByRecursion (WasActive n h) pairs
active_last n i g h E pairs k = all_map (WasActive n g) (WasActive n h) (λ c w. (w.0, entered_lasts i g h E c.1 c.0 c.1 w.0 w.1, λ m lt a. joined_lasts i g h E m c.0 c.1 (w.2 m lt a))) pairs k

pub envelopes_last : (n i : ℕ) (g h : Ghost) → Ext i g h → (es : List Envelope) → AllByRecursion (EnvelopeHolds n g) es → AllByRecursion (EnvelopeHolds n h) es
envelopes_last n i g h E es k = all_map (EnvelopeHolds n g) (EnvelopeHolds n h) (λ e w. (w.0, message_lasts i g h E e.to e.message w.1)) es k

-- who leads has its whole quorum
pub was_active : (n : ℕ) (h : Ghost) (i : ℕ) (c : Core) (p : Phase) → is_active p ≡ true → InPhase n h i c p → WasActive n h (epoch_in c.own, i)
was_active n h i c phase.Active e k = (c.quorum, k.0.reigns.role, λ m lt a. (k.0.heard m (within_at n c.quorum c.answered m k.1 lt a)).joined)
was_active n h i c phase.Updating e k = (c.quorum, k.0.reigns.role, λ m lt a. (k.0.heard m (within_at n c.quorum c.answered m k.1 lt a)).joined)
was_active n h i c other e k = no e

-- ---- what is put and sent

-- what is put at one place
pub at_put : {A B : Type 0} (P : ℕ → A → B → Type 0) (f : ℕ → A) (k : ℕ → B) (i : ℕ) (a : A) (b : B) → P i a b → ((j : ℕ) → (j ≡ i → ⊥) → P j (f j) (k j)) → (j : ℕ) → P j (put_at f i a j) (put_at k i b j)
at_put P f k i a b new old j = by (eqb j i) refl
  where
    by : (t : Bool) → eqb j i ≡ t → P j (cond t a (f j)) (cond t b (k j))
    by true e = subst (λ (z : ℕ). P z a b) (sym (eqb-true j i e)) new
    by false e = old j (eqb-false j i e)

pub envelopes_of : (n : ℕ) (g : Ghost) (i : ℕ) → i < n → (sends : List Sent) → AllByRecursion (SentHolds g i) sends → AllByRecursion (EnvelopeHolds n g) (messages_of sends)
envelopes_of n g i lt [] k = tt
envelopes_of n g i lt (sent.Message to m ∷ sends) k = ((let e = k.0.0 in omega arith, k.0.1), envelopes_of n g i lt sends k.1)
envelopes_of n g i lt (sent.Reply to r ∷ sends) k = envelopes_of n g i lt sends k.1

pub fine_envelopes : (me : Me) (sends : List Sent) → AllByRecursion (SentOwn me) sends → AllByRecursion EnvelopeFine (messages_of sends)
fine_envelopes me [] k = tt
fine_envelopes me (sent.Message to m ∷ sends) k = (k.0.0, fine_envelopes me sends k.1)
fine_envelopes me (sent.Reply to r ∷ sends) k = fine_envelopes me sends k.1

-- ---- what was accepted

module _ (i : ℕ) (g h : Ghost) (cs : List Change) (T : Tied i g h cs) (S : Shaped cs) (F : AllByRecursion Fit cs) (some : (j v p : ℕ) (x : List Op) → Accepted h j v p x → 1 ≤ v) (txs : ℕ → List (List Op)) (K : TriplesKept g txs) (lasts : (j v p : ℕ) (x : List Op) → Accepted g j v p x → Accepted h j v p x) where
  abbrev tx : List Op
  tx = joined (encoded cs)

  abbrev after_txs : ℕ → List (List Op)
  after_txs = put_at txs i (txs i ++ tx ∷ [])

  -- a transaction more of i
  at_i : (P : List (List Op) → Type 0) (j : ℕ) → P (txs j) → (j ≡ i → P (txs i ++ tx ∷ [])) → P (after_txs j)
  at_i P j old new = by (eqb j i) refl
    where
      by : (t : Bool) → eqb j i ≡ t → P (cond t (txs i ++ tx ∷ []) (txs j))
      by true e = new (eqb-true j i e)
      by false e = old

  longer : (v p : ℕ) (bytes : List ℕ) (us : List (List Op)) → AcceptedIn us v p bytes → AcceptedIn (us ++ tx ∷ []) v p bytes
  longer v p bytes us a = record { transaction = a.transaction; among = Contains-append_left us (tx ∷ []) a.transaction a.among; accepts = a.accepts }

  in_new : (v p : ℕ) (x : List Op) → 1 ≤ v → Among (Vote v p x) cs → AcceptedIn (txs i ++ tx ∷ []) v p (text x)
  in_new v p x one a = record { transaction = tx; among = Contains-append_right (txs i) (tx ∷ []) tx (0, omega arith, refl); accepts = vote_accepted cs S F v p x one a }

  kept : (j v p : ℕ) (x : List Op) → Accepted h j v p x → AcceptedIn (after_txs j) v p (text x)
  kept j v p x a = elim (T.only j v p x a) [
    | inl o ↦ (let k = K.kept j v p x o in at_i (λ us. AcceptedIn us v p (text x)) j k (λ e. longer v p (text x) (txs i) (subst (λ (z : ℕ). AcceptedIn (txs z) v p (text x)) e k)))
    | inr s ↦ at_put_new j s.0 (in_new v p x (some j v p x a) s.1)
  ]
    where
      at_put_new : (j : ℕ) → j ≡ i → AcceptedIn (txs i ++ tx ∷ []) v p (text x) → AcceptedIn (after_txs j) v p (text x)
      at_put_new j e k = rw (eq-eqb j i e) k

  abbrev Known : ℕ → ℕ → ℕ → List ℕ → Type 0
  Known j v p bytes = (x : List Op) × (bytes ≡ text x) × Accepted h j v p x

  old_known : (j v p : ℕ) (bytes : List ℕ) → AcceptedIn (txs j) v p bytes → Known j v p bytes
  old_known j v p bytes a = let k = K.known j v p bytes a in (k.0, k.1, lasts j v p k.0 k.2)

  new_known : (v p : ℕ) (bytes : List ℕ) → Accepts tx v p bytes → Known i v p bytes
  new_known v p bytes a = let k = accepts_vote cs S F v p bytes a in (k.0, k.1, T.votes v p k.0 k.2)

  known_in : (v p : ℕ) (bytes : List ℕ) (a : AcceptedIn (txs i ++ tx ∷ []) v p bytes) → Known i v p bytes
  known_in v p bytes a = elim (Contains-append_cases (txs i) (tx ∷ []) a.transaction a.among) [
    | inl o ↦ old_known i v p bytes (record { transaction = a.transaction; among = o; accepts = a.accepts })
    | inr o ↦ new_known v p bytes (subst (λ (t : List Op). Accepts t v p bytes) (only_one tx a.transaction o) a.accepts)
  ]
    where
      only_one : (t u : List Op) → Contains (t ∷ []) u → u ≡ t
      only_one t u c = by c.0 c.1 c.2
        where
          by : (k : ℕ) → k < 1 → slice_index_or (t ∷ []) k u ≡ u → u ≡ t
          by zero lt e = sym e
          by (suc k) lt e = absurd (omega arith)

  known : (j v p : ℕ) (bytes : List ℕ) → AcceptedIn (after_txs j) v p bytes → Known j v p bytes
  known j v p bytes = at_i (λ us. AcceptedIn us v p bytes → Known j v p bytes) j (old_known j v p bytes) (λ e a. subst (λ (z : ℕ). Known z v p bytes) (sym e) (known_in v p bytes a))

  pub triples_kept : TriplesKept h after_txs
  triples_kept = record { kept = kept; known = known }

-- ---- transactions

-- a transaction more
rise_push : (i : ℕ) (txs : List (List Op)) (u : List Op) (m : Store) → NumbersRise i m txs → ((pn : ℕ) → Collects u pn → (pn % 100 ≡ i) × (last_number (after_transactions txs m) < pn))
    → last_number (after_transactions txs m) ≤ last_number (apply u (after_transactions txs m)) → NumbersRise i m (txs ++ u ∷ [])
rise_push i [] u m h new up = (new, up, tt)
rise_push i (t ∷ txs) u m h new up = (h.0, h.1, rise_push i txs u (apply t m) h.2 new up)

module _ (store : ℕ → Store) (txs : ℕ → List (List Op)) (i : ℕ) (tx : List Op) (held : (j : ℕ) → store j ≡ after_transactions (txs j) empty) where
  pub held_after : (j : ℕ) → put_at store i (apply tx (store i)) j ≡ after_transactions (put_at txs i (txs i ++ tx ∷ []) j) empty
  held_after = at_put (λ (j : ℕ) (m : Store) (us : List (List Op)). m ≡ after_transactions us empty) store txs i (apply tx (store i)) (txs i ++ tx ∷ []) (ap (apply tx) (held i) ∙ sym (after_push (txs i) tx empty)) (λ j ne. held j)

  pub raised_after : ((j : ℕ) → NumbersRise j empty (txs j)) → ((pn : ℕ) → Collects tx pn → (pn % 100 ≡ i) × (last_number (store i) < pn)) → last_number (store i) ≤ last_number (apply tx (store i)) → (j : ℕ) → NumbersRise j empty (put_at txs i (txs i ++ tx ∷ []) j)
  raised_after raised new up = at_put (λ (j : ℕ) (m : Store) (us : List (List Op)). NumbersRise j empty us) store txs i (store i) (txs i ++ tx ∷ [])
      (rise_push i (txs i) tx empty (raised i) (subst (λ (m : Store). (pn : ℕ) → Collects tx pn → (pn % 100 ≡ i) × (last_number m < pn)) (held i) new) (subst (λ (m : Store). last_number m ≤ last_number (apply tx m)) (held i) up)) (λ j ne. raised j)
