-- Which values were accepted is read off the kept transactions, so that no history goes from one event to the next.
use Rattle.law_names.proofs.Runs.{Asked, put_at}
use Rattle.law_names.proofs.Table.{AllByRecursion, Change, Op, Vote, encoded, joined, text, transaction_in}
use Rattle.quorum_agreement.proofs.Chosen.{AllChosen}
use Rattle.quorum_agreement.proofs.Made.{AllMade, MadeOver}
use Rattle.quorum_history.proofs.History.{Accepted, Ghost, TriplesHold}
use Rattle.quorum_laws.proofs.Invariant.{TriplesKept}
use Rattle.quorum_laws.proofs.Reading.{among_of}
use Rattle.quorum_laws.proofs.Voting.{accepts_vote}
use Rattle.quorum_laws.specs.Accepting.{AcceptedIn, Accepts}
use Rattle.quorum_walk.proofs.FineCourses.{Fit, Shaped, Val}
use Rattle.quorum_walk.proofs.Lists.{Among}
use Rattle.std.proofs.Common.{Bool, List, Some, [], ap, cond, eqb, false, inl, inr, refl, subst, suc, sym, true, ℕ, ◌++◌, ◌∙◌, ◌∷◌, ◌≡◌, ◌⊎◌}
use Rattle.std.proofs.lemmas.Bool.{eqb-true}
use Rattle.std.proofs.lemmas.List.Elements.{Contains-append_cases, Contains-append_left}

-- Two histories, of which the later has the same transactions but for those that were added.
module _ (n : ℕ) (g h : Ghost) (before after : ℕ → List (List Op)) (T : TriplesHold n g.signs g.accepts) (U : TriplesHold n h.signs h.accepts) (K : TriplesKept g before) (L : TriplesKept h after) where
  -- values that are encoded alike are the same
  encoded_alike : (i j v w p q : ℕ) (x y : List Op) → Accepted g i v p x → Accepted h j w q y → text x ≡ text y → x ≡ y
  encoded_alike i j v w p q x y a b e =
      let z : Some x ≡ Some y = sym (T.fine i v p x a).reads ∙ ap (λ (t : List ℕ). transaction_in (Some t)) e ∙ (U.fine j w q y b).reads in cc

  -- what was accepted still is
  pub still_accepted : ((i v p : ℕ) (bytes : List ℕ) → AcceptedIn (before i) v p bytes → AcceptedIn (after i) v p bytes) → (i v p : ℕ) (x : List Op) → Accepted g i v p x → Accepted h i v p x
  still_accepted keeps i v p x a =
      let k = L.known i v p (text x) (keeps i v p (text x) (K.kept i v p x a)) in
      subst (Accepted h i v p) (sym (encoded_alike i i v v p p x k.0 a k.2 k.1)) k.2

  pub still_chosen : ((i v p : ℕ) (bytes : List ℕ) → AcceptedIn (before i) v p bytes → AcceptedIn (after i) v p bytes) → (log : List (List ℕ)) → AllChosen n g log → AllChosen n h log
  still_chosen keeps log A v lt =
      let e = A v lt in
      let c = e.chosen in
      record { x = e.x; chosen = record { pn = c.pn; by = c.by; major = c.major; below = c.below; all = λ m k. still_accepted keeps m (suc v) c.pn e.x (c.all m k) }; encodes = e.encodes }

  -- and what is accepted now was before, or is a vote of the event
  pub all_made_again : (asked : List Asked) (log : List (List ℕ)) (cs : List Change)
      → ((i v p : ℕ) (bytes : List ℕ) → AcceptedIn (after i) v p bytes → AcceptedIn (before i) v p bytes ⊎ ((x : List Op) × (bytes ≡ text x) × Among (Vote v p x) cs))
      → ((v p : ℕ) (x : List Op) → Among (Vote v p x) cs → Val x × MadeOver n asked log v x) → AllMade n g asked log → AllMade n h asked log
  all_made_again asked log cs added votes M j v p x a = elim (added j v p (text x) (L.kept j v p x a)) [
    | inl o ↦ (let k = K.known j v p (text x) o in subst (MadeOver n asked log v) (encoded_alike j j v v p p k.0 x k.2 a (sym k.1)) (M j v p k.0 k.2))
    | inr s ↦ (let made = votes v p s.0 s.2 in subst (MadeOver n asked log v) (same s.0 made.0 s.1) made.1)
  ]
    where
      same : (y : List Op) → Val y → text x ≡ text y → y ≡ x
      same y V e = let z : Some y ≡ Some x = sym V.reads ∙ ap (λ (t : List ℕ). transaction_in (Some t)) (sym e) ∙ (U.fine j v p x a).reads in cc

-- ---- the transactions of an event

-- one more of monitor i
pub accepted_keeps : (txs : ℕ → List (List Op)) (i : ℕ) (tx : List Op) (j v p : ℕ) (bytes : List ℕ) → AcceptedIn (txs j) v p bytes → AcceptedIn (put_at txs i (txs i ++ tx ∷ []) j) v p bytes
accepted_keeps txs i tx j v p bytes a = by (eqb j i) refl
  where
    longer : AcceptedIn (txs i) v p bytes → AcceptedIn (txs i ++ tx ∷ []) v p bytes
    longer b = record { transaction = b.transaction; among = Contains-append_left (txs i) (tx ∷ []) b.transaction b.among; accepts = b.accepts }

    by : (t : Bool) → eqb j i ≡ t → AcceptedIn (cond t (txs i ++ tx ∷ []) (txs j)) v p bytes
    by true e = longer (subst (λ (z : ℕ). AcceptedIn (txs z) v p bytes) (eqb-true j i e) a)
    by false e = a

module _ (cs : List Change) (S : Shaped cs) (F : AllByRecursion Fit cs) (txs : ℕ → List (List Op)) (i : ℕ) where
  abbrev tx : List Op
  tx = joined (encoded cs)

  abbrev after_txs : ℕ → List (List Op)
  after_txs = put_at txs i (txs i ++ tx ∷ [])

  pub accepted_added : (j v p : ℕ) (bytes : List ℕ) → AcceptedIn (after_txs j) v p bytes → AcceptedIn (txs j) v p bytes ⊎ ((x : List Op) × (bytes ≡ text x) × Among (Vote v p x) cs)
  accepted_added j v p bytes = by (eqb j i) refl
    where
      by : (t : Bool) → eqb j i ≡ t → AcceptedIn (cond t (txs i ++ tx ∷ []) (txs j)) v p bytes → AcceptedIn (txs j) v p bytes ⊎ ((x : List Op) × (bytes ≡ text x) × Among (Vote v p x) cs)
      by true e a = elim (Contains-append_cases (txs i) (tx ∷ []) a.transaction a.among) [
        | inl o ↦ inl (subst (λ (z : ℕ). AcceptedIn (txs z) v p bytes) (sym (eqb-true j i e)) (record { transaction = a.transaction; among = o; accepts = a.accepts }))
        | inr o ↦ elim (among_of (tx ∷ []) a.transaction o) [ inl is ↦ inr (accepts_vote cs S F v p bytes (subst (λ (t : List Op). Accepts t v p bytes) is a.accepts)) | inr none ↦ absurd none ]
      ]
      by false e a = inl a
