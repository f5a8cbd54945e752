-- What is chosen, and a log of what was chosen.
use Rattle.law_names.proofs.Runs.{AllValues}
use Rattle.law_names.proofs.Table.{Op, entry, has, is_majority, text, transaction_in}
use Rattle.log_model.proofs.Lists.{length_push}
use Rattle.log_model.proofs.Logs.{entry_push, entry_stays, log_prefix_push}
use Rattle.log_model.proofs.Records.{IsVersion, read_version}
use Rattle.quorum_history.proofs.History.{Accepted, Ghost, TriplesHold}
use Rattle.quorum_walk.proofs.Ranks.{Below, majorities}
use Rattle.std.proofs.Common.{Bool, List, Some, [], ap, arith, false, inl, inr, length, refl, subst, suc, sym, true, ℕ, ◌++◌, ◌<◌, ◌^◌, ◌∙◌, ◌∷◌, ◌≡◌, ◌≤◌, ◌⊎◌}
use Rattle.std.proofs.lemmas.Bool.{cases_order, false≢true}
use Rattle.std.proofs.lemmas.Slice.Eq.{bytes_eq-Decides}
use Rattle.std.specs.Str.{bytes_eq}

-- all ranks of a majority accepted the value for a version under one number
pub record Chosen (n : ℕ) (g : Ghost) (v : ℕ) (x : List Op) : Type 0 where
  pub pn : ℕ
  pub by : List Bool
  pub major : is_majority n by ≡ true
  pub below : Below n by
  pub all : (m : ℕ) → has by m ≡ true → Accepted g m v pn x

pub same_text : (x y : List Op) → (text x ≡ text y) ⊎ (text x ≡ text y → ⊥)
same_text x y = by (bytes_eq (text x) (text y)) refl
  where
    by : (b : Bool) → bytes_eq (text x) (text y) ≡ b → (text x ≡ text y) ⊎ (text x ≡ text y → ⊥)
    by true e = inl ((bytes_eq-Decides (text x) (text y)).0 e)
    by false e = inr (λ q. false≢true (sym e ∙ (bytes_eq-Decides (text x) (text y)).1 q))

module _ (n : ℕ) (g : Ghost) (T : TriplesHold n g.signs g.accepts) where
  -- a majority shares a rank with itself
  pub some_rank : (v : ℕ) (x : List Op) → (a : Chosen n g v x) → (m : ℕ) × Accepted g m v a.pn x
  some_rank v x a = let s = majorities n a.by a.by a.major a.major a.below a.below in (s.0, a.all s.0 s.1)

  reads : (v : ℕ) (x : List Op) → Chosen n g v x → transaction_in (Some (text x)) ≡ Some x
  reads v x a = let s = some_rank v x a in (T.fine s.0 v a.pn x s.1).reads

  same_value : (v : ℕ) (x y : List Op) → Chosen n g v x → Chosen n g v y → text x ≡ text y → x ≡ y
  same_value v x y a b e = let z : Some x ≡ Some y = sym (reads v x a) ∙ ap (λ (t : List ℕ). transaction_in (Some t)) e ∙ reads v y b in cc

  lower : (v : ℕ) (x y : List Op) → (a : Chosen n g v x) → (b : Chosen n g v y) → a.pn < b.pn → (text x ≡ text y) ⊎ (text x ≡ text y → ⊥) → x ≡ y
  lower v x y a b lt (inl e) = same_value v x y a b e
  lower v x y a b lt (inr ne) =
      let s = some_rank v y b in
      let R = T.safe s.0 v b.pn a.pn y x a.by s.1 lt (λ e. ne (ap text e)) a.major a.below in
      absurd (R.never (a.all R.m R.within))

  -- no two values are chosen for one version
  pub one_chosen : (v : ℕ) (x y : List Op) → Chosen n g v x → Chosen n g v y → x ≡ y
  one_chosen v x y a b = by (cases_order a.pn b.pn)
    where
      by : (a.pn ≡ b.pn) ⊎ ((a.pn < b.pn) ⊎ (b.pn < a.pn)) → x ≡ y
      by (inl e) =
          let s = majorities n a.by b.by a.major b.major a.below b.below in
          T.one s.0 s.0 v b.pn x y (subst (λ (p : ℕ). Accepted g s.0 v p x) e (a.all s.0 s.1)) (b.all s.0 s.2)
      by (inr (inl lt)) = lower v x y a b lt (same_text x y)
      by (inr (inr lt)) = sym (lower v y x b a lt (same_text y x))

-- ---- the log

-- each entry of the log encodes a value that was chosen for its version
pub record IsEntry (n : ℕ) (g : Ghost) (log : List (List ℕ)) (v : ℕ) : Type 0 where
  pub x : List Op
  pub chosen : Chosen n g v x
  pub encodes : entry log v ≡ text x

abbrev pub AllChosen : ℕ → Ghost → List (List ℕ) → Type 0
AllChosen n g log = (v : ℕ) → v < length log → IsEntry n g log (suc v)

module _ (n : ℕ) (g : Ghost) (T : TriplesHold n g.signs g.accepts) (log : List (List ℕ)) (A : AllChosen n g log) where
  -- what is chosen for a version that the log has is the log's
  pub is_version : length log ≤ 2 ^ 62 → AllValues log → (v : ℕ) → v < length log → (x : List Op) → Chosen n g (suc v) x → IsVersion log (suc v) x
  is_version fits all v lt x a =
      let e = A v lt in
      let same = one_chosen n g T (suc v) e.x x e.chosen a in
      let encodes : entry log (suc v) ≡ text x = e.encodes ∙ ap text same in
      read_version log fits all v lt x (ap (λ (t : List ℕ). transaction_in (Some t)) encodes ∙ reads n g T (suc v) x a)

  -- a value that is chosen for the next version may be the log's next entry
  pub chosen_push : (x : List Op) → Chosen n g (suc (length log)) x → AllChosen n g (log ++ text x ∷ [])
  chosen_push x a v lt = by (cases_order v (length log))
    where
      by : (v ≡ length log) ⊎ ((v < length log) ⊎ (length log < v)) → IsEntry n g (log ++ text x ∷ []) (suc v)
      by (inl e) = record { x = x; chosen = subst (λ (z : ℕ). Chosen n g (suc z) x) (sym e) a; encodes = ap (λ (z : ℕ). entry (log ++ text x ∷ []) (suc z)) e ∙ entry_push log (text x) }
      by (inr (inl low)) = let E = A v low in record { x = E.x; chosen = E.chosen; encodes = entry_stays (log_prefix_push log (text x)) (suc v) (omega arith) ∙ E.encodes }
      by (inr (inr high)) = let l = length_push log (text x) in absurd (omega arith)
