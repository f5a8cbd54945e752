-- How long runs of records are, and what is pending.
use Rattle.law_names.proofs.Table.{Cell, Op, found_as, longest, pending_of, record_at, run_of}
use Rattle.mon_msg.specs.Protocol.Records.{longest_onto}
use Rattle.quorum_history.proofs.History.{Accepted, Ghost, Glob}
use Rattle.quorum_history.proofs.Holds.{Disk, level_in}
use Rattle.quorum_history.proofs.Numbers.{level_is, pending_is}
use Rattle.quorum_walk.proofs.Sparing.{Own}
use Rattle.std.proofs.Common.{Bool, List, None, Option, Some, [], ap, arith, cond, false, inl, inr, length, length-append, suc, sym, zero, ℕ, ◌++◌, ◌+◌, ◌∙◌, ◌∷◌, ◌≡◌, ◌≤◌, ◌⊎◌}
use Rattle.std.proofs.lemmas.Bool.{cases_eq, cond_both, ne_eqb}

pub run_short : (records : ℕ → Cell) (count v : ℕ) → length (run_of records count v) ≤ count
unfolding run_of
run_short records zero v = omega arith
run_short records (suc count) v = by (record_at records v) (run_short records count (suc v))
  where
    by : (r : Option (List Op)) → length (run_of records count (suc v)) ≤ count → length (elim r as (λ _. List (List Op)) [ None ↦ [] | Some value ↦ value ∷ run_of records count (suc v) ]) ≤ suc count
    by None k = omega arith
    by (Some x) k = omega arith

longest_onto_short : {A : Type 0} (test : List A → Bool) (front xs : List A) → length (longest_onto test front xs) ≤ length front + length xs
longest_onto_short test front [] = omega arith
longest_onto_short test front (x ∷ xs) = cond_both (test (front ++ x ∷ [])) (longest_onto test (front ++ x ∷ []) xs) front (λ ys. length ys ≤ length front + length (x ∷ xs))
    (λ _. let k = longest_onto_short test (front ++ x ∷ []) xs in omega (arith, length-append front (x ∷ []))) (λ _. omega arith)

pub longest_short : {A : Type 0} (test : List A → Bool) (xs : List A) → length (longest test xs) ≤ length xs
longest_short test xs = let s = longest_onto_short test [] xs in omega arith

-- ---- what is pending

-- Either nothing is pending, and each value that the monitor accepted is for a committed version; or the value that it
-- accepted last is pending.
pub record NonePending (h : Ghost) (i : ℕ) (o : Own) (records : ℕ → Cell) : Type 0 where
  pub none : pending_of o.pending_v o.pending_pn o.last records ≡ None
  pub covers : (v r : ℕ) (y : List Op) → Accepted h i v r y → v ≤ o.last

pub record SomePending (h : Ghost) (i : ℕ) (o : Own) (records : ℕ → Cell) : Type 0 where
  pub x : List Op
  pub was : Accepted h i (suc o.last) o.pending_pn x
  pub some : pending_of o.pending_v o.pending_pn o.last records ≡ Some (record { version = suc o.last; pn = o.pending_pn; value = x })
  pub covers : (v r : ℕ) (y : List Op) → Accepted h i v r y → (v ≤ o.last) ⊎ ((v ≡ suc o.last) × (r ≤ o.pending_pn))

pub pending_cases : (n : ℕ) (h : Ghost) (i : ℕ) (o : Own) (records : ℕ → Cell) → Glob n h → Disk h i o records → o.marked ≡ false → NonePending h i o records ⊎ SomePending h i o records
unfolding pending_of
pending_cases n h i o records G D u = by (cases_eq o.pending_v (suc o.last))
  where
    next : o.pending_v ≤ suc o.last
    next = D.kept.next u

    level : level_in o ≡ o.last
    level = level_is o u

    low : (v r : ℕ) → (v ≤ level_in o) ⊎ ((o.pending_v ≡ v) × (r ≤ o.pending_pn)) → (o.pending_v ≡ suc o.last → ⊥) → v ≤ o.last
    low v r (inl s) ne = omega (arith, level)
    low v r (inr c) ne = let e = c.0 in omega (arith, next)

    at : (v r : ℕ) → (v ≤ level_in o) ⊎ ((o.pending_v ≡ v) × (r ≤ o.pending_pn)) → o.pending_v ≡ suc o.last → (v ≤ o.last) ⊎ ((v ≡ suc o.last) × (r ≤ o.pending_pn))
    at v r (inl s) e = inl (omega (arith, level))
    at v r (inr c) e = inr (sym c.0 ∙ e, c.1)

    by : (o.pending_v ≡ suc o.last) ⊎ (o.pending_v ≡ suc o.last → ⊥) → NonePending h i o records ⊎ SomePending h i o records
    by (inl e) =
        let V = D.kept.vote u e in
        let s = pending_is h.accepts i o.pending_v o.pending_pn o.last records e V (G.triples.fine i (suc o.last) o.pending_pn V.x V.was) in
        inr (record { x = V.x; was = V.was; some = s ∙ ap (λ (z : ℕ). Some (record { version = z; pn = o.pending_pn; value = V.x })) e; covers = λ v r y a. at v r (D.kept.covered v r y a) e })
    by (inr ne) = inl (record { none = ap (λ (b : Bool). cond b (found_as o.pending_v o.pending_pn (record_at records (suc o.last))) None) (ne_eqb o.pending_v (suc o.last) ne); covers = λ v r y a. low v r (D.kept.covered v r y a) ne })
