-- A copy that is after one more version of the log, and one that is after all of them.
use Rattle.law_names.proofs.Runs.{AllValues}
use Rattle.law_names.proofs.Table.{Cell, Decision, Op, Store, decided, decision, entry, fold, get, later, ops_in, or_before, place, put, range_with_len, same_map}
use Rattle.log_copies.proofs.Own.{own_local}
use Rattle.log_copies.specs.Copies.{IsFolded, IsFuzzyCopy, IsRecord, catch_up, is_own, shared_with_records, with_version}
use Rattle.log_model.proofs.Committed.{holds}
use Rattle.log_model.proofs.KeptKeys.{no_local}
use Rattle.log_model.proofs.Places.{get_kept}
use Rattle.mon_bytes.specs.declared.entry.KeyPlace.TheVariants as key_place
use Rattle.mon_tx.proofs.After.{get-apply}
use Rattle.mon_tx.proofs.Named.{decided-put}
use Rattle.mon_tx.proofs.Places.{exact_places, places_total}
use Rattle.mon_tx.specs.Map.{Place}
use Rattle.mon_tx.specs.declared.key.Area.TheVariants as area
use Rattle.mon_tx.specs.declared.key.Key.TheVariants as key
use Rattle.std.proofs.Common.{Bool, List, None, Some, ap, arith, cond, false, inl, inr, length, not, refl, subst, suc, sym, true, zero, ℕ, ◌+◌, ◌-◌, ◌<◌, ◌^◌, ◌∙◌, ◌∷◌, ◌≡◌, ◌≤◌, ◌⊎◌}
use Rattle.std.proofs.lemmas.Bool.{cases_eq, eq-eqb}
use Rattle.std.specs.List as list

module _ (log : List (List ℕ)) where
  -- the changes of a version: its record is put, and then its entry's are made
  abbrev pub version : ℕ → List Op
  version v = put area.Paxos (key.Version v) (entry log v) ∷ ops_in (entry log v)

  pub fold_next : (u : ℕ) (at : Place) → get (fold log (suc u)) at ≡ or_before (decision (version (suc u)) at) (get (fold log u) at)
  unfolding fold
  fold_next u at = get-apply (version (suc u)) (fold log u) at

  -- a version decides its own record
  pub record_decided : (v : ℕ) (at : Place) → at ≡ place area.Paxos (key.Version v) → decision (version v) at ≡ None → ⊥
  record_decided v at is none = let g = sym (sym (ap (decided (put area.Paxos (key.Version v) (entry log v))) is ∙ put_decides) ∙ undecided (decision (ops_in (entry log v)) at) _ none) in absurd cc
    where
      put_decides : decided (put area.Paxos (key.Version v) (entry log v)) (place area.Paxos (key.Version v)) ≡ Some (Some (entry log v))
      put_decides = decided-put area.Paxos (key.Version v) (entry log v) area.Paxos (key.Version v) ∙ ap (λ b. cond b (Some (Some (entry log v))) None) (eq-eqb v v refl)

      undecided : (d e : Decision) → later d e ≡ None → e ≡ None
      undecided None e h = h
      undecided (Some c) e h = absurd cc

  -- ---- one version more

  module _ (u e : ℕ) (lt : u < e) (m : Store) where
    after : Place → Cell
    after at = get (with_version log (suc u) m) at

    one_more : (at : Place) → IsFolded log u e at (get m at) ⊎ IsRecord log u e at (get m at) → IsFolded log (suc u) e at (after at) ⊎ IsRecord log (suc u) e at (after at)
    unfolding after
    one_more at = by (decision (version (suc u)) at) refl
      where
        by : (d : Decision) → decision (version (suc u)) at ≡ d → IsFolded log u e at (get m at) ⊎ IsRecord log u e at (get m at)
            → IsFolded log (suc u) e at (get (with_version log (suc u) m) at) ⊎ IsRecord log (suc u) e at (get (with_version log (suc u) m) at)
        by (Some c) t h = inl (record {
          version = suc u;
          from = omega arith;
          to = omega arith;
          is = get-apply (version (suc u)) m at ∙ ap (λ (d : Decision). or_before d (get m at)) t ∙ sym (fold_next u at ∙ ap (λ (d : Decision). or_before d (get (fold log u) at)) t);
        })
        by None t (inl f) = elim (cases_eq f.version u) [
          | inl same ↦ inl (record {
            version = suc u;
            from = omega arith;
            to = omega arith;
            is = get-apply (version (suc u)) m at ∙ ap (λ (d : Decision). or_before d (get m at)) t ∙ f.is ∙ ap (λ (v : ℕ). get (fold log v) at) same
                ∙ sym (fold_next u at ∙ ap (λ (d : Decision). or_before d (get (fold log u) at)) t);
          })
          | inr ne ↦ inl (record {
            version = f.version;
            from = (let l = f.from in omega arith);
            to = f.to;
            is = get-apply (version (suc u)) m at ∙ ap (λ (d : Decision). or_before d (get m at)) t ∙ f.is;
          })
        ]
        by None t (inr r) = elim (cases_eq r.version (suc u)) [
          | inl same ↦ absurd (record_decided (suc u) at (r.place ∙ ap (λ (v : ℕ). place area.Paxos (key.Version v)) same) t)
          | inr ne ↦ inr (record {
            version = r.version;
            from = (let l = r.from in omega arith);
            to = r.to;
            place = r.place;
            is = get-apply (version (suc u)) m at ∙ ap (λ (d : Decision). or_before d (get m at)) t ∙ r.is;
          })
        ]

    -- a copy from u is one from u + 1 after version u + 1
    pub next_version : IsFuzzyCopy log u e key_place.Done m → IsFuzzyCopy log (suc u) e key_place.Done (with_version log (suc u) m)
    unfolding after
    next_version copy = record {
      made = λ at shared here. one_more at (copy.made at shared here);
      not_yet = λ at shared past. absurd cc;
    }

  -- ---- all of them

  caught_up : (count s e : ℕ) (m : Store) → s + count ≡ e → IsFuzzyCopy log s e key_place.Done m
      → IsFuzzyCopy log e e key_place.Done (list.fold (λ n v. with_version log v n) m (range_with_len (suc s) count))
  caught_up zero s e m is copy = subst (λ (u : ℕ). IsFuzzyCopy log u e key_place.Done m) (omega arith) copy
  caught_up (suc count) s e m is copy =
      let next : suc s + 1 ≡ suc (suc s) = omega arith in
      subst (λ (u : ℕ). IsFuzzyCopy log e e key_place.Done (list.fold (λ n v. with_version log v n) (with_version log (suc s) m) (range_with_len u count))) (sym next)
      (caught_up count (suc s) e (with_version log (suc s) m) (omega arith) (next_version s e (omega arith) m copy))

  -- a copy from a version to the same one is the fold there
  pub copy_is : length log ≤ 2 ^ 62 → AllValues log → (e : ℕ) → e ≤ length log → (m : Store) → IsFuzzyCopy log e e key_place.Done m → shared_with_records m ≡ fold log e
  copy_is fits all e le m copy = same_map places_total exact_places _ _ (λ at. get_kept m (λ q. not (is_own q)) at ∙ by at (is_own at) refl)
    where
      by : (at : Place) (b : Bool) → is_own at ≡ b → cond (not b) (get m at) None ≡ get (fold log e) at
      by at true t = sym (no_local log e (holds log fits all e le) at (own_local e at t))
      by at false t = elim (copy.made at t refl) [
        | inl f ↦ f.is ∙ ap (λ (v : ℕ). get (fold log v) at) (let a = f.from in let b = f.to in omega arith)
        | inr r ↦ absurd (let a = r.from in let b = r.to in omega arith)
      ]

  pub law : length log ≤ 2 ^ 62 → AllValues log → (s e : ℕ) → s ≤ e → e ≤ length log → (m : Store) → IsFuzzyCopy log s e key_place.Done m → shared_with_records (catch_up log s e m) ≡ fold log e
  law fits all s e from le m copy = copy_is fits all e le (catch_up log s e m) (caught_up (e - s) s e m (omega arith) copy)
