-- The replay of a copy: the versions that it reads are the log's, and the copy is then one from the last of them on.
use Rattle.law_names.proofs.Runs.{AllValues}
use Rattle.law_names.proofs.Table.{Learn, Op, Store, apply, cell, encoded, entry, fold, get, learn_changes, ops_of, place, put, readings_of, step_of}
use Rattle.log_copies.proofs.Own.{record_shared}
use Rattle.log_copies.proofs.Versions.{next_version}
use Rattle.log_copies.specs.Copies.{IsFolded, IsFuzzyCopy, IsRecord, with_version}
use Rattle.log_model.proofs.Committed.{keeps, nothing_above}
use Rattle.log_model.proofs.Records.{AreVersions, IsStep, IsVersion, MayHold, keeps_held, step_versions}
use Rattle.mon_bytes.specs.declared.entry.KeyPlace.TheVariants as key_place
use Rattle.mon_msg.proofs.Afterwards.{apply-append}
use Rattle.mon_tx.proofs.Ties.{decimal_text_injective}
use Rattle.mon_tx.specs.declared.key.Area.TheVariants as area
use Rattle.mon_tx.specs.declared.key.Key.TheVariants as key
use Rattle.std.proofs.Common.{List, Some, [], ap, arith, inl, inr, length, refl, subst, suc, sym, ℕ, ◌+◌, ◌-◌, ◌<◌, ◌^◌, ◌∙◌, ◌∷◌, ◌≡◌, ◌≤◌, ◌⊎◌}
use Rattle.std.proofs.lemmas.Bool.{cases_lt}

-- ---- the records of a copy

module _ (log : List (List ℕ)) (fits : length log ≤ 2 ^ 62) (all : AllValues log) where
  -- in the log's fold, after any of its versions
  folded_record : (t v : ℕ) → t ≤ length log → MayHold log v (get (fold log t) (place area.Paxos (key.Version v)))
  unfolding readings_of
  folded_record t v le = by (cases_lt t v)
    where
      by : (t < v) ⊎ (v ≤ t) → MayHold log v (get (fold log t) (place area.Paxos (key.Version v)))
      by (inl above) = inl (nothing_above log fits all t le v above)
      by (inr within) = keeps_held log fits all t (readings_of (fold log t)) (keeps log fits all t le) v within

  pub copied_record : (s e v : ℕ) → e ≤ length log → (m : Store) → IsFuzzyCopy log s e key_place.Done m → MayHold log v (cell m area.Paxos (key.Version v))
  copied_record s e v le m copy = by (copy.made (place area.Paxos (key.Version v)) (record_shared v) refl)
    where
      by : IsFolded log s e (place area.Paxos (key.Version v)) (cell m area.Paxos (key.Version v)) ⊎ IsRecord log s e (place area.Paxos (key.Version v)) (cell m area.Paxos (key.Version v))
          → MayHold log v (cell m area.Paxos (key.Version v))
      by (inl f) = subst (MayHold log v) (sym f.is) (folded_record f.version v (let t = f.to in omega arith))
      by (inr r) =
          let same : r.version ≡ v = decimal_text_injective r.version v (ap (λ (q : List ℕ × List ℕ). q.1) (sym r.place)) in
          inr (r.is ∙ ap (λ (u : ℕ). Some (entry log u)) same)

  -- the versions of a step are the log's
  pub step_is : (u e : ℕ) → u ≤ e → e ≤ length log → (m : Store) → IsFuzzyCopy log u e key_place.Done m → (values : List (List Op))
      → step_of (readings_of m).record_of (suc e - suc u) (suc u) ≡ Some values → IsStep log fits all (readings_of m).record_of (e - u) u values
  unfolding readings_of
  step_is u e up le m copy values h =
      let same : suc e - suc u ≡ e - u = omega arith in
      step_versions log fits all (λ v. cell m area.Paxos (key.Version v)) (e - u) u values (omega arith) (λ w from to. copied_record u e (suc w) le m copy)
      (ap (λ (n : ℕ). step_of (λ v. cell m area.Paxos (key.Version v)) n (suc u)) (sym same) ∙ h)

-- ---- their replay

module _ (log : List (List ℕ)) where
  -- a learned version is one of the log's
  pub learned_version : (v : ℕ) (x : List Op) → IsVersion log v x → (m : Store) → apply (ops_of (Learn v x)) m ≡ with_version log v m
  learned_version v x V m = λ i. apply (put area.Paxos (key.Version v) (sym V.encodes i) ∷ sym V.reads i) m

  pub replayed : (values : List (List Op)) (u e : ℕ) → AreVersions log (suc u) values → u + length values ≤ e → (m : Store) → IsFuzzyCopy log u e key_place.Done m
      → IsFuzzyCopy log (u + length values) e key_place.Done (apply (encoded (learn_changes (suc u) values)) m)
  replayed [] u e V le m copy = subst (λ (w : ℕ). IsFuzzyCopy log w e key_place.Done m) (omega arith) copy
  replayed (x ∷ values) u e V le m copy =
      let one = next_version log u e (omega arith) m copy in
      let same : suc u + length values ≡ u + length (x ∷ values) = omega arith in
      subst (λ (w : ℕ). IsFuzzyCopy log w e key_place.Done (apply (encoded (learn_changes (suc u) (x ∷ values))) m)) same
      (subst (λ (n : Store). IsFuzzyCopy log (suc u + length values) e key_place.Done n) (sym (apply-append (ops_of (Learn (suc u) x)) (encoded (learn_changes (suc (suc u)) values)) m))
      (replayed values (suc u) e V.1 (omega arith) (apply (ops_of (Learn (suc u) x)) m) (subst (λ (n : Store). IsFuzzyCopy log (suc u) e key_place.Done n) (sym (learned_version (suc u) x V.0 m)) one)))
