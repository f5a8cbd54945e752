-- A monitor of the log learns the next versions.
use Rattle.law_names.proofs.Runs.{AllValues}
use Rattle.law_names.proofs.Table.{Decision, KeyPlace, Last, Learn, Op, Store, apply, decision, encoded, fold, get, is_local, joined, learn_changes, number, number_bytes, number_in, ops_of, or_before, place, same_map}
use Rattle.log_copies.proofs.Ends.{number_put}
use Rattle.log_copies.proofs.Own.{own_local, own_number}
use Rattle.log_copies.proofs.Replayed.{learned_version, replayed}
use Rattle.log_copies.proofs.Taken.{encoded_append, folded_more, record_more}
use Rattle.log_copies.proofs.Versions.{copy_is, fold_next, record_decided, version}
use Rattle.log_copies.specs.Copies.{IsFolded, IsFuzzyCopy, IsRecord, is_own, with_version}
use Rattle.log_copies.specs.Versions.{HasVersions}
use Rattle.log_model.proofs.Committed.{holds}
use Rattle.log_model.proofs.KeptKeys.{no_local}
use Rattle.log_model.proofs.Places.{get_kept, is_shared, shared_is}
use Rattle.log_model.proofs.Records.{AreVersions}
use Rattle.log_model.proofs.Sharing.{of_own}
use Rattle.mon_bytes.specs.declared.entry.KeyPlace.TheVariants as key_place
use Rattle.mon_msg.proofs.Afterwards.{apply-append}
use Rattle.mon_msg.proofs.Joining.{apply-joined}
use Rattle.mon_tx.proofs.After.{get-apply}
use Rattle.mon_tx.proofs.Named.{decided-put}
use Rattle.mon_tx.proofs.Places.{exact_places, number_in-bytes, places_total}
use Rattle.mon_tx.specs.Map.{Place}
use Rattle.mon_tx.specs.declared.key.Area.TheVariants as area
use Rattle.mon_tx.specs.declared.key.Key.TheVariants as key
use Rattle.std.proofs.Common.{Bool, List, None, Some, [], ap, arith, cond, false, inl, inr, length, not, refl, subst, suc, sym, true, ℕ, ◌++◌, ◌+◌, ◌<◌, ◌^◌, ◌∙◌, ◌∷◌, ◌≡◌, ◌≤◌, ◌⊎◌}

-- a key that is a monitor's own because of its last version alone is the record after it
next_record : (last : ℕ) (at : Place) → is_local last at ≡ true → is_own at ≡ false → at ≡ place area.Paxos (key.Version (last + 1))
next_record last = of_own (λ q. is_own q ≡ false → q ≡ place area.Paxos (key.Version (last + 1))) last (record {
  last_committed = λ h. let g : true ≡ false = sym (own_number area.Paxos key.LastCommitted refl) ∙ h in absurd cc;
  last_pn = λ h. let g : true ≡ false = sym (own_number area.Paxos key.LastPn refl) ∙ h in absurd cc;
  accepted_pn = λ h. let g : true ≡ false = sym (own_number area.Paxos key.AcceptedPn refl) ∙ h in absurd cc;
  pending_v = λ h. let g : true ≡ false = sym (own_number area.Paxos key.PendingV refl) ∙ h in absurd cc;
  pending_pn = λ h. let g : true ≡ false = sym (own_number area.Paxos key.PendingPn refl) ∙ h in absurd cc;
  behind = λ h. refl;
  epoch = λ h. let g : true ≡ false = sym (own_number area.Monitor key.ElectionEpoch refl) ∙ h in absurd cc;
  boots = λ h. let g : true ≡ false = sym (own_number area.Monitor key.BootCount refl) ∙ h in absurd cc;
  mark = λ h. let g : true ≡ false = sym (own_number area.Sync key.InSync refl) ∙ h in absurd cc;
  floor = λ h. let g : true ≡ false = sym (own_number area.Sync key.Floor refl) ∙ h in absurd cc;
})

-- a copy up to a later version
pub later_copy : (log : List (List ℕ)) (s e f : ℕ) (x : KeyPlace) (m : Store) → e ≤ f → IsFuzzyCopy log s e x m → IsFuzzyCopy log s f x m
later_copy log s e f x m le copy = record {
  made = λ at shared here. by at (copy.made at shared here);
  not_yet = λ at shared past. behind at (copy.not_yet at shared past);
}
  where
    by : (at : Place) → IsFolded log s e at (get m at) ⊎ IsRecord log s e at (get m at) → IsFolded log s f at (get m at) ⊎ IsRecord log s f at (get m at)
    by at (inl h) = inl (folded_more log s e f at _ le h)
    by at (inr h) = inr (record_more log s e f at _ le h)

    behind : (at : Place) → (get m at ≡ None) ⊎ IsRecord log s e at (get m at) → (get m at ≡ None) ⊎ IsRecord log s f at (get m at)
    behind at (inl h) = inl h
    behind at (inr h) = inr (record_more log s e f at _ le h)

module _ (log : List (List ℕ)) where
  -- ---- the next version

  module _ (c : ℕ) (lt : c < length log) (m : Store) (V : HasVersions log c m) where
    -- what the version doesn't decide is as in the fold before it
    undecided : (at : Place) → is_own at ≡ false → decision (version log (suc c)) at ≡ None → get m at ≡ get (fold log c) at
    undecided at not_own none = by (is_local c at) refl
      where
        same : suc c ≡ c + 1
        same = omega arith

        by : (b : Bool) → is_local c at ≡ b → get m at ≡ get (fold log c) at
        by true t = absurd (record_decided log (suc c) at (next_record c at t not_own ∙ ap (λ (v : ℕ). place area.Paxos (key.Version v)) (sym same)) none)
        by false t = sym (ap (λ (n : Store). get n at) (shared_is m c V.last) ∙ get_kept m (is_shared c) at ∙ ap (λ b. cond (not b) (get m at) None) t) ∙ ap (λ (n : Store). get n at) V.folded

    -- after it, the store is a copy at that version
    pub exact : IsFuzzyCopy log (suc c) (suc c) key_place.Done (with_version log (suc c) m)
    exact = record { made = λ at not_own here. inl (record { version = suc c; from = omega arith; to = omega arith; is = by at not_own (decision (version log (suc c)) at) refl }); not_yet = λ at not_own past. absurd cc }
      where
        by : (at : Place) → is_own at ≡ false → (d : Decision) → decision (version log (suc c)) at ≡ d → get (with_version log (suc c) m) at ≡ get (fold log (suc c)) at
        by at not_own (Some x) t =
            get-apply (version log (suc c)) m at ∙ ap (λ (d : Decision). or_before d (get m at)) t ∙ sym (fold_next log c at ∙ ap (λ (d : Decision). or_before d (get (fold log c) at)) t)
        by at not_own None t =
            get-apply (version log (suc c)) m at ∙ ap (λ (d : Decision). or_before d (get m at)) t ∙ undecided at not_own t
            ∙ sym (fold_next log c at ∙ ap (λ (d : Decision). or_before d (get (fold log c) at)) t)

  -- ---- the last version is noted

  module _ (fits : length log ≤ 2 ^ 62) (all : AllValues log) (e : ℕ) (le : e ≤ length log) (m : Store) (copy : IsFuzzyCopy log e e key_place.Done m) where
    noted : Store
    noted = apply (encoded (Last e ∷ [])) m

    noted_last : number noted area.Paxos key.LastCommitted ≡ e
    unfolding noted
    noted_last =
        ap number_in (get-apply (encoded (Last e ∷ [])) m (place area.Paxos key.LastCommitted)
        ∙ ap (λ (d : Decision). or_before d (get m (place area.Paxos key.LastCommitted))) (decided-put area.Paxos key.LastCommitted (number_bytes e) area.Paxos key.LastCommitted))
        ∙ number_in-bytes e (omega arith)

    as_copied : (at : Place) → is_own at ≡ false → get noted at ≡ get (fold log e) at
    unfolding noted
    as_copied at not_own =
        get-apply (encoded (Last e ∷ [])) m at ∙ ap (λ (d : Decision). or_before d (get m at)) (number_put area.Paxos key.LastCommitted refl at not_own e)
        ∙ ap (λ b. cond (not b) (get m at) None) (sym not_own) ∙ sym (get_kept m (λ q. not (is_own q)) at) ∙ ap (λ (n : Store). get n at) (copy_is log fits all e le m copy)

    has_noted : HasVersions log e (apply (encoded (Last e ∷ [])) m)
    unfolding noted
    has_noted = record {
      within = le;
      last = noted_last;
      folded = shared_is noted e noted_last ∙ same_map places_total exact_places _ _ (λ at. get_kept noted (is_shared e) at ∙ by at (is_local e at) refl);
    }
      where
        by : (at : Place) (b : Bool) → is_local e at ≡ b → cond (not b) (get (apply (encoded (Last e ∷ [])) m) at) None ≡ get (fold log e) at
        by at true t = sym (no_local log e (holds log fits all e le) at t)
        by at false t = as_copied at (other (is_own at) refl)
          where
            other : (b : Bool) → is_own at ≡ b → b ≡ false
            other true o = let g : true ≡ false = sym (own_local e at o) ∙ t in absurd cc
            other false o = refl

  -- ---- all of the versions that are learned

  pub learned : length log ≤ 2 ^ 62 → AllValues log → (c : ℕ) (m : Store) → HasVersions log c m → (x : List Op) (values : List (List Op)) → AreVersions log (suc c) (x ∷ values)
      → suc c + length values ≤ length log
      → HasVersions log (suc c + length values) (apply (joined (encoded (learn_changes (suc c) (x ∷ values) ++ Last (suc c + length values) ∷ []))) m)
  learned fits all c m V x values W le = subst (HasVersions log e) (sym wrote) (has_noted fits all e le m1 copied)
    where
      e : ℕ
      e = suc c + length values

      m1 : Store
      m1 = apply (encoded (learn_changes (suc c) (x ∷ values))) m

      first : Store
      first = apply (ops_of (Learn (suc c) x)) m

      one : IsFuzzyCopy log (suc c) (suc c) key_place.Done (apply (ops_of (Learn (suc c) x)) m)
      one = subst (λ (n : Store). IsFuzzyCopy log (suc c) (suc c) key_place.Done n) (sym (learned_version log (suc c) x W.0 m)) (exact c (omega arith) m V)

      copied : IsFuzzyCopy log (suc c + length values) (suc c + length values) key_place.Done (apply (encoded (learn_changes (suc c) (x ∷ values))) m)
      copied =
          subst (λ (n : Store). IsFuzzyCopy log (suc c + length values) (suc c + length values) key_place.Done n) (sym (apply-append (ops_of (Learn (suc c) x)) (encoded (learn_changes (suc (suc c)) values)) m))
          (replayed log values (suc c) (suc c + length values) W.1 (omega arith) (apply (ops_of (Learn (suc c) x)) m)
          (later_copy log (suc c) (suc c) (suc c + length values) key_place.Done (apply (ops_of (Learn (suc c) x)) m) (omega arith) one))

      wrote : apply (joined (encoded (learn_changes (suc c) (x ∷ values) ++ Last (suc c + length values) ∷ []))) m ≡ apply (encoded (Last (suc c + length values) ∷ [])) (apply (encoded (learn_changes (suc c) (x ∷ values))) m)
      wrote =
          apply-joined (encoded (learn_changes (suc c) (x ∷ values) ++ Last (suc c + length values) ∷ [])) m
          ∙ ap (λ (ops : List Op). apply ops m) (encoded_append (learn_changes (suc c) (x ∷ values)) (Last (suc c + length values) ∷ []))
          ∙ apply-append (encoded (learn_changes (suc c) (x ∷ values))) (encoded (Last (suc c + length values) ∷ [])) m
