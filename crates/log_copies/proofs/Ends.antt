-- How a full synchronization begins and ends: it gives up all that is shared, and in the end shares the fold.
use Rattle.law_names.proofs.Runs.{AllValues}
use Rattle.law_names.proofs.Table.{Area, Decision, Key, Last, Op, Store, Unmark, apply, decided, decision, empty, encoded, fold, get, is_local, later, number, number_bytes, number_in, or_before, place, place_cmp, put_number, same_map, shared}
use Rattle.log_copies.proofs.Own.{own_local, own_number}
use Rattle.log_copies.proofs.Versions.{copy_is}
use Rattle.log_copies.specs.Copies.{IsFuzzyCopy, is_own, shared_with_records}
use Rattle.log_model.proofs.Committed.{holds}
use Rattle.log_model.proofs.KeptKeys.{no_local}
use Rattle.log_model.proofs.Places.{get_kept, is_shared, same_place, shared_is}
use Rattle.log_model.proofs.Spares.{is_number}
use Rattle.mon_bytes.specs.declared.entry.KeyPlace.TheVariants as key_place
use Rattle.mon_msg.specs.Protocol.Changes.{erase}
use Rattle.mon_tx.proofs.After.{get-apply}
use Rattle.mon_tx.proofs.Named.{decided-erase, decided-put}
use Rattle.mon_tx.proofs.Places.{exact_places, number_in-bytes, places_total}
use Rattle.mon_tx.specs.Map.{Place}
use Rattle.mon_tx.specs.declared.key.Area.TheVariants as area
use Rattle.mon_tx.specs.declared.key.Key.TheVariants as key
use Rattle.std.proofs.Common.{Bool, List, None, Some, [], ap, arith, cond, false, inl, length, not, refl, sym, true, ℕ, ◌^◌, ◌∙◌, ◌∷◌, ◌≡◌, ◌≤◌}
use Rattle.std.specs.FinMap.{get-empty}
use Rattle.std.specs.Ordering.{eq_by_cmp}

-- ---- changes of a monitor's own numbers decide no key that is shared

module _ (a : Area) (k : Key) (own : is_number a k ≡ true) (at : Place) (not_own : is_own at ≡ false) where
  apart : eq_by_cmp place_cmp at (place a k) ≡ false
  apart = by (eq_by_cmp place_cmp at (place a k)) refl
    where
      by : (b : Bool) → eq_by_cmp place_cmp at (place a k) ≡ b → b ≡ false
      by true t = let g : false ≡ true = sym not_own ∙ ap is_own (same_place at (place a k) t) ∙ own_number a k own in absurd cc
      by false t = refl

  pub number_put : (n : ℕ) → decided (put_number a k n) at ≡ None
  number_put n = ap (λ b. cond b (Some (Some (number_bytes n))) None) apart

  pub number_erased : decided (erase a k) at ≡ None
  number_erased = ap (λ b. cond b (Some None) None) apart

-- ---- the end

module _ (log : List (List ℕ)) (fits : length log ≤ 2 ^ 62) (all : AllValues log) (e : ℕ) (le : e ≤ length log) (m : Store) (copy : IsFuzzyCopy log e e key_place.Done m) where
  abbrev pub ended : Store
  ended = apply (encoded (Last e ∷ Unmark ∷ [])) m

  abbrev ops : List Op
  ops = encoded (Last e ∷ Unmark ∷ [])

  pub ended_last : number ended area.Paxos key.LastCommitted ≡ e
  ended_last = ap number_in (get-apply ops m (place area.Paxos key.LastCommitted) ∙ ap (λ (d : Decision). or_before d (get m (place area.Paxos key.LastCommitted))) decides) ∙ number_in-bytes e (omega arith)
    where
      decides : decision ops (place area.Paxos key.LastCommitted) ≡ Some (Some (number_bytes e))
      decides = λ i.
          later (later (later None (decided-erase area.Sync key.Floor area.Paxos key.LastCommitted i)) (decided-erase area.Sync key.InSync area.Paxos key.LastCommitted i))
          (decided-put area.Paxos key.LastCommitted (number_bytes e) area.Paxos key.LastCommitted i)

  as_before : (at : Place) → is_own at ≡ false → get ended at ≡ get m at
  as_before at shared = get-apply ops m at ∙ (λ i.
      or_before (later (later (later None (number_erased area.Sync key.Floor refl at shared i)) (number_erased area.Sync key.InSync refl at shared i))
      (number_put area.Paxos key.LastCommitted refl at shared e i)) (get m at))

  copied : (at : Place) → is_own at ≡ false → get m at ≡ get (fold log e) at
  copied at shared = ap (λ b. cond (not b) (get m at) None) (sym shared) ∙ sym (get_kept m (λ q. not (is_own q)) at) ∙ ap (λ (n : Store). get n at) (copy_is log fits all e le m copy)

  -- what is shared is the fold at the last version
  pub ended_shared : shared ended ≡ fold log e
  ended_shared = shared_is ended e ended_last ∙ same_map places_total exact_places _ _ (λ at. get_kept ended (is_shared e) at ∙ by at (is_local e at) refl)
    where
      by : (at : Place) (b : Bool) → is_local e at ≡ b → cond (not b) (get ended at) None ≡ get (fold log e) at
      by at true t = sym (no_local log e (holds log fits all e le) at t)
      by at false t = as_before at not_own ∙ copied at not_own
        where
          not_own : is_own at ≡ false
          not_own = other (is_own at) refl
            where
              other : (b : Bool) → is_own at ≡ b → b ≡ false
              other true o = let g : true ≡ false = sym (own_local e at o) ∙ t in absurd cc
              other false o = refl

-- ---- the beginning

-- a store without shared keys is a copy from any version, up to the first place
pub copy_begins : (log : List (List ℕ)) (s : ℕ) (m : Store) → shared_with_records m ≡ empty → IsFuzzyCopy log s s key_place.Start m
copy_begins log s m none = record {
  made = λ at shared here. absurd cc;
  not_yet = λ at shared past. inl (ap (λ b. cond (not b) (get m at) None) (sym shared) ∙ sym (get_kept m (λ q. not (is_own q)) at) ∙ ap (λ (n : Store). get n at) none ∙ get-empty place_cmp at);
}
