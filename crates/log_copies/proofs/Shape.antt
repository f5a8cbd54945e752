-- Which keys a store has: a monitor's own, and those that a full synchronization gives up before it begins.
use Rattle.law_names.proofs.Runs.{AllValues}
use Rattle.law_names.proofs.Table.{AllByRecursion, Area, Cell, Erase, ErasePrefix, EraseRange, Key, KeyPlace, Mark, Op, Put, Store, apply, apply_op, decided, decision, empty, encoded, fold, get, is_local, later, number, ops_of, or_before, place, place_cmp, same_map, shared}
use Rattle.log_copies.proofs.Ends.{number_put}
use Rattle.log_copies.proofs.Own.{own_number}
use Rattle.log_copies.specs.Copies.{IsFuzzyCopy, IsRecord, is_own, is_past, shared_with_records}
use Rattle.log_copies.specs.Synchronizing.{IsShaped, is_given_up}
use Rattle.log_model.proofs.FoldKeys.{kept_is}
use Rattle.log_model.proofs.Places.{get_kept, is_shared, same_place, shared_is}
use Rattle.log_model.proofs.Sharing.{of_own}
use Rattle.log_model.specs.Windows.{is_kept_key}
use Rattle.mon_msg.specs.Protocol.Changes.{put_back}
use Rattle.mon_tx.proofs.After.{get-apply, get-apply_op}
use Rattle.mon_tx.proofs.Places.{exact_places, places_total}
use Rattle.mon_tx.specs.Keys.{area_text}
use Rattle.mon_tx.specs.Map.{Place, is_within}
use Rattle.mon_tx.specs.declared.key.Area.TheVariants as area
use Rattle.mon_tx.specs.declared.key.Key.TheVariants as key
use Rattle.std.proofs.Common.{Bool, List, None, Option, Some, [], ap, arith, cond, false, inl, inr, length, not, refl, sym, true, ℕ, ◌&&◌, ◌++◌, ◌^◌, ◌||◌, ◌∙◌, ◌∷◌, ◌≡◌, ◌≤◌, ◌⊎◌}
use Rattle.std.proofs.lemmas.List.{append-nil}
use Rattle.std.specs.FinMap.{get-empty}
use Rattle.std.specs.Ordering.{eq_by_cmp}
use Rattle.std.specs.Str.{bytes_eq}

-- ---- changes that keep the shape

abbrev pub PutsShaped : Op → Type 0
PutsShaped (Put prefix k v) = (is_own (prefix, k) ≡ true) ⊎ (is_given_up (prefix, k) ≡ true)
PutsShaped other = Unit {0}

taken_away : (b : Bool) (c : Cell) → c ≡ None → or_before (cond b (Some None) None) c ≡ None
taken_away true c e = refl
taken_away false c e = e

one_shaped : (op : Op) (m : Store) → PutsShaped op → IsShaped m → IsShaped (apply_op op m)
one_shaped (Put prefix k v) m h shape at not_own out = get-apply_op (Put prefix k v) m at ∙ by (eq_by_cmp place_cmp at (prefix, k)) refl h
  where
    by : (b : Bool) → eq_by_cmp place_cmp at (prefix, k) ≡ b → (is_own (prefix, k) ≡ true) ⊎ (is_given_up (prefix, k) ≡ true) → or_before (cond b (Some (Some v)) None) (get m at) ≡ None
    by false t h = shape at not_own out
    by true t (inl own) = let g : true ≡ false = sym own ∙ ap is_own (sym (same_place at (prefix, k) t)) ∙ not_own in absurd cc
    by true t (inr up) = let g : true ≡ false = sym up ∙ ap is_given_up (sym (same_place at (prefix, k) t)) ∙ out in absurd cc
one_shaped (Erase prefix k) m h shape at not_own out = get-apply_op (Erase prefix k) m at ∙ taken_away (eq_by_cmp place_cmp at (prefix, k)) (get m at) (shape at not_own out)
one_shaped (ErasePrefix prefix) m h shape at not_own out = get-apply_op (ErasePrefix prefix) m at ∙ taken_away (bytes_eq at.0 prefix) (get m at) (shape at not_own out)
one_shaped (EraseRange prefix from to) m h shape at not_own out =
    get-apply_op (EraseRange prefix from to) m at ∙ taken_away (bytes_eq at.0 prefix && is_within from to at.1) (get m at) (shape at not_own out)

pub still_shaped : (ops : List Op) (m : Store) → AllByRecursion PutsShaped ops → IsShaped m → IsShaped (apply ops m)
still_shaped [] m h shape = shape
still_shaped (op ∷ ops) m h shape = still_shaped ops (apply_op op m) h.1 (one_shaped op m h.0 shape)

-- ---- monitors of the log, and copies

-- a key that is a monitor's own only for this last version is a record's, so it is given up
local_given : (last : ℕ) (at : Place) → is_local last at ≡ true → is_own at ≡ false → is_given_up at ≡ true
local_given last = of_own (λ q. is_own q ≡ false → is_given_up q ≡ true) last (record {
  last_committed = λ h. refl;
  last_pn = λ h. refl;
  accepted_pn = λ h. refl;
  pending_v = λ h. refl;
  pending_pn = λ h. refl;
  behind = λ h. refl;
  epoch = λ h. let g : true ≡ false = sym (own_number area.Monitor key.ElectionEpoch refl) ∙ h in absurd cc;
  boots = λ h. let g : true ≡ false = sym (own_number area.Monitor key.BootCount refl) ∙ h in absurd cc;
  mark = λ h. let g : true ≡ false = sym (own_number area.Sync key.InSync refl) ∙ h in absurd cc;
  floor = λ h. let g : true ≡ false = sym (own_number area.Sync key.Floor refl) ∙ h in absurd cc;
})

module _ (log : List (List ℕ)) (fits : length log ≤ 2 ^ 62) (all : AllValues log) where
  fold_shaped : (c : ℕ) → c ≤ length log → (at : Place) → is_given_up at ≡ false → get (fold log c) at ≡ None
  fold_shaped c le at out = by (get (fold log c) at) refl
    where
      of_key : (a : Area) (k : Key) → is_kept_key a k ≡ true → is_given_up (place a k) ≡ true
      of_key area.Kv k t = refl
      of_key area.Logm k t = refl
      of_key area.Paxos k t = refl
      of_key area.Monitor k t = absurd cc
      of_key area.Sync k t = absurd cc

      by : (o : Cell) → get (fold log c) at ≡ o → o ≡ None
      by None e = refl
      by (Some x) e =
          let K = kept_is log fits all c le at x e in
          let g : true ≡ false = sym (of_key K.area K.key K.kept) ∙ ap is_given_up (sym K.is) ∙ out in absurd cc

  pub copy_shaped : (s e : ℕ) (x : KeyPlace) → e ≤ length log → (m : Store) → IsFuzzyCopy log s e x m → IsShaped m
  copy_shaped s e x le m copy at not_own out = by (is_past x at) refl
    where
      record_none : IsRecord log s e at (get m at) → get m at ≡ None
      record_none r = let g : true ≡ false = sym (ap is_given_up r.place) ∙ out in absurd cc

      by : (b : Bool) → is_past x at ≡ b → get m at ≡ None
      by true t = elim (copy.not_yet at not_own t) [ inl none ↦ none | inr r ↦ record_none r ]
      by false t = elim (copy.made at not_own t) [ inl f ↦ f.is ∙ fold_shaped f.version (let u = f.to in omega arith) at out | inr r ↦ record_none r ]

  pub monitor_shaped : (c : ℕ) → c ≤ length log → (m : Store) → shared m ≡ fold log c → IsShaped m
  monitor_shaped c le m same at not_own out = by (is_local last at) refl
    where
      last : ℕ
      last = number m area.Paxos key.LastCommitted

      by : (b : Bool) → is_local last at ≡ b → get m at ≡ None
      by false t = sym (ap (λ (s : Store). get s at) (shared_is m last refl) ∙ get_kept m (is_shared last) at ∙ ap (λ b. cond (not b) (get m at) None) t) ∙ ap (λ (s : Store). get s at) same ∙ fold_shaped c le at out
      by true t = let g : true ≡ false = sym (local_given last at t not_own) ∙ out in absurd cc

-- a store of which nothing is shared
pub nothing_shaped : (m : Store) → shared_with_records m ≡ empty → IsShaped m
nothing_shaped m none at not_own out =
    sym (get_kept m (λ q. not (is_own q)) at ∙ ap (λ b. cond (not b) (get m at) None) not_own) ∙ ap (λ (n : Store). get n at) none ∙ get-empty place_cmp at

-- ---- what a full synchronization gives up

undecided : (ops : List Op) (at : Place) → AllByRecursion (λ op. decided op at ≡ None) ops → decision ops at ≡ None
undecided [] at h = refl
undecided (op ∷ ops) at h = λ i. later (undecided ops at h.1 i) (h.0 i)

module _ (floor : ℕ) (last_pn promise : Option ℕ) (m : Store) (at : Place) (not_own : is_own at ≡ false) where
  back_none : decision (put_back key.LastPn last_pn ++ put_back key.AcceptedPn promise) at ≡ None
  back_none = undecided _ at (by last_pn promise)
    where
      by : (a b : Option ℕ) → AllByRecursion (λ op. decided op at ≡ None) (put_back key.LastPn a ++ put_back key.AcceptedPn b)
      by None None = tt
      by (Some n) None = (number_put area.Paxos key.LastPn refl at not_own n, tt)
      by None (Some n) = (number_put area.Paxos key.AcceptedPn refl at not_own n, tt)
      by (Some n) (Some p) = (number_put area.Paxos key.LastPn refl at not_own n, (number_put area.Paxos key.AcceptedPn refl at not_own p, tt))

  three : (k l p : Bool) (c : Cell)
      → or_before (later (later (later (later (later None (cond p (Some None) None)) (cond l (Some None) None)) (cond k (Some None) None)) None) None) c ≡ cond (k || (l || p)) None c
  three true l p c = by l p
    where
      by : (l p : Bool) → or_before (later (later (later (later (later None (cond p (Some None) None)) (cond l (Some None) None)) (Some None)) None) None) c ≡ None
      by true true = refl
      by true false = refl
      by false true = refl
      by false false = refl
  three false true true c = refl
  three false true false c = refl
  three false false true c = refl
  three false false false c = refl

  marked_cell : get (apply (ops_of (Mark floor last_pn promise)) m) at ≡ cond (is_given_up at) None (get m at)
  marked_cell =
      get-apply (ops_of (Mark floor last_pn promise)) m at
      ∙ (λ i. or_before (later (later (later (later (later (back_none i) (cond (bytes_eq at.0 (area_text area.Paxos)) (Some None) None)) (cond (bytes_eq at.0 (area_text area.Logm)) (Some None) None))
      (cond (bytes_eq at.0 (area_text area.Kv)) (Some None) None)) (number_put area.Sync key.Floor refl at not_own floor i)) (number_put area.Sync key.InSync refl at not_own 1 i)) (get m at))
      ∙ three (bytes_eq at.0 (area_text area.Kv)) (bytes_eq at.0 (area_text area.Logm)) (bytes_eq at.0 (area_text area.Paxos)) (get m at)

-- nothing is shared then
pub nothing_shared : (floor : ℕ) (last_pn promise : Option ℕ) (m : Store) → IsShaped m → shared_with_records (apply (encoded (Mark floor last_pn promise ∷ [])) m) ≡ empty
nothing_shared floor last_pn promise m shape =
    ap (λ (ops : List Op). shared_with_records (apply ops m)) (append-nil (ops_of (Mark floor last_pn promise)))
    ∙ same_map places_total exact_places _ _ (λ at. get_kept (apply (ops_of (Mark floor last_pn promise)) m) (λ q. not (is_own q)) at ∙ by at (is_own at) refl ∙ sym (get-empty place_cmp at))
  where
    by : (at : Place) (b : Bool) → is_own at ≡ b → cond (not b) (get (apply (ops_of (Mark floor last_pn promise)) m) at) None ≡ None
    by at true t = refl
    by at false t = marked_cell floor last_pn promise m at t ∙ given (is_given_up at) refl
      where
        given : (b : Bool) → is_given_up at ≡ b → cond b None (get m at) ≡ None
        given true u = refl
        given false u = shape at t u
