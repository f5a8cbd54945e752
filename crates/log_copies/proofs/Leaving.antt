-- A monitor's own changes leave the versions that it has: its numbers, its epoch, its starts, and a vote for the next version.
use Rattle.law_names.proofs.Runs.{AllValues}
use Rattle.law_names.proofs.Table.{AllByRecursion, Area, Boot, Change, Copy, Decision, Epoch, Key, Last, Learn, Mark, Numbers, Op, Promise, Record, Store, Unmark, Vote, apply, cell, decision, encoded, get, is_local, joined, later, learn_changes, number, number_bytes, number_in, ops_of, or_before, place, place_cmp, put, same_area, same_map, text}
use Rattle.log_copies.proofs.Taken.{encoded_append}
use Rattle.log_copies.specs.Versions.{HasVersions, IsOwnChange, store_after}
use Rattle.log_model.proofs.Places.{get_kept, is_shared, local_named, same_place, shared_is, tied}
use Rattle.log_model.proofs.Records.{AreVersions, versions_spare}
use Rattle.mon_msg.proofs.Joining.{apply-joined}
use Rattle.mon_tx.proofs.After.{decision-append, get-apply}
use Rattle.mon_tx.proofs.Named.{decided-put}
use Rattle.mon_tx.proofs.Places.{exact_places, places_total}
use Rattle.mon_tx.specs.Keys.{same_key}
use Rattle.mon_tx.specs.Map.{Place}
use Rattle.mon_tx.specs.declared.key.Area.TheVariants as area
use Rattle.mon_tx.specs.declared.key.Key.TheVariants as key
use Rattle.std.proofs.Common.{Bool, List, None, Option, Some, [], ap, arith, cond, false, length, not, refl, subst, suc, sym, true, ℕ, ◌&&◌, ◌++◌, ◌+◌, ◌^◌, ◌∙◌, ◌∷◌, ◌≡◌, ◌≤◌}
use Rattle.std.proofs.lemmas.Bool.{eq-eqb}
use Rattle.std.specs.Ordering.{eq_by_cmp}

-- changes that leave the keys that a monitor with c versions shares, its last version and its mark
record Leaves (c : ℕ) (ops : List Op) : Type 0 where
  shared : (at : Place) → is_local c at ≡ false → decision ops at ≡ None
  last : decision ops (place area.Paxos key.LastCommitted) ≡ None
  mark : decision ops (place area.Sync key.InSync) ≡ None

leaves_none : (c : ℕ) → Leaves c []
leaves_none c = record { shared = λ at h. refl; last = refl; mark = refl }

leaves_append : (c : ℕ) (a b : List Op) → Leaves c a → Leaves c b → Leaves c (a ++ b)
leaves_append c a b L M = record {
  shared = λ at h. decision-append a b at ∙ (λ i. later (M.shared at h i) (L.shared at h i));
  last = decision-append a b (place area.Paxos key.LastCommitted) ∙ (λ i. later (M.last i) (L.last i));
  mark = decision-append a b (place area.Sync key.InSync) ∙ (λ i. later (M.mark i) (L.mark i));
}

-- a put of a key that isn't shared
one : (c : ℕ) (a : Area) (k : Key) (bytes : List ℕ) → tied c a k ≡ true → (same_area area.Paxos a && same_key key.LastCommitted k) ≡ false → (same_area area.Sync a && same_key key.InSync k) ≡ false → Leaves c (put a k bytes ∷ [])
one c a k bytes own other others = record {
  shared = λ at h. ap (λ b. cond b (Some (Some bytes)) None) (apart at h);
  last = decided-put a k bytes area.Paxos key.LastCommitted ∙ ap (λ b. cond b (Some (Some bytes)) None) other;
  mark = decided-put a k bytes area.Sync key.InSync ∙ ap (λ b. cond b (Some (Some bytes)) None) others;
}
  where
    apart : (at : Place) → is_local c at ≡ false → eq_by_cmp place_cmp at (place a k) ≡ false
    apart at h = by (eq_by_cmp place_cmp at (place a k)) refl
      where
        by : (b : Bool) → eq_by_cmp place_cmp at (place a k) ≡ b → b ≡ false
        by true t = let g : false ≡ true = sym h ∙ ap (is_local c) (same_place at (place a k) t) ∙ local_named c a k ∙ own in absurd cc
        by false t = refl

change_leaves : (c : ℕ) (x : Change) → IsOwnChange c x → Leaves c (ops_of x)
change_leaves c (Boot n) h = one c area.Monitor key.BootCount (number_bytes n) refl refl refl
change_leaves c (Epoch e) h = one c area.Monitor key.ElectionEpoch (number_bytes e) refl refl refl
change_leaves c (Numbers pn) h =
    leaves_append c (put area.Paxos key.LastPn (number_bytes pn) ∷ []) (put area.Paxos key.AcceptedPn (number_bytes pn) ∷ []) (one c area.Paxos key.LastPn (number_bytes pn) refl refl refl)
    (one c area.Paxos key.AcceptedPn (number_bytes pn) refl refl refl)
change_leaves c (Promise pn) h = one c area.Paxos key.AcceptedPn (number_bytes pn) refl refl refl
change_leaves c (Vote v pn value) h =
    leaves_append c (put area.Paxos (key.Version v) (text value) ∷ []) (put area.Paxos key.PendingV (number_bytes v) ∷ put area.Paxos key.PendingPn (number_bytes pn) ∷ [])
    (one c area.Paxos (key.Version v) (text value) next refl refl)
    (leaves_append c (put area.Paxos key.PendingV (number_bytes v) ∷ []) (put area.Paxos key.PendingPn (number_bytes pn) ∷ []) (one c area.Paxos key.PendingV (number_bytes v) refl refl refl)
    (one c area.Paxos key.PendingPn (number_bytes pn) refl refl refl))
  where
    next : tied c area.Paxos (key.Version v) ≡ true
    next = rw (eq-eqb (c + 1) v (omega arith)) refl
change_leaves c (Record v value) h = absurd h
change_leaves c (Learn v value) h = absurd h
change_leaves c (Last v) h = absurd h
change_leaves c (Copy e) h = absurd h
change_leaves c (Mark floor a b) h = absurd h
change_leaves c Unmark h = absurd h

changes_leave : (c : ℕ) (cs : List Change) → AllByRecursion (IsOwnChange c) cs → Leaves c (encoded cs)
changes_leave c [] h = leaves_none c
changes_leave c (x ∷ cs) h = leaves_append c (ops_of x) (encoded cs) (change_leaves c x h.0) (changes_leave c cs h.1)

module _ (log : List (List ℕ)) (c : ℕ) (m : Store) (V : HasVersions log c m) where
  left : (ops : List Op) → Leaves c ops → HasVersions log c (apply ops m)
  left ops L = record {
    within = V.within;
    last = last;
    folded = shared_is (apply ops m) c last ∙ same_map places_total exact_places _ _ (λ at. get_kept (apply ops m) (is_shared c) at ∙ by at (is_local c at) refl ∙ sym (get_kept m (is_shared c) at))
        ∙ sym (shared_is m c V.last) ∙ V.folded;
  }
    where
      last : number (apply ops m) area.Paxos key.LastCommitted ≡ c
      last =
          ap number_in (get-apply ops m (place area.Paxos key.LastCommitted) ∙ ap (λ (d : Decision). or_before d (get m (place area.Paxos key.LastCommitted))) L.last) ∙ V.last

      by : (at : Place) (b : Bool) → is_local c at ≡ b → cond (not (is_local c at)) (get (apply ops m) at) None ≡ cond (not (is_local c at)) (get m at) None
      by at true t = rw t refl
      by at false t = ap (λ (x : Option (List ℕ)). cond (not (is_local c at)) x None) (get-apply ops m at ∙ ap (λ (d : Decision). or_before d (get m at)) (L.shared at t))

  -- the versions stay
  pub still_has : (cs : List Change) → AllByRecursion (IsOwnChange c) cs → HasVersions log c (apply (joined (encoded cs)) m)
  still_has cs h = subst (HasVersions log c) (sym (apply-joined (encoded cs) m)) (left (encoded cs) (changes_leave c cs h))

-- ---- the mark

-- a monitor's own changes leave its mark
pub mark_kept : (c : ℕ) (cs : List Change) → AllByRecursion (IsOwnChange c) cs → (m : Store) → cell (store_after cs m) area.Sync key.InSync ≡ cell m area.Sync key.InSync
mark_kept c cs h m =
    let L = changes_leave c cs h in
    ap (λ (n : Store). cell n area.Sync key.InSync) (apply-joined (encoded cs) m) ∙ get-apply (encoded cs) m (place area.Sync key.InSync) ∙ ap (λ (d : Decision). or_before d (get m (place area.Sync key.InSync))) L.mark

-- and so do the next versions
pub mark_learned : (log : List (List ℕ)) → length log ≤ 2 ^ 62 → AllValues log → (values : List (List Op)) (c e : ℕ) → c + length values ≤ length log → AreVersions log (suc c) values → (m : Store)
    → cell (store_after (learn_changes (suc c) values ++ Last e ∷ []) m) area.Sync key.InSync ≡ cell m area.Sync key.InSync
mark_learned log fits all values c e le W m =
    let changes = learn_changes (suc c) values in
    let S = versions_spare log fits all values c le W in
    ap (λ (n : Store). cell n area.Sync key.InSync) (apply-joined (encoded (changes ++ Last e ∷ [])) m) ∙ get-apply (encoded (changes ++ Last e ∷ [])) m (place area.Sync key.InSync)
    ∙ ap (λ (d : Decision). or_before d (get m (place area.Sync key.InSync))) (ap (λ (ops : List Op). decision ops (place area.Sync key.InSync)) (encoded_append changes (Last e ∷ []))
    ∙ decision-append (encoded changes) (encoded (Last e ∷ [])) (place area.Sync key.InSync) ∙ (λ i. later (decided-put area.Paxos key.LastCommitted (number_bytes e) area.Sync key.InSync i) (S.mark i)))
