-- The entries that a store shares leave a monitor's own numbers, and the records among them are the store's.
use Rattle.std.proofs.Common.{◌≡◌, ℕ, Bool, true, false, cond, not, List, [], ◌∷◌, map, Some, None, Less, T, refl, sym, ap, subst, ◌∙◌}
use Rattle.std.specs.Cmp.{eq_by_cmp_equiv}
use Rattle.std.specs.FinMap.{get, entries, is_sorted, find, get-entries, entries_sorted}
use Rattle.std.specs.FinMap.Entries.{below_all}
use Rattle.std.specs.List.{AllByRecursion}
use Rattle.std.specs.Ordering.{eq_by_cmp, is_eq, ordering_reverse}
use Rattle.mon_bytes.specs.declared.entry.Entry.{Entry}
use Rattle.mon_tx.specs.declared.key.Area.{Area}
use Rattle.mon_tx.specs.declared.key.Area.TheVariants as area
use Rattle.mon_tx.specs.declared.key.Key.{Key}
use Rattle.mon_tx.specs.declared.key.Key.TheVariants as key
use Rattle.mon_tx.specs.Decision.{Cell, Decision, or_before}
use Rattle.mon_tx.specs.Keys.{place, cell, number, is_local, shared}
use Rattle.mon_tx.specs.Map.{Place, place_cmp, Store}
use Rattle.mon_tx.proofs.Places.{places_total}
use Rattle.map_kv.proofs.Pairs.{first, second, less}
use Rattle.mon_msg.specs.Protocol.Changes.{Copy, ops_of}
use Rattle.mon_msg.specs.Protocol.Readings.{cell_after, shared_entries}
use Rattle.log_model.proofs.Lists.{all_map, all_both}
use Rattle.log_model.proofs.Places.{same_place, get_kept, is_shared, shared_is, local_named, tied}
use Rattle.log_model.proofs.Spares.{Spares, is_number, by_name}

abbrev pub Pair : Type 0
Pair = Place × List ℕ

-- ---- each entry of a list in order is found in it

pub below_each : (q : Place) (es : List Pair) → T (below_all place_cmp q es) → AllByRecursion (λ (e : Pair). place_cmp q e.0 ≡ Less) es
below_each q [] h = tt
below_each q (e ∷ es) h = (less _ (first _ _ h), below_each q es (second _ _ h))

apart : (p q : Place) → place_cmp p q ≡ Less → eq_by_cmp place_cmp q p ≡ false
apart p q e = ap is_eq (places_total.antisymm q p ∙ ap ordering_reverse e)

pub each_found : (es : List Pair) → T (is_sorted place_cmp es) → AllByRecursion (λ (e : Pair). find place_cmp e.0 es ≡ Some e.1) es
each_found [] h = tt
each_found (e ∷ es) h = (
  here,
  all_map _ _ (λ f p. ap (λ (b : Bool). cond b (Some e.1) (find place_cmp f.0 es)) (apart e.0 f.0 p.0) ∙ p.1) es
      (all_both (λ (f : Pair). place_cmp e.0 f.0 ≡ Less) (λ (f : Pair). find place_cmp f.0 es ≡ Some f.1) es (below_each e.0 es (first _ _ h)) (each_found es (second _ _ h))),
)
  where
    here : find place_cmp e.0 (e ∷ es) ≡ Some e.1
    here = ap (λ (b : Bool). cond b (Some e.1) (find place_cmp e.0 es)) ((eq_by_cmp_equiv places_total).refl e.0)

pub entries_found : (m : Store) → AllByRecursion (λ (e : Pair). get m e.0 ≡ Some e.1) (entries m)
entries_found m = all_map _ _ (λ e p. get-entries m e.0 ∙ p) (entries m) (each_found (entries m) (entries_sorted m))

-- ---- those that are shared

module _ (m : Store) where
  abbrev last : ℕ
  last = number m area.Paxos key.LastCommitted

  -- it is the store's, and none of the monitor's own
  record IsShared (e : Pair) : Type 0 where
    shared : is_local last e.0 ≡ false
    held : get m e.0 ≡ Some e.1

  is_shared_entry : (e : Pair) → get (shared m) e.0 ≡ Some e.1 → IsShared e
  is_shared_entry e h = by (is_local last e.0) refl (sym (get_kept m (is_shared last) e.0) ∙ ap (λ (s : Store). get s e.0) (sym (shared_is m last refl)) ∙ h)
    where
      by : (b : Bool) → is_local last e.0 ≡ b → cond (not b) (get m e.0) None ≡ Some e.1 → IsShared e
      by true t k = absurd cc
      by false t k = record { shared = t; held = k }

  entry_spares : (e : Pair) → IsShared e → Spares (ops_of (Copy (record { prefix = e.0.0; key = e.0.1; value = e.1 })))
  entry_spares e h = by_name (ops_of (Copy (record { prefix = e.0.0; key = e.0.1; value = e.1 }))) at
    where
      number_is_local : (a : Area) (k : Key) → is_number a k ≡ true → tied last a k ≡ true
      number_is_local area.Monitor key.ElectionEpoch t = refl
      number_is_local area.Monitor key.BootCount t = refl
      number_is_local area.Paxos key.LastPn t = refl
      number_is_local area.Paxos key.AcceptedPn t = refl
      number_is_local area.Paxos key.PendingV t = refl
      number_is_local area.Paxos key.PendingPn t = refl
      number_is_local area.Paxos key.LastCommitted t = refl
      number_is_local area.Sync key.InSync t = refl
      number_is_local area.Sync key.Floor t = refl
      number_is_local a k t = absurd cc

      at : (a : Area) (k : Key) → is_number a k ≡ true → cond {A = Decision} (eq_by_cmp place_cmp (place a k) e.0) (Some (Some e.1)) None ≡ None
      at a k t = by (eq_by_cmp place_cmp (place a k) e.0) refl
        where
          by : (b : Bool) → eq_by_cmp place_cmp (place a k) e.0 ≡ b → cond {A = Decision} b (Some (Some e.1)) None ≡ None
          by false q = refl
          by true q =
              let g : true ≡ false = sym (local_named last a k ∙ number_is_local a k t) ∙ ap (is_local last) (same_place (place a k) e.0 q) ∙ h.shared in absurd cc

  -- what holds of each record of the store holds of each record once an entry is put
  entry_keeps : (P : Cell → Type 0) → ((v : ℕ) → P (cell m area.Paxos (key.Version v))) → (e : Pair) → IsShared e
      → (u : ℕ) (c : Cell) → P c → P (or_before (cond (eq_by_cmp place_cmp (place area.Paxos (key.Version u)) e.0) (Some (Some e.1)) None) c)
  entry_keeps P all e h u c k = by (eq_by_cmp place_cmp (place area.Paxos (key.Version u)) e.0) refl
    where
      by : (b : Bool) → eq_by_cmp place_cmp (place area.Paxos (key.Version u)) e.0 ≡ b → P (or_before (cond b (Some (Some e.1)) None) c)
      by false q = k
      by true q = subst P (ap (get m) (same_place (place area.Paxos (key.Version u)) e.0 q) ∙ h.held) (all u)

  as_entries : (P : Entry → Type 0) (es : List Pair) → AllByRecursion (λ (e : Pair). P (record { prefix = e.0.0; key = e.0.1; value = e.1 })) es
      → AllByRecursion P (map (λ (e : Pair). record { prefix = e.0.0; key = e.0.1; value = e.1 }) es)
  as_entries P [] h = tt
  as_entries P (e ∷ es) h = (h.0, as_entries P es h.1)

  pub shared_spares : AllByRecursion (λ (e : Entry). Spares (ops_of (Copy e))) (shared_entries m)
  unfolding shared_entries
  shared_spares = as_entries (λ e. Spares (ops_of (Copy e))) (entries (shared m)) (all_map _ _ (λ e h. entry_spares e (is_shared_entry e h)) (entries (shared m)) (entries_found (shared m)))

  pub shared_records : (P : Cell → Type 0) → ((v : ℕ) → P (cell m area.Paxos (key.Version v)))
      → AllByRecursion (λ (e : Entry). (u : ℕ) (c : Cell) → P c → P (cell_after (ops_of (Copy e)) area.Paxos (key.Version u) c)) (shared_entries m)
  unfolding shared_entries
  shared_records P all =
      as_entries (λ e. (u : ℕ) (c : Cell) → P c → P (cell_after (ops_of (Copy e)) area.Paxos (key.Version u) c)) (entries (shared m))
      (all_map _ _ (λ e h. entry_keeps P all e (is_shared_entry e h)) (entries (shared m)) (entries_found (shared m)))
